-- A cause of the desk is known by its number and value.
use Rattle.std.specs.Prelude.{◌≡◌, refl, List, [], ◌∷◌, ◌≤◌, Result, ℕ}
use Rattle.std.proofs.Common.{arith}
use Rattle.refusals.specs.RefusalLaws.{number_positive, answer_same, said_same, wider_of, wrapped_known}
use Rattle.desk.specs.declared.DeskRefusal.{DeskRefusal}
use Rattle.desk.specs.declared.DeskRefusal.TheVariants.{Base, DeskLimits, DeskFull, DeskEmpty}
use Rattle.desk.specs.Desks.{desk_number, desk_refused, desk_answer}

-- 0 is no cause's number
pub desk_number_positive : (r : DeskRefusal) → 1 ≤ desk_number r
desk_number_positive (Base r) = number_positive r
desk_number_positive DeskLimits = omega arith
desk_number_positive DeskFull = omega arith
desk_number_positive DeskEmpty = omega arith

-- number and value fix the cause
abbrev added : List DeskRefusal
added = DeskLimits ∷ DeskFull ∷ DeskEmpty ∷ []

known_by : (r : DeskRefusal) → wider_of desk_refused Base added (desk_refused r) ≡ r
known_by (Base r) = wrapped_known desk_refused Base added (omega arith, (omega arith, (omega arith, tt))) r
known_by DeskLimits = refl
known_by DeskFull = refl
known_by DeskEmpty = refl

pub desk_refused_same : (r s : DeskRefusal) → desk_refused r ≡ desk_refused s → r ≡ s
desk_refused_same = said_same desk_refused (wider_of desk_refused Base added) known_by

pub desk_answer_same : (r s : Result ℕ DeskRefusal) → desk_answer r ≡ desk_answer s → r ≡ s
desk_answer_same = answer_same desk_refused desk_refused_same desk_number_positive
