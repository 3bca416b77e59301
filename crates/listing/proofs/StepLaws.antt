-- How many bytes of a file are its tape's letters, in each case of its end. No answer needs these laws, since `strip_suffix` makes the cases.
use Rattle.std.specs.Prelude.{◌≡◌, refl, List, [], ◌∷◌, ℕ, ◌-◌, ◌≤◌, length, take, get_or}
use Rattle.std.proofs.Common.{arith, eq-eqb, ne_eqb}
use Rattle.std.proofs.Math.Seq.{take-length}
use Rattle.listing.specs.Listing.{closed, tape_of}

-- the first n bytes of a file are its tape
pub record Letters (file : List ℕ) (n : ℕ) : Type 0 where
  pub within : n ≤ length file
  pub front : take n file ≡ tape_of file

pub letters_none : (file : List ℕ) → length file ≡ 0 → Letters file 0
unfolding tape_of closed
letters_none [] e = record { within = omega arith; front = refl }
letters_none (x ∷ file) e = absurd (omega arith)

pub letters-closed : (file : List ℕ) → get_or file (length file - 1) 0 ≡ 10 → Letters file (length file - 1)
unfolding tape_of closed
letters-closed file e = record { within = omega arith; front = rw (eq-eqb (get_or file (length file - 1) 0) 10 e) }

pub letters_open : (file : List ℕ) → (get_or file (length file - 1) 0 ≡ 10 → ⊥) → Letters file (length file)
unfolding tape_of closed
letters_open file e = record { within = omega arith; front = rw (ne_eqb (get_or file (length file - 1) 0) 10 e) (take-length file) }
