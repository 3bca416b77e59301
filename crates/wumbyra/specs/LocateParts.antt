-- The reach, and the position at which a tape resumes, can be read off the value of `wumbyra_locate`.
use Rattle.std.specs.Prelude.{◌≡◌, List, ℕ, ◌+◌, ◌*◌, ◌/◌, ◌%◌, ◌≤◌, length}
use Rattle.std.proofs.Common.{sym, ap, subst, ◌∙◌, arith}
use borrow.Author.Tests.{ltb-false}
use Rattle.syntax.specs.Letter.{letter_limit}
use Rattle.syntax.specs.Trees.{root}
use Rattle.refusals.specs.Refusals.{answer}
use Rattle.refusals.specs.CheckLaws.{zero_clear}
use Rattle.bits.specs.Fields.{splits_back}
use Rattle.loading.specs.Load.{load_table}
use Rattle.semantics.specs.Begins.{Reach, Resumes}
use Rattle.reach.specs.Locate.{located_answer, locate_order, locate_refusal, Tells}
use Rattle.packing.specs.Packing.{unpacked}
use Rattle.wumbyra.specs.Packed.{LocatesText}

module _ (text tape : List ℕ) (r : ℕ) (h : LocatesText text tape r) (ok : (locate_refusal (load_table text) tape).number ≡ 0) where
  told : Tells (root (load_table text)) tape h.located
  told = h.locates.tells ok

  short : length tape ≤ letter_limit
  unfolding locate_refusal
  short = ltb-false letter_limit (length tape) (zero_clear (locate_order (load_table text) tape) (answer 0 0) ok).1.0

  said : unpacked r ≡ answer 0 (told.reach * 65536 + told.resume)
  said = h.answers ∙ ap located_answer told.is

  parts : ((told.reach * 65536 + told.resume) / 65536 ≡ told.reach) × ((told.reach * 65536 + told.resume) % 65536 ≡ told.resume)
  parts = splits_back 16 told.reach told.resume (omega (arith, told.resumes.within, short))

  -- where no cause holds, the number is 0, and the two halves of the value are the two positions
  pub text_located : ((unpacked r).number ≡ 0) × Reach (root (load_table text)) tape ((unpacked r).value / 65536)
      × Resumes (root (load_table text)) tape ((unpacked r).value % 65536)
  text_located =
      let v : (unpacked r).value ≡ told.reach * 65536 + told.resume = ap (λ a. a.value) said in (
        ap (λ a. a.number) said,
        subst (Reach (root (load_table text)) tape) (sym (ap (λ x. x / 65536) v ∙ parts.0)) told.reaches,
        subst (Resumes (root (load_table text)) tape) (sym (ap (λ x. x % 65536) v ∙ parts.1)) told.resumes,
      )
