-- Holding a line's bytes: one law for both ways of the code.
use Rattle.std.specs.Prelude.{◌≡◌, refl, Bool, true, false, cond, List, ℕ, ◌+◌, ◌≤◌, ◌<◌, min, length}
use Rattle.std.proofs.Common.{sym, ap, ap₂, ◌∙◌, arith}
use Rattle.std.proofs.lemmas.List.Edits.{sets}
use Rattle.vector_text.specs.declared.lines.Input.{Input}
use Rattle.vector_text.specs.declared.lines.Step.TheVariants.{Within, Complete}
use Rattle.text.specs.Text.{Puts}
use Rattle.vector_text.specs.Cases.{before_byte, has_byte, most_held, kept_size, chunk_left, Holds}
use Rattle.vector_text.specs.Folds.{has_some, has_none}

-- `left` and `held` as the code has them, and what is put
pub record Holding (line chunk : List ℕ) (i : Input) (left held : List ℕ) (kept : ℕ) (after : List ℕ) (size : ℕ) : Type 0 where
  pub lies : left ≡ chunk_left i chunk
  pub stops : held ≡ before_byte 10 left
  pub keeps : kept ≡ kept_size i
  pub leaves : after ≡ sets line kept held
  pub counts : size ≡ min (kept + length held) (most_held line)

module _ (line chunk : List ℕ) (i : Input) (left held : List ℕ) (kept : ℕ) (after : List ℕ) (size : ℕ) (h : Holding line chunk i left held kept after size) where
  bytes : held ≡ before_byte 10 (chunk_left i chunk)
  bytes = h.stops ∙ ap (before_byte 10) h.lies

  holds_as : (b : Bool) → has_byte 10 (chunk_left i chunk) ≡ b → (from : ℕ) → from ≡ i.from + length held + cond b 1 0
      → Holds line chunk i after (record { from = from; to = i.to; size = size; step = cond b Complete Within })
  holds_as b e from f = record {
    held = record {
      leaves = h.leaves ∙ ap₂ (λ k bs. sets line k bs) h.keeps bytes;
      ends = h.counts ∙ ap₂ (λ k n. min (k + n) (most_held line)) h.keeps (ap length bytes);
    };
    completes = ap (λ x. cond x Complete Within) (sym e);
    passes = f ∙ ap₂ (λ n m. i.from + n + m) (ap length bytes) (ap (λ x. cond x 1 0) (sym e));
    same_end = refl;
  }

  pub hold_line : length held < length left
      → Holds line chunk i after (record { from = i.from + length held + 1; to = i.to; size = size; step = Complete })
  hold_line l =
      let has = has_some 10 (chunk_left i chunk) (omega (arith, l, ap length bytes, ap length h.lies)) in
      holds_as true has (i.from + length held + 1) refl

  pub hold_rest : length left ≤ length held
      → Holds line chunk i after (record { from = i.from + length held; to = i.to; size = size; step = Within })
  hold_rest l =
      let has = has_none 10 (chunk_left i chunk) (omega (arith, l, ap length bytes, ap length h.lies)) in
      holds_as false has (i.from + length held) (omega arith)
