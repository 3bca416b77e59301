-- Number and value fix the 64-bit answer, so the promises of the calls from C fix answers and buffers.
use Rattle.std.specs.Prelude.{◌≡◌, List, ℕ}
use Rattle.std.proofs.Common.{sym, ap, ap₂, ◌∙◌}
use Rattle.loading.specs.Load.{load_answer, load_table}
use Rattle.bits.specs.Fields.{same_parts}
use Rattle.parser.specs.Parse.{parsed_answer}
use Rattle.parser.specs.Unique.{parses_one}
use Rattle.canonical.specs.Canonicalize.{canonicalized_answer}
use Rattle.canonical.specs.Unique.{canonicalizes_one}
use Rattle.desk.specs.Desks.{desk_answer, if_accepted}
use Rattle.desk.specs.Unique.{puts_one, withdraws_one}
use Rattle.reach.specs.Locate.{located_answer}
use Rattle.reach.specs.Unique.{locates_one}
use Rattle.packing.specs.Packing.{unpacked}
use Rattle.packing.specs.DeskBytes.{desk_of_bytes, bytes_of_desk}
use Rattle.wumbyra.specs.Packed.{LocatesText, DeskOpensText, DeskPutsText, DeskWithdrawsText}
use Rattle.wumbyra.specs.Packed.{ParsesText, FlattensText, TotalsText, TermTotalsText, CanonicalizesText, span_text, total_text}

pub unpacked_same : (r s : ℕ) → unpacked r ≡ unpacked s → r ≡ s
unpacked_same r s e = same_parts 32 r s (ap (λ a. a.number) e) (ap (λ a. a.value) e)

module _ (text : List ℕ) where
  pub loads_text_one : (r s : ℕ) → unpacked r ≡ load_answer text → unpacked s ≡ load_answer text → r ≡ s
  loads_text_one r s f g = unpacked_same r s (f ∙ sym g)

  pub spans_text_one : (tape code : List ℕ) (count l k r s : ℕ) → unpacked r ≡ span_text text tape code count l k
      → unpacked s ≡ span_text text tape code count l k → r ≡ s
  spans_text_one tape code count l k r s f g = unpacked_same r s (f ∙ sym g)

  pub total_text_one : (code : List ℕ) (count account r s : ℕ) → unpacked r ≡ total_text text code count account
      → unpacked s ≡ total_text text code count account → r ≡ s
  total_text_one code count account r s f g = unpacked_same r s (f ∙ sym g)

  pub parses_text_one : (tape ws us vs xs ys zs : List ℕ) (r s : ℕ) → ParsesText text tape ws us xs ys r → ParsesText text tape ws vs xs zs s
      → (r ≡ s) × (us ≡ vs) × (ys ≡ zs)
  parses_text_one tape ws us vs xs ys zs r s f g =
      let e = parses_one (load_table text) tape ws us vs xs ys zs f.parsed g.parsed f.parses g.parses in
      (unpacked_same r s (f.answers ∙ ap parsed_answer e.0 ∙ sym g.answers), e.1, e.2)

  pub flattens_text_one : (code : List ℕ) (count : ℕ) (tape a b : List ℕ) (r s : ℕ) → FlattensText text code count tape a r
      → FlattensText text code count tape b s → (r ≡ s) × (a ≡ b)
  flattens_text_one code count tape a b r s f g = (unpacked_same r s (f.answers ∙ sym g.answers), f.leaves ∙ sym g.leaves)

  pub totals_text_one : (code : List ℕ) (count : ℕ) (cells a b : List ℕ) (r s : ℕ)
      → TotalsText text code count cells a r → TotalsText text code count cells b s → (r ≡ s) × (a ≡ b)
  totals_text_one code count cells a b r s f g = (unpacked_same r s (f.answers ∙ sym g.answers), f.leaves ∙ sym g.leaves)

  pub term_totals_text_one : (code : List ℕ) (count start first last : ℕ) (cells a b : List ℕ) (r s : ℕ)
      → TermTotalsText text code count start first last cells a r → TermTotalsText text code count start first last cells b s → (r ≡ s) × (a ≡ b)
  term_totals_text_one code count start first last cells a b r s f g =
      (unpacked_same r s (f.answers ∙ sym g.answers), f.leaves ∙ sym g.leaves)

  pub canonicalizes_text_one : (code : List ℕ) (count : ℕ) (ts us us_too ws vs vs_too xs ys ys_too : List ℕ) (r s : ℕ)
      → CanonicalizesText text code count ts us ws vs xs ys r → CanonicalizesText text code count ts us_too ws vs_too xs ys_too s
      → (r ≡ s) × (us ≡ us_too) × (vs ≡ vs_too) × (ys ≡ ys_too)
  canonicalizes_text_one code count ts us us_too ws vs vs_too xs ys ys_too r s f g =
      let e = canonicalizes_one (load_table text) code count ts us us_too ws vs vs_too xs ys ys_too f.canonicalized g.canonicalized
      f.canonicalizes g.canonicalizes in
      (unpacked_same r s (f.answers ∙ ap canonicalized_answer e.0 ∙ sym g.answers), e.1, e.2, e.3)

  pub locates_text_one : (tape : List ℕ) (r s : ℕ) → LocatesText text tape r → LocatesText text tape s → r ≡ s
  locates_text_one tape r s f g =
      let e = locates_one (load_table text) tape f.located g.located f.locates g.locates in
      unpacked_same r s (f.answers ∙ ap located_answer e ∙ sym g.answers)

  pub desk_opens_text_one : (desk a b words ms ns : List ℕ) (r s : ℕ) → DeskOpensText text desk a words ms r → DeskOpensText text desk b words ns s
      → (r ≡ s) × (a ≡ b) × (ms ≡ ns)
  desk_opens_text_one desk a b words ms ns r s f g =
      (unpacked_same r s (f.answers ∙ sym g.answers), f.leaves ∙ sym g.leaves, f.words_left ∙ sym g.words_left)

  pub desk_puts_text_one : (desk a b page letters ks ls words ms ns : List ℕ) (r s : ℕ) → DeskPutsText text desk a page letters ks words ms r
      → DeskPutsText text desk b page letters ls words ns s → (r ≡ s) × (a ≡ b) × (ks ≡ ls) × (ms ≡ ns)
  desk_puts_text_one desk a b page letters ks ls words ms ns r s f g =
      let e = puts_one (load_table text) (desk_of_bytes desk) page f.after g.after letters ks ls words ms ns f.desk_answered g.desk_answered
      f.puts g.puts in (
        unpacked_same r s (f.answers ∙ ap desk_answer e.0 ∙ sym g.answers),
        f.leaves ∙ ap₂ (λ x d. if_accepted (desk_answer x) (bytes_of_desk d) desk) e.0 e.1 ∙ sym g.leaves,
        e.2,
        e.3,
      )

  pub desk_withdraws_text_one : (desk a b letters : List ℕ) (r s : ℕ) → DeskWithdrawsText text desk a letters r
      → DeskWithdrawsText text desk b letters s → (r ≡ s) × (a ≡ b)
  desk_withdraws_text_one desk a b letters r s f g =
      let e = withdraws_one (load_table text) (desk_of_bytes desk) f.after g.after letters f.desk_answered g.desk_answered
      f.withdraws g.withdraws in (
        unpacked_same r s (f.answers ∙ ap desk_answer e.0 ∙ sym g.answers),
        f.leaves ∙ ap₂ (λ x d. if_accepted (desk_answer x) (bytes_of_desk d) desk) e.0 e.1 ∙ sym g.leaves,
      )
