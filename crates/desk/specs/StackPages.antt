-- A desk that holds a stack's pages: what that means, and that an opening, a put and a withdrawal keep it.
use Rattle.std.specs.Prelude.{◌≡◌, refl, true, List, [], ◌∷◌, ◌++◌, ℕ, suc, ◌+◌, ◌-◌, ◌*◌, ◌≤◌, ◌<◌, length, get_or, drop, set}
use Rattle.std.proofs.Common.{sym, ◌∙◌, arith, le-leb, length-set, length-append, take-suc-set, take-take, take_at, drop_at}
use Rattle.std.proofs.Math.Path.{ap}
use Rattle.std.proofs.Math.ListN.{take}
use Rattle.std.proofs.Math.Seq.{length-sets}
use Rattle.std.proofs.lemmas.List.Edits.{sets}
use Rattle.syntax.specs.Bools.{and_intro}
use Rattle.syntax.specs.Letter.{is_letter, letter_limit}
use Rattle.desk.specs.declared.Desk.{Desk}
use Rattle.desk.specs.Desks.{page_limit, page_letters, good_page, every, sum, lengths_held, held, letters_held, limits_kept, desk_good}
use Rattle.desk.specs.Desks.{empty_desk, with_page, without_page}
use Rattle.desk.specs.Stacks.{Stack, joined}
use Rattle.desk.specs.Lists.{every_append, sum-append}
use Rattle.desk.specs.Limits.{page_upto}
use Rattle.desk.specs.Pages.{less-held}
use Rattle.desk.specs.Moves.{none_held, put-letters, less-letters}

-- ── the pages of a stack ──
-- their lengths, the first put first: as a desk keeps them
abbrev pub lengths_of : Stack → List ℕ
lengths_of [] = []
lengths_of (page ∷ s) = lengths_of s ++ (length page ∷ [])

lengths_count : (s : Stack) → length (lengths_of s) ≡ length s
lengths_count [] = refl
lengths_count (page ∷ s) =
    let e : length (lengths_of s) + 1 ≡ suc (length s) = omega (arith, lengths_count s) in
    length-append (lengths_of s) (length page ∷ []) ∙ e

lengths_sum : (s : Stack) → sum (lengths_of s) ≡ length (joined s)
lengths_sum [] = refl
lengths_sum (page ∷ s) =
    omega (arith, sum-append (lengths_of s) (length page ∷ []), length-append page (joined s), lengths_sum s)

-- every page is one that a desk takes
abbrev pub Pages : Stack → Type 0
Pages [] = Unit {0}
Pages (page ∷ s) = (good_page (length page) ≡ true) × (every is_letter page ≡ true) × Pages s

pages_upto : (s : Stack) → Pages s → length (joined s) ≤ page_letters * length s
pages_upto [] h = omega arith
pages_upto (page ∷ s) h = omega (arith, length-append page (joined s), page_upto (length page) h.0, pages_upto s h.2)

pages_good : (s : Stack) → Pages s → every good_page (lengths_of s) ≡ true
pages_good [] h = refl
pages_good (page ∷ s) h = every_append good_page (lengths_of s) (length page ∷ []) (pages_good s h.2) (and_intro h.0 refl)

pages_letters : (s : Stack) → Pages s → every is_letter (joined s) ≡ true
pages_letters [] h = refl
pages_letters (page ∷ s) h = every_append is_letter page (joined s) h.1 (pages_letters s h.2)

-- ── a desk that holds a stack's pages ──
pub record Holds (cells : ℕ) (s : Stack) (d : Desk) (letters : List ℕ) : Type 0 where
  pub room : length d.lengths ≡ page_limit
  pub count : d.count ≡ length s
  pub few : length s ≤ page_limit
  pub lengths : take (length s) d.lengths ≡ lengths_of s
  pub pages : Pages s
  pub size : length letters ≡ cells
  pub long : 1 ≤ length s → letter_limit ≤ cells
  pub holds : letters_held d letters ≡ joined s

module _ (cells : ℕ) (s : Stack) (d : Desk) (letters : List ℕ) (h : Holds cells s d letters) where
  the_lengths : lengths_held d ≡ lengths_of s
  unfolding lengths_held
  the_lengths = ap (λ n. take n d.lengths) h.count ∙ h.lengths

  pub held-joined : held d ≡ length (joined s)
  unfolding held
  held-joined = ap sum the_lengths ∙ lengths_sum s

  pub good-held : desk_good d letters ≡ true
  unfolding desk_good limits_kept
  good-held =
      and_intro
      (and_intro (le-leb d.count page_limit (omega (arith, h.count, h.few))) (ap (every good_page) the_lengths ∙ pages_good s h.pages))
      (ap (every is_letter) h.holds ∙ pages_letters s h.pages)

  held_upto : held d ≤ letter_limit
  held_upto = omega (arith, held-joined, pages_upto s h.pages, h.few)

-- nothing is held
pub empty_holds : (letters : List ℕ) → Holds (length letters) [] empty_desk letters
empty_holds letters =
    record {
      room = refl;
      count = refl;
      few = omega arith;
      lengths = refl;
      pages = tt;
      size = refl;
      long = λ k. absurd (omega arith);
      holds = none_held letters;
    }

-- ── a page is put ──
module _ (cells : ℕ) (s : Stack) (d : Desk) (letters page : List ℕ) (h : Holds cells s d letters) (long : letter_limit ≤ cells)
    (few : length s < page_limit) (good : good_page (length page) ≡ true) (spelt : every is_letter page ≡ true) where
  put_lengths : take (suc (length s)) (set d.lengths d.count (length page)) ≡ lengths_of (page ∷ s)
  put_lengths =
      ap (λ n. take (suc (length s)) (set d.lengths n (length page))) h.count
      ∙ take-suc-set d.lengths (length s) (length page) (omega (arith, few, h.room))
      ∙ ap (λ xs. xs ++ (length page ∷ [])) h.lengths

  put_upto : held d + length page ≤ letter_limit
  put_upto =
      omega (arith, pages_upto (page ∷ s) (good, spelt, h.pages), length-append page (joined s), held-joined cells s d letters h, few)

  pub put_holds : Holds cells (page ∷ s) (with_page d (length page)) (sets letters (letter_limit - (held d + length page)) page)
  put_holds =
      record {
        room = length-set d.lengths d.count (length page) ∙ h.room;
        count = ap suc h.count;
        few = few;
        lengths = put_lengths;
        pages = (good, spelt, h.pages);
        size = length-sets letters (letter_limit - (held d + length page)) page ∙ h.size;
        long = λ k. long;
        holds = put-letters d page (omega (arith, h.count, few, h.room)) letters (omega (arith, long, h.size)) put_upto
            ∙ ap (λ xs. page ++ xs) h.holds;
      }

-- ── the last page put is withdrawn ──
module _ (cells : ℕ) (s : Stack) (d : Desk) (letters page : List ℕ) (h : Holds cells (page ∷ s) d letters) where
  less_lengths : take (length s) d.lengths ≡ lengths_of s
  less_lengths =
      sym (take-take (length s) (suc (length s)) d.lengths (omega arith))
      ∙ ap (take (length s)) h.lengths
      ∙ take_at (lengths_of s) (length page ∷ []) (length s) (lengths_count s)

  less_count : d.count - 1 ≡ length s
  less_count = omega (arith, h.count)

  pub left-held : held (without_page d) ≡ length (joined s)
  unfolding held lengths_held
  left-held = ap (λ n. sum (take n d.lengths)) less_count ∙ ap sum less_lengths ∙ lengths_sum s

  left-letters : letters_held (without_page d) letters ≡ joined s
  left-letters =
      let one : 1 ≤ d.count = omega (arith, h.count) in
      let all = held-joined cells (page ∷ s) d letters h in
      let size : get_or d.lengths (d.count - 1) 0 ≡ length page =
      omega (arith, less-held d one, left-held, all, length-append page (joined s)) in
      less-letters d letters (omega (arith, h.long (omega arith), h.size)) (held_upto cells (page ∷ s) d letters h) one
      ∙ ap (λ n. drop n (letters_held d letters)) size ∙ ap (drop (length page)) h.holds ∙ drop_at page (joined s) (length page) refl

  pub less_holds : Holds cells s (without_page d) letters
  less_holds =
      record {
        room = h.room;
        count = less_count;
        few = omega (arith, h.few);
        lengths = less_lengths;
        pages = h.pages.2;
        size = h.size;
        long = λ k. h.long (omega arith);
        holds = left-letters;
      }
