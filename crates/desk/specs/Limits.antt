-- What the functions that look at a desk answer, and the laws of their loop.
use Rattle.std.specs.Prelude.{◌≡◌, refl, Bool, ◌&&◌, List, [], ◌∷◌, ℕ, suc, ◌+◌, ◌-◌, ◌*◌, ◌≤◌, ◌<◌, leb, get_or, take, None, Option, Some}
use Rattle.std.proofs.Math.Path.{sym, ap}
use Rattle.std.proofs.Common.{◌∙◌, arith, leb-true, le-leb, length-take, drop-cons}
use Rattle.std.specs.Bool.{then_some}
use Rattle.std.specs.List.{slice_range}
use Rattle.std.proofs.Math.Decide.{dec_le}
use Rattle.std.proofs.Math.Bool.{true, false, cond}
use Rattle.std.proofs.lemmas.Bool.{lt-leb}
use Rattle.std.proofs.Math.ListN.{length, drop, drop_of_length-le}
use Rattle.std.proofs.Math.Seq.{length-slice}
use Rattle.syntax.specs.Bools.{and_fst, and_snd}
use Rattle.syntax.specs.Letter.{is_letter, first_bad, letter_limit}
use Rattle.desk.specs.declared.Desk.{Desk}
use Rattle.desk.specs.Desks.{page_limit, page_letters, good_page, every, sum, lengths_held, held, letters_held, limits_kept, desk_good}
use Rattle.desk.specs.Lists.{no_bad, some-bad, drop-take}

unfoldable pub pages_limits : (pages : List ℕ) → Option ℕ
pages_limits xs = cond (every good_page xs) (Some (sum xs)) None

unfoldable pub desk_limits : Desk → Option ℕ
desk_limits d = cond (limits_kept d) (Some (held d)) None

unfoldable pub held_limits : Desk → (letters : List ℕ) → Option ℕ
held_limits d letters = cond (desk_good d letters) (Some (held d)) None

-- the same, where a page of so many letters is to be put
unfoldable pub put_limits : (letters : ℕ) → Desk → (cells : List ℕ) → Option ℕ
put_limits n d cells = cond (good_page n && desk_good d cells) (Some (held d)) None

kept_broken : (n : ℕ) → Some n ≡ None → ⊥
kept_broken n e = let z : ◌≡◌ {A = ℕ} 0 1 = ap (λ l. told l) e in omega arith
  where
    told : Option ℕ → ℕ
    told (Some m) = 0
    told None = 1

kept_same : (n m : ℕ) → Some n ≡ Some m → n ≡ m
kept_same n m e = ap (λ l. told l) e
  where
    told : Option ℕ → ℕ
    told (Some j) = j
    told None = 0

-- what is told of a test by what was answered
module _ (b : Bool) (h : ℕ) (r : Option ℕ) (e : r ≡ cond b (Some h) None) where
  pub by_kept : (n : ℕ) → r ≡ Some n → (b ≡ true) × (n ≡ h)
  by_kept n k = go b refl (sym k ∙ e)
    where
      go : (t : Bool) → b ≡ t → Some n ≡ cond t (Some h) None → (b ≡ true) × (n ≡ h)
      go true q f = (q, kept_same n h f)
      go false q f = absurd (kept_broken n f)

  pub by_broken : r ≡ None → b ≡ false
  by_broken k = go b refl (sym k ∙ e)
    where
      go : (t : Bool) → b ≡ t → None ≡ cond t (Some h) None → b ≡ false
      go true q f = absurd (kept_broken h (sym f))
      go false q f = q

pub page_upto : (n : ℕ) → good_page n ≡ true → n ≤ page_letters
unfolding good_page
page_upto n h = leb-true n page_letters (and_snd (leb 1 n) (leb n page_letters) h)

pub pages_upto : (xs : List ℕ) → every good_page xs ≡ true → sum xs ≤ page_letters * length xs
pages_upto [] h = omega arith
pages_upto (x ∷ xs) h =
    omega (arith, page_upto x (and_fst (good_page x) (every good_page xs) h), pages_upto xs (and_snd (good_page x) (every good_page xs) h))

-- so many letters are on a desk at most
limits_count : (d : Desk) → limits_kept d ≡ true → d.count ≤ page_limit
unfolding limits_kept
limits_count d h = leb-true d.count page_limit (and_fst (leb d.count page_limit) (every good_page (lengths_held d)) h)

pub limits_few : (d : Desk) → limits_kept d ≡ true → (held d ≤ letter_limit) × (held d ≤ page_letters * d.count) × (d.count ≤ page_limit)
unfolding limits_kept held lengths_held
limits_few d h =
    let few = limits_count d h in
    let upto = pages_upto (take d.count d.lengths) (and_snd (leb d.count page_limit) (every good_page (take d.count d.lengths)) h) in
    let size = length-take d.count d.lengths in
    (omega (arith, few, upto, size), omega (arith, upto, size), few)

-- ── `sum_pages`: what is summed up to position i ──
pub record PagesSummed (xs : List ℕ) (i total : ℕ) : Type 0 where
  pub within : i ≤ length xs
  pub few : total ≤ page_letters * i
  pub good : every good_page xs ≡ every good_page (drop i xs)
  pub sums : sum xs ≡ total + sum (drop i xs)

pub pages_summed_start : (xs : List ℕ) → PagesSummed xs 0 0
pages_summed_start xs = record { within = omega arith; few = omega arith; good = refl; sums = omega arith }

module _ (xs : List ℕ) (i total : ℕ) (s : PagesSummed xs i total) where
  pub pages_summed_end : length xs ≤ i → Some total ≡ pages_limits xs
  unfolding pages_limits
  pages_summed_end h =
      let none = drop_of_length-le xs h in
      let g : every good_page xs ≡ true = s.good ∙ ap (every good_page) none in
      let t : sum xs ≡ total = s.sums ∙ (let z : sum (drop i xs) ≡ 0 = ap sum none in omega arith) in
      sym (ap (λ b. cond b (Some (sum xs)) None) g ∙ ap Some t)

  -- the length there is n
  module _ (l : i < length xs) (n : ℕ) (e : n ≡ get_or xs i 0) where
    first_good : every good_page xs ≡ (good_page n && every good_page (drop (suc i) xs))
    first_good = s.good ∙ ap (every good_page) (drop-cons xs i 0 l) ∙ ap (λ m. good_page m && every good_page (drop (suc i) xs)) (sym e)

    pub pages_summed_broken : good_page n ≡ false → None ≡ pages_limits xs
    unfolding pages_limits
    pages_summed_broken g =
        sym (ap (λ b. cond b (Some (sum xs)) None) (first_good ∙ ap (λ b. b && every good_page (drop (suc i) xs)) g))

    pub pages_summed_few : length xs ≤ page_limit → good_page n ≡ true → total + n ≤ letter_limit
    pages_summed_few h g = omega (arith, s.few, page_upto n g)

    pub pages_summed_next : good_page n ≡ true → PagesSummed xs (i + 1) (total + n)
    pages_summed_next g =
        let j : suc i ≡ i + 1 = omega arith in
        let more : sum (drop i xs) ≡ get_or xs i 0 + sum (drop (suc i) xs) = ap sum (drop-cons xs i 0 l) in
        let moved : sum xs ≡ total + n + sum (drop (suc i) xs) = omega (arith, s.sums, more, e) in
        record {
          within = omega arith;
          few = omega (arith, s.few, page_upto n g);
          good = first_good ∙ ap (λ b. b && every good_page (drop (suc i) xs)) g ∙ ap (λ m. every good_page (drop m xs)) j;
          sums = moved ∙ ap (λ m. total + n + sum (drop m xs)) j;
        }

-- ── `limits_of`: the lengths up to the count are there where it is at most 30 ──
module _ (d : Desk) (whole : length d.lengths ≡ page_limit) where
  pub count_over : (length d.lengths < d.count) → None ≡ desk_limits d
  unfolding desk_limits limits_kept
  count_over h = rw (lt-leb d.count page_limit (omega (arith, h, whole)))

  pub limits_summed : d.count ≤ length d.lengths → (part : List ℕ) → part ≡ slice_range d.lengths 0 d.count → (r : Option ℕ) → r ≡ pages_limits part → r ≡ desk_limits d
  unfolding desk_limits limits_kept pages_limits held lengths_held
  limits_summed h part q r e =
      let all : d.count - 0 ≡ d.count = omega arith in
      e ∙ ap pages_limits (q ∙ ap (λ n. take n d.lengths) all) ∙ rw (le-leb d.count page_limit (omega (arith, h, whole)))

-- ── `limits_held` ──
module _ (d : Desk) (letters : List ℕ) (r : Option ℕ) (e : r ≡ desk_limits d) where
  limits_told : (n : ℕ) → r ≡ Some n → (limits_kept d ≡ true) × (n ≡ held d)
  unfolding desk_limits
  limits_told = by_kept (limits_kept d) (held d) r e

  pub held_broken : r ≡ None → None ≡ held_limits d letters
  unfolding desk_limits held_limits desk_good
  held_broken k =
      sym (ap (λ b. cond (b && every is_letter (letters_held d letters)) (Some (held d)) None) (by_broken (limits_kept d) (held d) r e k))

  module _ (n : ℕ) (k : r ≡ Some n) where
    pub held_upto : n ≤ letter_limit
    held_upto = let t = limits_told n k in omega (arith, t.1, limits_few d t.0)

    -- the cells that were looked at are those that are held
    part_held : (part : List ℕ) → part ≡ take (letter_limit - (letter_limit - n)) (drop (letter_limit - n) letters) → letter_limit ≤ length letters
        → part ≡ letters_held d letters
    unfolding letters_held
    part_held part q l =
        let m : letter_limit ≡ letter_limit - n + (letter_limit - (letter_limit - n)) = omega (arith, held_upto) in
        q ∙ sym (drop-take (letter_limit - n) (letter_limit - (letter_limit - n)) letters (omega (arith, m, l)))
        ∙ ap (λ j. drop (letter_limit - n) (take j letters)) (sym m)
        ∙ ap (λ j. drop (letter_limit - j) (take letter_limit letters)) (limits_told n k).1

    module _ (bad : ℕ) (part : List ℕ) (f : bad ≡ first_bad part)
        (q : part ≡ take (letter_limit - (letter_limit - n)) (drop (letter_limit - n) letters)) (l : letter_limit ≤ length letters) where
      part_length : length part ≡ n
      unfolding letters_held
      part_length =
          let t = limits_told n k in
          ap length (part_held part q l) ∙ length-slice (letter_limit - held d) letter_limit letters l
          ∙ (let e : letter_limit - (letter_limit - held d) ≡ n = omega (arith, t.1, held_upto) in e)

      pub held-bad : bad < n → None ≡ held_limits d letters
      unfolding held_limits desk_good
      held-bad h =
          let bad_letters : every is_letter (letters_held d letters) ≡ false =
          ap (every is_letter) (sym (part_held part q l)) ∙ some-bad part (omega (arith, f, h, part_length)) in
          sym (ap (λ b. cond (limits_kept d && b) (Some (held d)) None) bad_letters
          ∙ ap (λ b. cond (b && false) (Some (held d)) None) (limits_told n k).0)

      pub held-good : n ≤ bad → Some n ≡ held_limits d letters
      unfolding held_limits desk_good
      held-good h =
          let good : every is_letter (letters_held d letters) ≡ true =
          ap (every is_letter) (sym (part_held part q l)) ∙ no_bad part (omega (arith, f, h, part_length)) in
          sym (ap (λ b. cond (limits_kept d && b) (Some (held d)) None) good
          ∙ ap (λ b. cond (b && true) (Some (held d)) None) (limits_told n k).0 ∙ ap Some (sym (limits_told n k).1))

      pub held_told : (s : Option ℕ) → s ≡ then_some (leb n bad) n → s ≡ held_limits d letters
      held_told s e = e ∙ go (dec_le n bad)
        where
          go : Dec (n ≤ bad) → then_some (leb n bad) n ≡ held_limits d letters
          go (yes h) = ap (λ b. then_some b n) (le-leb n bad h) ∙ held-good h
          go (no h) = ap (λ b. then_some b n) (lt-leb n bad (omega arith)) ∙ held-bad (omega arith)

-- ── a page of so many letters, behind the test of its length ──
module _ (n : ℕ) (d : Desk) (cells : List ℕ) where
  pub put-page_wrong : good_page n ≡ false → None ≡ put_limits n d cells
  unfolding put_limits
  put-page_wrong e = rw e

  pub put-page-right : good_page n ≡ true → (r : Option ℕ) → r ≡ held_limits d cells → r ≡ put_limits n d cells
  unfolding put_limits held_limits
  put-page-right e r f = f ∙ rw e
