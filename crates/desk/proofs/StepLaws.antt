-- What single steps on a desk come to: testing a page's length, the limits of a count and its lengths, and a page put on or
-- taken off. No answer needs these laws, since `contains`, `then_some` and `?` make the cases, and a desk is changed where it lies.
use Rattle.std.specs.Prelude.{◌≡◌, false, List, ℕ, suc, ◌+◌, ◌-◌, ◌≤◌, ◌<◌, leb, get_or, take, set, Option, None, Result, Ok}
use Rattle.std.proofs.Common.{ap, ◌∙◌, arith, le-leb}
use Rattle.std.proofs.lemmas.Bool.{lt-leb}
use Rattle.desk.specs.declared.Desk.{Desk}
use Rattle.desk.specs.declared.DeskRefusal.{DeskRefusal}
use Rattle.desk.specs.Desks.{page_limit, page_letters, good_page, lengths_held, held, limits_kept, with_page, without_page}
use Rattle.desk.specs.Limits.{pages_limits, desk_limits}
use Rattle.desk.specs.Pages.{less-held}

-- ── a page's length ──
module _ (n : ℕ) where
  pub page-empty : n < 1 → false ≡ good_page n
  unfolding good_page
  page-empty h = rw (lt-leb 1 n h)

  pub page-filled : 1 ≤ n → leb n page_letters ≡ good_page n
  unfolding good_page
  page-filled h = rw (le-leb 1 n h)

-- ── the limits of a count and its lengths ──
abbrev pub desk_of : (count : ℕ) → (lengths : List ℕ) → Desk
desk_of n ls = record { count = n; lengths = ls }

module _ (count : ℕ) (lengths : List ℕ) where
  pub count_over : page_limit < count → None ≡ desk_limits (desk_of count lengths)
  unfolding desk_limits limits_kept
  count_over h = rw (lt-leb count page_limit h)

  pub limits_summed : count ≤ page_limit → (r : Option ℕ) → r ≡ pages_limits (take count lengths) → r ≡ desk_limits (desk_of count lengths)
  unfolding desk_limits limits_kept pages_limits held lengths_held
  limits_summed h r e = e ∙ rw (le-leb count page_limit h)

-- ── a page put on, and a page taken off ──
pub with_page-made : (d : Desk) (n : ℕ) → record { count = d.count + 1; lengths = set d.lengths d.count n } ≡ with_page d n
with_page-made d n = let e : d.count + 1 ≡ suc d.count = omega arith in ap (λ c. record { count = c; lengths = set d.lengths d.count n }) e

-- a desk that a call leaves, and what the call answers
pub record DeskAfter : Type 0 where
  pub desk : Desk
  pub answer : Result ℕ DeskRefusal

-- the desk without its last page, and the letters then held
abbrev pub less_page : Desk → DeskAfter
less_page d = record { desk = without_page d; answer = Ok (held (without_page d)) }

pub less-made : (d : Desk) → 1 ≤ d.count → (letters size : ℕ) → letters ≡ held d → size ≡ get_or d.lengths (d.count - 1) 0
    → record { desk = without_page d; answer = Ok (letters - size) } ≡ less_page d
less-made d h letters size e f =
    let g : letters - size ≡ held (without_page d) = omega (arith, e, f, less-held d h) in
    ap (λ n. record { desk = without_page d; answer = Ok n }) g
