-- `desk::checks::check_page` meets its contract.
use Rattle.std.proofs.Common.{◌≡◌, refl, sym, ◌∙◌, ◌<◌, ◌≤◌, arith, length, None, Some}
use Rattle.std.proofs.lemmas.Result.{err_from_is_err_and}
use Rattle.syntax.specs.Letter.{letter_limit}
use Rattle.desk.specs.declared.DeskRefusal.TheVariants.{DeskLimits}
use Rattle.desk.specs.Desks.{page_limit, page_letters, good_page}
use Rattle.desk.specs.Limits.{put_limits, put-page-right}
use Rattle.desk.specs.Checking.{put_13_page, put_13, put_14, put_4, put_6, put_clear, put_few}
use Rattle.desk.proofs.checks.check_page.Goals as goal
use Rattle.desk.proofs.checks.check_page.Goals.{After-first_bad-bad}

pub returns-then-not-good_page : goal.returns-then-not-good_page
returns-then-not-good_page c = put_13_page _ _ _ _ (sym c.good_page.ensures ∙ c.if-not-good_page.true)

pub returns-in_err-held : goal.returns-in_err-held
returns-in_err-held c =
    let none : c.limits_held.result ≡ None = grind arith in
    let why : c.in_err-held.field-0.0 ≡ DeskLimits = grind arith in
    let p = err_from_is_err_and c.from_residual.result c.from_residual.ensures.1 in
    let kept = put-page-right _ _ _ (sym c.good_page.ensures ∙ c.if-not-good_page.false) _ c.limits_held.ensures in
    rw (p.1, p.2, why) (put_13 _ _ c.args.letters.now c.args.words _ kept none)

pub returns-then-from-ge-MAX_PAGES : goal.returns-then-from-ge-MAX_PAGES
returns-then-from-ge-MAX_PAGES c =
    let there : c.limits_held.result ≡ Some c.in_ok-held.held = grind arith in
    let kept = put-page-right _ _ _ (sym c.good_page.ensures ∙ c.if-not-good_page.false) _ c.limits_held.ensures in
    put_14 _ _ c.args.letters.now c.args.words _ kept _ there (omega arith)

-- what is known of the letters held and of the page wherever the sums are made
there_at : (c : After-first_bad-bad) → c.limits_held.result ≡ Some c.in_ok-held.held
there_at c = grind arith

kept_at : (c : After-first_bad-bad) → c.limits_held.result ≡ put_limits (length c.args.page.now) c.args.desk.now c.args.letters.now
kept_at c = put-page-right _ _ _ (sym c.good_page.ensures ∙ c.if-not-good_page.false) _ c.limits_held.ensures

few_at : (c : After-first_bad-bad) → (c.in_ok-held.held ≤ letter_limit) × (length c.args.page.now ≤ page_letters)
few_at c = put_few _ c.args.page.now c.args.letters.now c.args.words _ (kept_at c) _ (there_at c)

pub overflow_cast-bad : goal.overflow_cast-bad
overflow_cast-bad c = let few = few_at (goal.at.overflow_cast-bad c).After-first_bad-bad in record { fits = omega (arith, few.1) }

pub returns-then-bad-n : goal.returns-then-bad-n
returns-then-bad-n c = rw c.into.ensures
    (put_4 _ c.args.page.now c.args.letters.now c.args.words _ (kept_at (goal.at.returns-then-bad-n c).After-first_bad-bad) _
    (there_at (goal.at.returns-then-bad-n c).After-first_bad-bad) (omega arith) _ c.first_bad-bad.ensures c.if-bad-n.true)

pub overflow_add-needed : goal.overflow_add-needed
overflow_add-needed c = let few = few_at (goal.at.overflow_add-needed c).After-first_bad-bad in record { fits = omega (arith, few.0, few.1) }

pub overflow_add-needed-2 : goal.overflow_add-needed-2
overflow_add-needed-2 c = let few = few_at (goal.at.overflow_add-needed-2 c).After-first_bad-bad in record { fits = omega (arith, few.0, few.1) }

pub overflow_mul-needed : goal.overflow_mul-needed
overflow_mul-needed c = let few = few_at (goal.at.overflow_mul-needed c).After-first_bad-bad in record { fits = omega (arith, few.0, few.1) }

pub overflow_cast-needed : goal.overflow_cast-needed
overflow_cast-needed c = let few = few_at (goal.at.overflow_cast-needed c).After-first_bad-bad in record { fits = omega (arith, few.0, few.1) }

pub returns-then-words-needed : goal.returns-then-words-needed
returns-then-words-needed c = rw c.into-then-words-needed.ensures
    (put_6 _ c.args.page.now c.args.letters.now c.args.words _ (kept_at (goal.at.returns-then-words-needed c).After-first_bad-bad) _
    (there_at (goal.at.returns-then-words-needed c).After-first_bad-bad) (omega arith) _ c.first_bad-bad.ensures c.if-bad-n.false _ c.if-words-needed.true refl)

pub returns : goal.returns
returns c = put_clear _ c.args.page.now c.args.letters.now c.args.words _ (kept_at (goal.at.returns c).After-first_bad-bad) _
    (there_at (goal.at.returns c).After-first_bad-bad) (omega arith) _ c.first_bad-bad.ensures c.if-bad-n.false _ c.if-words-needed.false refl
