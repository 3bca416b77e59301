-- `desk::pages::take_off` meets its contract.
use Rattle.std.proofs.Common.{◌≡◌, refl, ◌-◌, get_or, ◌∙◌, ap, arith}
use Rattle.desk.specs.Pages.{page-within, less-held}
use Rattle.desk.proofs.pages.take_off.Goals as goal

pub overflow_sub-result : goal.overflow_sub-result
overflow_sub-result c = omega (arith, c.requires.2, page-within c.args.desk.now _ _ c.from.ensures (omega (arith, c.requires.0)))

pub returns : goal.returns
returns c =
    let size : c.from.result ≡ get_or c.args.desk.now.lengths (c.args.desk.now.count - 1) 0 = c.from.ensures ∙ ap (λ i. get_or c.args.desk.now.lengths i 0) c.from-at.ensures in
    (refl, omega (arith, c.requires.2, size, less-held c.args.desk.now c.requires.0))
