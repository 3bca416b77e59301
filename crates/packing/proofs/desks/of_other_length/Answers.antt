-- `packing::desks::of_other_length` meets its contract.
use Rattle.std.proofs.Common.{ap, ◌∙◌}
use Rattle.std.specs.Option.{unwrap_or}
use Rattle.desk.specs.declared.DeskRefusal.TheVariants.{DeskLimits}
use Rattle.desk.specs.Desks.{desk_refused}
use Rattle.packing.specs.DeskBytesLaws.{other_told}
use Rattle.packing.proofs.desks.of_other_length.Goals as goal

pub returns : goal.returns
returns c = c.of_cause.ensures
    ∙ ap desk_refused (c.unwrap_or-why.ensures ∙ ap (λ o. unwrap_or o DeskLimits) c.err.ensures.value)
    ∙ other_told c.args.p c.args.words _ c.check_open.ensures
