-- `wumbyra::wumbyra_load` meets its contract.
use Rattle.std.proofs.Common.{arith}
use Rattle.wumbyra.specs.PackedLaws.{load_packed, load_small}
use Rattle.wumbyra.proofs.wumbyra_load.Goals as goal

pub overflow_cast-pattern : goal.overflow_cast-pattern
overflow_cast-pattern c = let few = load_small c.args.text.now c.in-Ok.pattern c.in-Ok.ensures in record { fits = omega (arith, few) }

pub returns-in-Ok : goal.returns-in-Ok
returns-in-Ok c = load_packed _ _ c.in-Ok.ensures _ c.packed.ensures

pub returns-in-Err : goal.returns-in-Err
returns-in-Err c = load_packed _ _ c.in-Err.ensures _ c.of_cause.ensures
