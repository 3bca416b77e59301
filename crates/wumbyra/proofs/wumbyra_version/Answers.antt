-- `wumbyra::wumbyra_version` meets its contract.
use mathlib.Core.Path.{refl}
use Rattle.wumbyra.proofs.wumbyra_version.Goals as goal

pub returns : goal.returns
returns c = refl
