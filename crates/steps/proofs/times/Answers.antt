use Rattle.bits.specs.Unions.{times_small}
use native.Mathlib.Omega.{arith}
use Rattle.steps.proofs.times.Goals as goal

pub overflow_mul-result : goal.overflow_mul-result
overflow_mul-result c = omega (arith, times_small 64 c.args.mask c.args.e c.requires (omega (arith, c.ranges.mask)))
