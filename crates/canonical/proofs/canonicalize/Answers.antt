-- `canonical::canonicalize` meets its contract.
use Rattle.std.proofs.Common.{refl, sym, ap, length-take-le}
use Rattle.canonical.specs.Canonicalize.{canonicalized_answer}
use Rattle.canonical.specs.CanonicalLaws.{Laid, laid, laid-room, settle_refused, settle_read}
use Rattle.canonical.proofs.canonicalize.Goals as goal
use Rattle.canonical.proofs.canonicalize.Goals.{In-Ok}

-- the letters are laid
spelled : (c : In-Ok) → Laid c.args.p c.args.code.now c.args.count c.args.tape.now c.flatten-flattened.new.tape c.in-Ok.n
spelled c = laid _ _ _ _ _ _ c.flatten-flattened.ensures _ c.in-Ok.is

pub returns-in_default : goal.returns-in_default
returns-in_default c = let e = c.in_default.is in rw e (settle_refused _ _ _ _ _ _ c.flatten-flattened.ensures _ _ _ e)

pub slice_bounds-parse-end : goal.slice_bounds-parse-end
slice_bounds-parse-end c = laid-room _ _ _ _ _ _ (spelled c)

pub slice_bounds-parse-end-2 : goal.slice_bounds-parse-end-2
slice_bounds-parse-end-2 c = sym (length-take-le _ _ (laid-room _ _ _ _ _ _ (spelled c)))

pub returns-in_default-parsed : goal.returns-in_default-parsed
returns-in_default-parsed c = settle_read _ _ _ _ _ _ (spelled (goal.at.returns-in_default-parsed c).In-Ok) _ _ _ _ _ c.parse-parsed.ensures _ refl

pub returns : goal.returns
returns c = settle_read _ _ _ _ _ _ (spelled (goal.at.returns c).In-Ok) _ _ _ _ _ c.parse-parsed.ensures _ (ap canonicalized_answer (sym c.in-Ok-parsed.is))
