-- `listing_lines::put_accounts` meets its contract. The invariant: what is left to put gives what was to be put.
use Rattle.std.proofs.Common.{refl, inl, arith}
use Rattle.text.specs.Putting.{put-start, put_turn, put_done}
use Rattle.listing_lines.specs.Lines.{accounts_turn, accounts_over, accounts-length}
use Rattle.listing_lines.proofs.put_accounts.Goals as goal

pub loop-i-init : goal.loop-i-init
loop-i-init c = put-start _ _ _ _ _ _ (omega arith) c.min-end.ensures refl

pub loop-i-preserved : goal.loop-i-preserved
loop-i-preserved c =
    let turn = accounts_turn c.loop-i.i c.args.litres.now c.loop-i-test.true in
    put_turn _ _ _ _ _ _ _ _ _ _ _ _ c.loop-i.invariant turn c.loop-i.invariant.long c.put_account-end.ensures

pub returns : goal.returns
returns c =
    let litres = c.args.litres.now in
    record {
      puts = put_done _ _ _ _ _ _ _ c.loop-i.invariant (inl (accounts_over c.loop-i.i litres c.loop-i-test.false));
      litres_len_bound = accounts-length litres c.requires (λ k. (c.type_inv.litres k).fits);
    }
