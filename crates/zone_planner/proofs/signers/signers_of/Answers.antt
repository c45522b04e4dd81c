use Rattle.std.proofs.Common.{arith, ◌≡◌}
use Rattle.zone_planner.proofs.EachSigner.{more_signers}
use Rattle.zone_planner.proofs.signers.signers_of.Goals as goal

pub loop-key-preserved : goal.loop-key-preserved
loop-key-preserved c =
    let at : c.len-number.result ≡ c.loop-key.key-index = omega (arith, c.len-number.ensures, c.loop-key.invariant.counted) in
    more_signers c.args.origin.now c.args.keys.now c.args.request.now c.args.unsigned.now c.loop-key.key-index c.len-number.result c.loop-key.signers.items c.push.new.self.items
    c.key-item.result c.in_ok-signer_of.field-0 c.loop-key-test.true at c.key-item.is c.in_ok-push.ensures.items c.in_ok-signer_of.ensures.ok c.loop-key.invariant
