use Rattle.std.proofs.Common.{cond, true, ap, ◌∙◌, is_eq}
use Rattle.std.specs.List.{list_any}
use Rattle.zone_proto.specs.declared.rr_key.RrKey.{RrKey}
use Rattle.zone_proto.specs.Keys.{key_cmp, key_eq}
use Rattle.zone_planner.proofs.EachSigner.{more_keys}
use Rattle.zone_planner.proofs.signers.set_of.Goals as goal

pub loop-key-preserved : goal.loop-key-preserved
loop-key-preserved c =
    more_keys c.args.keys.now c.loop-key.set.keys c.insert.new.self.keys c.loop-key.key-index c.key-item.result c.loop-key-test.true c.key-item.is
    (λ q. c.in_ok-insert.ensures.updates.0 q ∙ ap (λ (k : RrKey). cond (is_eq (key_cmp k q)) true (list_any (key_eq q) c.loop-key.set.keys)) c.in_ok-clone.ensures.copy.ok)
    c.loop-key.invariant
