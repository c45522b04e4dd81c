use Rattle.std.proofs.Common.{List, arith, subst, sym}
use Rattle.std.proofs.lemmas.Simd.{map-map}
use Rattle.zone_proto.specs.Sets.{RRset}
use Rattle.zone_response.specs.Sections.{sent_set}
use Rattle.zone_response.specs.declared.response.Sent.{Sent}
use Rattle.ready_referrals.proofs.KeptSets.{all_of_them, one_more, some_is}
use Rattle.ready_referrals.specs.Referrals.{unsigned, AreSetsKept}
use Rattle.ready_referrals.proofs.kept_sets.keep_unsigned.Goals as goal

pub loop-set-preserved : goal.loop-set-preserved
loop-set-preserved c =
    one_more c.args.cut.now (λ (s : Sent). unsigned (sent_set s)) c.args.sets.now c.loop-set.set-index c.set-item.result c.loop-set.kept.items c.push.new.self.items
    c.in-Some.records c.loop-set-test.true c.set-item.is c.loop-set.invariant (some_is _ _ _ c.in-Some.is c.in_ok-records.ensures) c.in_ok-push.ensures.items

pub returns : goal.returns
returns c =
    subst (λ (ss : List RRset). AreSetsKept c.args.cut.now ss c.loop-set.kept.items) (sym (map-map unsigned sent_set c.args.sets.now))
    (all_of_them c.args.cut.now (λ (s : Sent). unsigned (sent_set s)) c.args.sets.now c.loop-set.set-index c.loop-set.kept.items (omega (arith, c.loop-set-test.false))
    c.loop-set.invariant)
