use Rattle.std.proofs.Common.{true, codes, refl}
use Rattle.zone_proto.specs.Text.{name_text}
use Rattle.zone_map.specs.DenialOwners.{denial_owners}
use Rattle.zonectl_session.proofs.Listing.{showing_more}
use Rattle.zonectl_session.proofs.circle.OwnersTextDisplay.fmt.Goals as goal

pub loop-owner-preserved : goal.loop-owner-preserved
loop-owner-preserved g c plain =
    let shown = c.loop-owner.invariant plain in
    showing_more g.W.Write.write_str_gives (codes "circle") name_text (denial_owners c.args.self.now.inner.now.records c.args.self.now.record_type.0)
    c.loop-owner.owner-iterator c.in-Some-owner.owner.now c.next-in-loop-owner.new.self c.args.f.now c.loop-owner.f c.writeln-in-loop-owner.new.self
    shown c.in-Some-owner.ensures.steps (c.in_ok-writeln-2.ensures.writes shown.written.plain (refl {a = true}))
