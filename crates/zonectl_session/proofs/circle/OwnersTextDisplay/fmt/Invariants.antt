use Rattle.std.proofs.Common.{codes}
use Rattle.std.specs.Fmt.{IsPlainFormatter}
use Rattle.zone_proto.specs.Text.{name_text}
use Rattle.zone_map.specs.DenialOwners.{denial_owners}
use Rattle.zonectl_session.proofs.Listing.{Counting, Showing}
use Rattle.zonectl_session.proofs.circle.OwnersTextDisplay.fmt.Given as goal

abbrev pub invariant-loop : goal.invariant-loop
invariant-loop g l = Counting (denial_owners l.self.inner.now.records l.self.record_type.0) l.iterator' l.count

abbrev pub invariant-loop-owner : goal.invariant-loop-owner
invariant-loop-owner g l =
    IsPlainFormatter l.fn.f → Showing g.W.Write.write_str_gives (codes "circle") name_text (denial_owners l.self.inner.now.records l.self.record_type.0) l.owner-iterator l.fn.f l.f
