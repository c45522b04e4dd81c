use Rattle.std.proofs.Common.{◌≡◌, ◌∙◌, ap, sym, subst}
use Rattle.std.specs.Arc.{arc_value}
use Rattle.zone_response.specs.Queries as queries
use Rattle.zone_response.specs.Queries.{zone_of}
use Rattle.zone_sha1.specs.Digests.{name_digest}
use Rattle.ready_table.specs.declared.table.ReadyTable.{ReadyTable}
use Rattle.ready_table.specs.Ready.{AreReady, DeniesFor, RefersFor}
use Rattle.zone_database.specs.Zones.{never_signed, served_zone}
use Rattle.zone_database.proofs.stored_zone.StoredZone.with_answers.Goals as goal

pub invariant_of-result : goal.invariant_of-result
invariant_of-result c =
    let z : queries.Zone = served_zone (arc_value c.in_ok-zone.zone) in
    let is : zone_of never_signed (λ h. name_digest) c.lent.result ≡ z = c.lent.ensures ∙ ap served_zone c.deref.ensures in
    let of_zone : AreReady z c.in_ok-table.table × DeniesFor z c.in_ok-table.table × RefersFor z c.in_ok-table.table =
    subst (λ (x : queries.Zone). AreReady x c.in_ok-table.table × DeniesFor x c.in_ok-table.table × RefersFor x c.in_ok-table.table) is
    (c.in_ok-table.ensures.ready, c.in_ok-table.ensures.denial, c.in_ok-table.ensures.referrals) in
    (subst (λ (t : ReadyTable). AreReady z t × DeniesFor z t × RefersFor z t) (sym c.in-Ok.ensures.ok) of_zone, tt)
