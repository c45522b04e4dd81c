-- Who holds a zone holds each that answers show alike
use Rattle.std.proofs.Common.{◌≡◌, ℕ, ◌==◌, ◌&&◌, Bool, true, false, true≢false, List, [], ◌∷◌, ◌++◌, map, refl, sym, ap, ◌∙◌, eqb-true}
use Rattle.std.specs.Prelude.{◌||◌, Option, Some, None}
use Rattle.std.specs.Cmp.Lexicographic.{pointwise}
use Rattle.std.specs.Map.{lookup}
use Rattle.zone_proto.specs.DataEquality.{same_record_equiv}
use Rattle.zone_proto.specs.Keys.{key_eq}
use Rattle.zone_proto.specs.Names.{same_name}
use Rattle.zone_proto.specs.Records.{same_record}
use Rattle.zone_proto.specs.Sets.{RRset, same_set}
use Rattle.zone_proto.specs.declared.record.Record.{Record}
use Rattle.zone_proto.specs.declared.rr_key.RrKey.{RrKey}
use Rattle.zone_map.specs.Zones.{Sets}
use Rattle.zone_difference.specs.Differences.{same_at}
use Rattle.zone_difference.specs.Laws.{SameZone}
use Rattle.shown_zones.specs.Sending.{sent}
use Rattle.shown_zones.specs.Shown.{have_same_head, have_same_records, shown, shown_if, shown_set, spelled, with_ttl}
use Rattle.shown_zones.proofs.Shows.{found_shown, shown_alike}
use Rattle.transfer_reading.specs.Differences.{Held}
use Rattle.incremental_laws.specs.Holding.{has_exactly, sent_if, Holds, SameRecords}

both : (a b : Bool) → (a && b) ≡ true → (a ≡ true) × (b ≡ true)
both true b h = (refl, h)
both false b h = absurd (true≢false (sym h))

-- ---- equal records with one TTL

same_list : (ttl : ℕ) (rs qs : List Record) (r : Record) → pointwise same_record rs qs ≡ true → has_exactly (map (with_ttl ttl) rs) r ≡ has_exactly (map (with_ttl ttl) qs) r
same_list ttl [] [] r h = refl
same_list ttl [] (q ∷ qs) r h = absurd (true≢false (sym h))
same_list ttl (x ∷ rs) [] r h = absurd (true≢false (sym h))
same_list ttl (x ∷ rs) (q ∷ qs) r h =
    let parts = both (same_record x q) (pointwise same_record rs qs) h in
    (λ i. (same_record_equiv.congr x q r parts.0 i && (ttl == r.ttl)) || same_list ttl rs qs r parts.1 i)

joined : (rs qs ss us : List Record) → pointwise same_record rs qs ≡ true → pointwise same_record ss us ≡ true → pointwise same_record (rs ++ ss) (qs ++ us) ≡ true
joined [] [] ss us h g = g
joined [] (q ∷ qs) ss us h g = absurd (true≢false (sym h))
joined (r ∷ rs) [] ss us h g = absurd (true≢false (sym h))
joined (r ∷ rs) (q ∷ qs) ss us h g =
    let parts = both (same_record r q) (pointwise same_record rs qs) h in
    (λ i. parts.0 i && joined rs qs ss us parts.1 g i)

-- ---- sets

same_sent : (s t : RRset) → same_set (shown_set s) (shown_set t) ≡ true → SameRecords (sent s) (sent t)
same_sent s t h r =
    let parts = both (have_same_head s t) (have_same_records s t) (sym (shown_alike s t) ∙ h) in
    let head = both (same_name (spelled s.owner s.records) (spelled t.owner t.records)) (s.record_type == t.record_type && s.ttl == t.ttl) parts.0 in
    let ttls = both (s.record_type == t.record_type) (s.ttl == t.ttl) head.1 in
    let records = both (pointwise same_record s.records t.records) (pointwise same_record s.signatures t.signatures) parts.1 in
    let ttl : s.ttl ≡ t.ttl = eqb-true s.ttl t.ttl ttls.1 in
    same_list s.ttl (s.records ++ s.signatures) (t.records ++ t.signatures) r (joined s.records t.records s.signatures t.signatures records.0 records.1)
    ∙ ap (λ (n : ℕ). has_exactly (map (with_ttl n) (t.records ++ t.signatures)) r) ttl

same_sent_if : (o p : Option RRset) → same_at (shown_if o) (shown_if p) ≡ true → SameRecords (sent_if o) (sent_if p)
same_sent_if None None h r = refl
same_sent_if None (Some t) h r = absurd (true≢false (sym h))
same_sent_if (Some s) None h r = absurd (true≢false (sym h))
same_sent_if (Some s) (Some t) h r = same_sent s t h r

-- ---- zones

module _ (h : Held) (m v : Sets) (alike : SameZone (shown m) (shown v)) where
  same_under : (k : RrKey) → SameRecords (sent_if (lookup (key_eq k) m)) (sent_if (lookup (key_eq k) v))
  same_under k =
      same_sent_if (lookup (key_eq k) m) (lookup (key_eq k) v) ((λ i. same_at (sym (found_shown m k) i) (sym (found_shown v k) i)) ∙ alike k)

  pub holds_like : Holds h v → Holds h m
  holds_like holds k r = holds k r ∙ sym (same_under k r)

  pub holds_version : Holds h m → Holds h v
  holds_version holds k r = holds k r ∙ same_under k r
