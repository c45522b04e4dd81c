-- Copies of the sets of a zone as answers show them
use Rattle.std.proofs.Common.{◌≡◌, ℕ, ◌<◌, true, false, [], ◌∷◌, ◌++◌, length, take, sym, ap, ◌∙◌, get_or, arith}
use Rattle.std.specs.Prelude.{Some, None, map, if◌then◌else◌}
use Rattle.std.proofs.lemmas.List.{get_or-take, get_or_default, length-take-le}
use Rattle.std.proofs.lemmas.List.Elements.{All-map}
use Rattle.std.proofs.lemmas.List.Folds.{list_any_none}
use Rattle.zone_proto.specs.declared.record.Record.{Record}
use Rattle.zone_proto.specs.declared.rr_key.RrKey.{RrKey}
use Rattle.zone_proto.specs.Data.{same_data}
use Rattle.zone_proto.specs.Names.{same_name}
use Rattle.zone_proto.specs.Sets.{RRset, IsSet, appended, first_serial, inserted, inserted_by, is_single, replaced, soa_inserted, stores, with_records}
use Rattle.zone_proto.specs.declared.rdata.RData.{RData}
use Rattle.zone_proto.specs.declared.rdata.RData.TheVariants as V
use Rattle.zone_map.specs.Zones.{AreStored, Sets, IsStoredAt}
use Rattle.zone_map.proofs.Upserting.{same_from_lower}
use Rattle.shown_zones.specs.Shown.{shown, shown_set, spelled, with_ttl}
use Rattle.shown_zones.proofs.Shows.{same_lower, shown_stored, spelled_lower}

pub stored_shown : (m : Sets) → AreStored m → AreStored (shown m)
stored_shown m h =
    All-map (λ (e : RrKey × RRset). IsStoredAt e.0.name e.0.record_type.0 e.1) (λ (e : RrKey × RRset). (e.0, shown_set e.1)) m
    (λ k d lt. shown_stored _ _ _ (h k d lt))

-- ---- a set, record by record

-- a set of which the first records are copied
abbrev pub so_far : RRset → ℕ → RRset
so_far s n = record (shown_set s) { records = map (with_ttl s.ttl) (take n s.records); signatures = [] }

pub next_owner : (s : RRset) (i : ℕ) (d : Record) → IsSet s.owner s.record_type s.records → i < length s.records
    → same_name (get_or s.records i d).name (spelled s.owner s.records) ≡ true
next_owner s i d h lt =
    same_from_lower (get_or s.records i d).name (spelled s.owner s.records)
    (same_lower (get_or s.records i d).name s.owner (h.owners i d lt) ∙ sym (spelled_lower s.owner s.record_type s.records h))

pub next_alone : (s : RRset) (i : ℕ) → IsSet s.owner s.record_type s.records → i < length s.records → is_single s.record_type ≡ true
    → map (with_ttl s.ttl) (take i s.records) ≡ []
next_alone s i h lt single = by i (let few = h.single single in omega (arith, few, lt))
  where
    by : (k : ℕ) → k ≡ 0 → map (with_ttl s.ttl) (take k s.records) ≡ []
    by k e = ap (λ n. map (with_ttl s.ttl) (take n s.records)) e

pub next_absent : (s : RRset) (i : ℕ) (d : Record) → IsSet s.owner s.record_type s.records → i < length s.records
    → stores (map (with_ttl s.ttl) (take i s.records)) (get_or s.records i d).rdata ≡ false
next_absent s i d h lt =
    list_any_none (λ (x : Record). same_data x.rdata (get_or s.records i d).rdata) (map (with_ttl s.ttl) (take i s.records))
    (All-map (λ (x : Record). same_data x.rdata (get_or s.records i d).rdata ≡ false) (with_ttl s.ttl) (take i s.records)
    (λ k e within.
    let below : k < i = (let long = length-take-le i s.records (omega (arith, lt)) in omega (arith, within, long)) in
    let same : get_or (take i s.records) k e ≡ get_or s.records k e = get_or-take i s.records k e below in
    let other : get_or s.records i d ≡ get_or s.records i e = get_or_default s.records i d e lt in
    (λ j. same_data (same j).rdata (other j).rdata) ∙ h.differ k i e below lt))

-- a set without records takes any
pub inserted_alone : (s : RRset) (r : Record) → s.records ≡ [] → inserted s r 0 ≡ Some (appended s r 0)
inserted_alone s r none = by r.rdata
  where
    kept : (d : RData) → (if stores s.records d then None else Some (appended s r 0)) ≡ Some (appended s r 0)
    kept d = ap (λ rs. if stores rs d then None else Some (appended s r 0)) none

    placed : Some (replaced s r 0) ≡ Some (appended s r 0)
    placed = ap (λ rs. Some (with_records s (rs ++ r ∷ []) r 0)) (sym none)

    by : (d : RData) → inserted_by d s r 0 ≡ Some (appended s r 0)
    by (V.SOA a) = ap (λ rs. soa_inserted (first_serial rs) a.serial s r 0) none
    by (V.CNAME a) = placed
    by (V.ANAME a) = placed
    by (V.A a) = kept (V.A a)
    by (V.AAAA a) = kept (V.AAAA a)
    by (V.NS a) = kept (V.NS a)
    by (V.MX a) = kept (V.MX a)
    by (V.SRV a) = kept (V.SRV a)
    by (V.DNSKEY a) = kept (V.DNSKEY a)
    by (V.NSEC a) = kept (V.NSEC a)
    by (V.NSEC3 a) = kept (V.NSEC3 a)
    by (V.NSEC3PARAM a) = kept (V.NSEC3PARAM a)
    by (V.RRSIG a) = kept (V.RRSIG a)
    by (V.Other a) = kept (V.Other a)
