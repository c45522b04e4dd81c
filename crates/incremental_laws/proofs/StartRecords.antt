-- The records of the SOA of a version, and of its other sets
use Rattle.std.proofs.Common.{◌≡◌, ℕ, ◌≤◌, ◌==◌, not, Bool, true, false, true≢false, List, [], ◌∷◌, ◌++◌, length, refl, sym, ap, ◌∙◌, subst, arith, eq-eqb}
use Rattle.std.specs.Prelude.{Some, None, map, if◌then◌else◌}
use Rattle.std.specs.List.{AllByRecursion}
use Rattle.std.proofs.lemmas.List.Elements.{recursion_from_All}
use Rattle.zone_proto.specs.Data.{type_of}
use Rattle.zone_proto.specs.Keys.{key, key_eq}
use Rattle.zone_proto.specs.Names.{Name, lower, same_name}
use Rattle.zone_proto.specs.Sets.{RRset, first_serial, is_single, soa_serial}
use Rattle.zone_proto.specs.Types.{RRSIG, SOA}
use Rattle.zone_proto.specs.declared.rdata.RData.{RData}
use Rattle.zone_proto.specs.declared.rdata.RData.TheVariants as V
use Rattle.zone_proto.specs.declared.record.Record.{Record}
use Rattle.zone_proto.specs.declared.rr_key.RrKey.{RrKey}
use Rattle.zone_proto.proofs.Ordering.KeyOrder.{key_itself}
use Rattle.zone_map.specs.Zones.{Sets, set_at}
use Rattle.zone_map.proofs.Upserting.{same_from_lower}
use Rattle.shown_zones.specs.Sending.{sent, sent_alone}
use Rattle.shown_zones.specs.Shown.{with_ttl}
use Rattle.shown_zones.proofs.Shows.{same_lower}
use Rattle.transfer_reading.specs.Differences.{set_key, set_type}
use Rattle.transfer_reading.specs.Stages.{serial_at}
use Rattle.incremental_laws.specs.Versions.{AreKept, IsVersion}
use Rattle.incremental_laws.proofs.SetsInTurn.{AreOther}

-- ---- signatures and other sets have no serial

no_serial_data : (o : Name) (r : Record) → soa_serial r.rdata ≡ None → serial_at o r ≡ None
no_serial_data o r none = by (same_name r.name o)
  where
    by : (b : Bool) → (if not b then None else soa_serial r.rdata) ≡ None
    by true = none
    by false = refl

signature_data : (d : RData) → (type_of d == RRSIG) ≡ true → soa_serial d ≡ None
signature_data (V.SOA a) h = absurd (true≢false (sym h))
signature_data (V.A a) h = refl
signature_data (V.AAAA a) h = refl
signature_data (V.NS a) h = refl
signature_data (V.CNAME a) h = refl
signature_data (V.ANAME a) h = refl
signature_data (V.MX a) h = refl
signature_data (V.SRV a) h = refl
signature_data (V.DNSKEY a) h = refl
signature_data (V.NSEC a) h = refl
signature_data (V.NSEC3 a) h = refl
signature_data (V.NSEC3PARAM a) h = refl
signature_data (V.RRSIG a) h = refl
signature_data (V.Other a) h = refl

signatures_none : (o : Name) (ttl : ℕ) (sigs : List Record) → AllByRecursion (λ (r : Record). type_of r.rdata ≡ RRSIG) sigs
    → AllByRecursion (λ (r : Record). serial_at o r ≡ None) (map (with_ttl ttl) sigs)
signatures_none o ttl [] h = tt
signatures_none o ttl (r ∷ sigs) h =
    (no_serial_data o (with_ttl ttl r) (signature_data r.rdata (eq-eqb (type_of r.rdata) RRSIG h.0)), signatures_none o ttl sigs h.1)

other_none : (o : Name) (k : RrKey) (r : Record) → key_eq (key (lower o) SOA) k ≡ false → set_key r ≡ k → serial_at o r ≡ None
other_none o k r apart keyed = by (same_name r.name o) refl
  where
    data_none : same_name r.name o ≡ true → (d : RData) → key (lower r.name) (set_type d) ≡ k → soa_serial d ≡ None
    data_none f (V.SOA a) e =
        let is : key (lower o) SOA ≡ k = ap (λ n. key n SOA) (sym (same_lower r.name o f)) ∙ e in
        absurd (true≢false (sym (key_itself (key (lower o) SOA)) ∙ ap (key_eq (key (lower o) SOA)) is ∙ apart))
    data_none f (V.A a) e = refl
    data_none f (V.AAAA a) e = refl
    data_none f (V.NS a) e = refl
    data_none f (V.CNAME a) e = refl
    data_none f (V.ANAME a) e = refl
    data_none f (V.MX a) e = refl
    data_none f (V.SRV a) e = refl
    data_none f (V.DNSKEY a) e = refl
    data_none f (V.NSEC a) e = refl
    data_none f (V.NSEC3 a) e = refl
    data_none f (V.NSEC3PARAM a) e = refl
    data_none f (V.RRSIG a) e = refl
    data_none f (V.Other a) e = refl

    by : (b : Bool) → same_name r.name o ≡ b → (if not (same_name r.name o) then None else soa_serial r.rdata) ≡ None
    by true f = ap (λ b. if not b then None else soa_serial r.rdata) f ∙ data_none f r.rdata keyed
    by false f = ap (λ b. if not b then None else soa_serial r.rdata) f

pub others_none : (o : Name) (k : RrKey) (rs : List Record) → key_eq (key (lower o) SOA) k ≡ false → AllByRecursion (λ (r : Record). set_key r ≡ k) rs
    → AllByRecursion (λ (r : Record). serial_at o r ≡ None) rs
others_none o k [] apart keyed = tt
others_none o k (r ∷ rs) apart keyed = (other_none o k r apart keyed.0, others_none o k rs apart keyed.1)

pub other_set : (o : Name) (k : RrKey) (rs : List Record) → key_eq (key (lower o) SOA) k ≡ false → AreKept o k rs → AreOther o k rs
other_set o k rs apart kept = record { none = others_none o k rs apart kept.keyed; keyed = kept.keyed; different = kept.different }

-- ---- the SOA record, and its signatures

pub record IsStart (o : Name) (serial : ℕ) (s : RRset) : Type 0 where
  pub soa : Record
  pub others : List Record
  pub are : sent s ≡ soa ∷ others
  pub alone : sent_alone s ≡ soa ∷ []
  pub signatures : map (with_ttl s.ttl) s.signatures ≡ others
  pub serial_is : serial_at o soa ≡ Some serial
  pub none : AllByRecursion (λ (r : Record). serial_at o r ≡ None) others

start : (o : Name) (n : ℕ) (m : Sets) (v : IsVersion o n m) → IsStart o n v.soa
start o n m v =
    let stored = v.zone.stored (lower o) SOA v.soa v.stands in
    let parts = by v.soa.records v.soa.signatures (stored.set.single (ap is_single stored.record_type)) v.serial_is
    (recursion_from_All (λ (r : Record). type_of r.rdata ≡ RRSIG) v.soa.signatures v.signed) (v.kept (key (lower o) SOA) v.soa v.stands).keyed in
    record { soa = parts.0; others = parts.1; are = parts.2; alone = parts.3; signatures = parts.4; serial_is = parts.5; none = parts.6 }
  where
    by : (rs sigs : List Record) → length rs ≤ 1 → first_serial rs ≡ Some n → AllByRecursion (λ (r : Record). type_of r.rdata ≡ RRSIG) sigs
        → AllByRecursion (λ (r : Record). set_key r ≡ key (lower o) SOA) (map (with_ttl v.soa.ttl) (rs ++ sigs))
        → (soa : Record) × (others : List Record) × (map (with_ttl v.soa.ttl) (rs ++ sigs) ≡ soa ∷ others) × (map (with_ttl v.soa.ttl) rs ≡ soa ∷ [])
        × (map (with_ttl v.soa.ttl) sigs ≡ others) × (serial_at o soa ≡ Some n) × AllByRecursion (λ (r : Record). serial_at o r ≡ None) others
    by [] sigs few is signed keyed = absurd cc
    by (x ∷ []) sigs few is signed keyed =
        let same : same_name x.name o ≡ true = same_from_lower x.name o (ap (λ (k : RrKey). k.name) keyed.0) in (
          with_ttl v.soa.ttl x,
          map (with_ttl v.soa.ttl) sigs,
          refl,
          refl,
          refl,
          ap (λ b. if not b then None else soa_serial x.rdata) same ∙ is,
          signatures_none o v.soa.ttl sigs signed,
        )
    by (x ∷ y ∷ rs) sigs few is signed keyed = absurd (omega (arith, few))

pub start_at : (o : Name) (n : ℕ) (m : Sets) (s : RRset) → IsVersion o n m → set_at m (lower o) SOA ≡ Some s → IsStart o n s
start_at o n m s v found =
    let e : Some v.soa ≡ Some s = sym v.stands ∙ found in
    let same : v.soa ≡ s = cc in
    subst (λ (t : RRset). IsStart o n t) same (start o n m v)
