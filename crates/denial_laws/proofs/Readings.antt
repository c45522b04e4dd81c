-- What a validator reads in NSEC sets
use Rattle.std.proofs.Common.{◌≡◌, ℕ, List, [], ◌∷◌, map, length, ap, arith}
use Rattle.std.specs.Prelude.{Option, Some, None, flat_map, option_map}
use Rattle.std.specs.List.{All, cons_option}
use Rattle.std.proofs.lemmas.List.Elements.{All-head}
use Rattle.zone_proto.specs.declared.rdata.denial.NSEC.{NSEC as NsecData}
use Rattle.zone_proto.specs.declared.record.Record.{Record}
use Rattle.zone_proto.specs.Names.{Name, lower}
use Rattle.zone_proto.specs.Sets.{RRset}
use Rattle.zone_proto.specs.Types.{NSEC}
use Rattle.zone_proto.proofs.Members.{In, In-Contains, Contains-In, In-filter_map, In-from_filter_map, In-flat_map, In-from_flat_map}
use Rattle.zone_map.specs.Zones.{Sets, set_at}
use Rattle.zone_denial.specs.NsecCircle.{first_nsec}
use Rattle.zone_denial.specs.NsecDenial.{denying_owners, nsec_denial}
use Rattle.denial_validation.specs.NsecRecords.{NsecRecord, nsec_data, nsec_record, read_nsec, nsec_records}
use Rattle.denial_laws.specs.Scope.{read, denial_records, AreOfZone}

same_value : {A : Type 0} (a b : A) → Some a ≡ Some b → a ≡ b
same_value a b e = cc

-- ---- one set

-- a record of NSEC data, as a validator reads it
read_data : (owner n : Name) (ts : List ℕ) (r : Record) → option_map (λ (a : NsecData). lower a.next_domain_name) (nsec_data r.rdata) ≡ Some n
    → option_map (λ (a : NsecData). map (λ t. t.0) a.types) (nsec_data r.rdata) ≡ Some ts → lower r.name ≡ owner → read_nsec r ≡ Some (record { owner = owner; next = n; types = ts })
read_data owner n ts r next types named = by (nsec_data r.rdata) next types
  where
    by : (o : Option NsecData) → option_map (λ (a : NsecData). lower a.next_domain_name) o ≡ Some n → option_map (λ (a : NsecData). map (λ t. t.0) a.types) o ≡ Some ts
        → option_map (nsec_record r.name) o ≡ Some (record { owner = owner; next = n; types = ts })
    by None p q = absurd cc
    by (Some a) p q =
        let next : lower a.next_domain_name ≡ n = same_value (lower a.next_domain_name) n p in
        let types : map (λ t. t.0) a.types ≡ ts = same_value (map (λ t. t.0) a.types) ts q in
        λ i. Some (record { owner = named i; next = next i; types = types i })

pub read_single : (owner n : Name) (ts : List ℕ) (rs : List Record) → length rs ≡ 1 → option_map (λ (a : NsecData). lower a.next_domain_name) (first_nsec rs) ≡ Some n
    → option_map (λ (a : NsecData). map (λ t. t.0) a.types) (first_nsec rs) ≡ Some ts → All (λ (r : Record). lower r.name ≡ owner) rs → nsec_records rs ≡ record { owner = owner; next = n; types = ts } ∷ []
read_single owner n ts [] one next types named = absurd (omega (arith, one))
read_single owner n ts (r ∷ []) one next types named = ap (λ o. cons_option o []) (read_data owner n ts r next types (All-head (λ (r : Record). lower r.name ≡ owner) r [] named))
read_single owner n ts (r ∷ (q ∷ rs)) one next types named = absurd (omega (arith, one))

-- ---- several sets

pub read_from : (sets : List RRset) (s : RRset) (r : NsecRecord) → In s sets → In r (nsec_records s.records) → In r (read sets)
read_from sets s r i j =
    let q = In-from_filter_map read_nsec r s.records j in
    In-filter_map read_nsec q.0 r (flat_map (λ (s : RRset). s.records) sets) (In-flat_map (λ (s : RRset). s.records) s q.0 sets i q.1) q.2

from_read : (sets : List RRset) (r : NsecRecord) → In r (read sets) → (s : RRset) × In s sets × In r (nsec_records s.records)
from_read sets r i =
    let q = In-from_filter_map read_nsec r (flat_map (λ (s : RRset). s.records) sets) i in
    let s = In-from_flat_map (λ (s : RRset). s.records) q.0 sets q.1 in
    (s.0, s.1, In-filter_map read_nsec q.0 r s.0.records s.2 q.2)

-- a denial's records are the zone's
pub denial_of_zone : (origin : Name) (m : Sets) (x : Name) → AreOfZone m (denial_records origin m x)
denial_of_zone origin m x r c =
    let i = from_read (nsec_denial origin m x) r (Contains-In r (denial_records origin m x) c) in
    let k = In-from_filter_map (λ o. set_at m o NSEC) i.0 (denying_owners origin m x) i.1 in
    (k.0, i.0, k.2, In-Contains r (nsec_records i.0.records) i.2)
