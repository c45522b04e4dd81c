-- The sets of a denial by NSEC3 are the zone's
use Rattle.std.proofs.Common.{◌≡◌, Bool, List, sym, subst}
use Rattle.std.specs.Prelude.{Some, Result, Ok, Err, filter_map}
use Rattle.std.specs.List.{Contains}
use Rattle.zone_proto.specs.Names.{Name}
use Rattle.zone_proto.specs.Sets.{RRset}
use Rattle.zone_proto.specs.Types.{NSEC3}
use Rattle.zone_proto.proofs.Members.{In, In-Contains, Contains-In, In-from_filter_map}
use Rattle.zone_map.specs.Zones.{Sets, set_at}
use Rattle.zone_denial.specs.Nsec3Denial.{nsec3_denying_owners, nsec3_denial, result_and_then}
use Rattle.denial_validation.specs.Nsec3Records.{nsec3_records}
use Rattle.denial_laws.specs.Nsec3Scope.{read_nsec3_sets, AreNsec3OfZone}
use Rattle.denial_laws.proofs.Nsec3Readings.{from_read}

pub same_answer : {E : Type 0} (a b : List RRset) → ◌≡◌ {A = Result (List RRset) E} (Ok a) (Ok b) → a ≡ b
same_answer a b e = cc

-- a denial's records are the zone's
pub nsec3_denial_of_zone : {E : Type 0} (m : Sets) (hashed : Name → Result Name E) (wildcard : Bool) (x : Name) (answer : List RRset) → nsec3_denial m hashed wildcard x ≡ Ok answer
    → AreNsec3OfZone m (read_nsec3_sets answer)
nsec3_denial_of_zone {E} m hashed wildcard x answer e r c = by (nsec3_denying_owners m hashed wildcard x) e
  where
    of_answer : (owners : List Name) → filter_map (λ o. set_at m o NSEC3) owners ≡ answer → (o : Name) × (s : RRset) × (set_at m o NSEC3 ≡ Some s) × Contains (nsec3_records s.records) r
    of_answer owners q =
        let i = from_read answer r (Contains-In r (read_nsec3_sets answer) c) in
        let k = In-from_filter_map (λ o. set_at m o NSEC3) i.0 owners (subst (In i.0) (sym q) i.1) in
        (k.0, i.0, k.2, In-Contains r (nsec3_records i.0.records) i.2)

    by : (owners : Result (List Name) E) → result_and_then (λ owners. Ok (filter_map (λ o. set_at m o NSEC3) owners)) owners ≡ Ok answer
        → (o : Name) × (s : RRset) × (set_at m o NSEC3 ≡ Some s) × Contains (nsec3_records s.records) r
    by (Ok owners) q = of_answer owners (same_answer (filter_map (λ o. set_at m o NSEC3) owners) answer q)
    by (Err k) q = absurd cc
