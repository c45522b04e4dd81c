-- The construction of a zone keeps CNAMEs standing alone
use Rattle.std.proofs.Common.{◌≡◌, ℕ, Bool, true, false, List, [], ◌∷◌, refl, subst}
use Rattle.std.specs.Prelude.{Option, Some, None, Ok, Err, if◌then◌else◌}
use Rattle.std.specs.List.{list_all}
use Rattle.std.specs.Map.{values_of}
use Rattle.zone_proto.specs.declared.rdata.start_of_authority.SOA.{SOA as SoaData}
use Rattle.zone_proto.specs.Names.{Name, lower}
use Rattle.zone_proto.specs.Sets.{RRset}
use Rattle.zone_proto.specs.Types.{IN}
use Rattle.zone_map.specs.Zones.{Sets}
use Rattle.zone_map.specs.Upserts.{all_upserted, CnamesStandAlone}
use Rattle.zone_map.proofs.CnamesAlone.{all_alone, nothing_owned}
use Rattle.zone_in_memory.specs.Construction.{is_own_key, after_set, inserted_sets, made_with, made}
use Rattle.zone_lookup.specs.StartOfAuthority.{soa}
use Rattle.zone_lookup.specs.declared.zone_error.ZoneError.TheVariants.{KeyMismatch}

-- sets inserted one after the other
inserted_alone : (origin : Name) (serial : ℕ) (m : Sets) (ss : List RRset) (n : Sets) → inserted_sets origin serial m ss ≡ Ok n → CnamesStandAlone m → CnamesStandAlone n
inserted_alone origin serial m [] n e alone =
    let same : m ≡ n = cc in
    subst CnamesStandAlone same alone
inserted_alone origin serial m (s ∷ ss) n e alone = by (all_upserted m IN s.records serial) refl e (λ k h a. inserted_alone origin serial k ss n h a)
  where
    by : (o : Option Sets) → all_upserted m IN s.records serial ≡ o → after_set origin s o (λ k. inserted_sets origin serial k ss) ≡ Ok n
        → ((k : Sets) → inserted_sets origin serial k ss ≡ Ok n → CnamesStandAlone k → CnamesStandAlone n) → CnamesStandAlone n
    by None f h more = absurd cc
    by (Some k) f h more = more k h (all_alone m IN s.records serial k f alone)

-- a zone that is made of sets
pub made_alone : (origin : Name) (m n : Sets) → made origin m ≡ Ok n → CnamesStandAlone n
made_alone origin m n = by (soa m (lower origin))
  where
    checked : (serial : ℕ) (b : Bool) → (if b then inserted_sets origin serial [] (values_of m) else Err KeyMismatch) ≡ Ok n → CnamesStandAlone n
    checked serial true e = inserted_alone origin serial [] (values_of m) n e nothing_owned
    checked serial false e = absurd cc

    by : (o : Option SoaData) → made_with origin m o ≡ Ok n → CnamesStandAlone n
    by None e = absurd cc
    by (Some a) e = checked a.serial (list_all is_own_key m) e
