-- The places of the names that a change affects
use Rattle.std.specs.Prelude.{◌≡◌, ℕ, Bool, cond, List, [], ◌∷◌, map, Option, Some, None, option_map}
use Rattle.std.specs.List.{Contains}
use Rattle.zone_proto.specs.declared.record_type.RecordType.{RecordType}
use Rattle.zone_proto.specs.HashedOwners.{hashed_owner}
use Rattle.zone_proto.specs.Names.{Name}
use Rattle.zone_map.specs.Zones.{Sets}
use Rattle.zone_denial.specs.Nsec3Circle.{nsec3_types}
use Rattle.zone_denial.specs.Nsec3Names.{nsec3_names}
use Rattle.hashed_changes.specs.Among.{is_among}
use Rattle.hashed_changes.specs.declared.places.Affected.{Affected}

-- the types that the NSEC3 set of a name lists, if it gets one
abbrev pub types_of_set : Name → Sets → Bool → Name → Option (List ℕ)
types_of_set origin m opt_out n = cond (is_among (nsec3_names origin m opt_out) n) (Some (nsec3_types origin m n)) None

module _ (origin : Name) (m : Sets) (hash : Name → Option (List ℕ)) (opt_out : Bool) where
  -- a place is that of a name
  pub record IsAffected (n : Name) (a : Affected) : Type 0 where
    pub digest : hash n ≡ Some a.place.digest
    pub owner : a.place.owner ≡ hashed_owner origin a.place.digest
    pub types : option_map (λ (ts : List RecordType). map (λ (t : RecordType). t.0) ts) a.types ≡ types_of_set origin m opt_out n

  -- places are those of names, one for one
  abbrev pub AreInTurn : List Name → List Affected → Type 0
  AreInTurn [] [] = Unit {0}
  AreInTurn [] (a ∷ rest) = ⊥
  AreInTurn (n ∷ names) [] = ⊥
  AreInTurn (n ∷ names) (a ∷ rest) = IsAffected n a × AreInTurn names rest

  -- places are those of names, in any order
  pub record AreAffected (names : List Name) (affected : List Affected) : Type 0 where
    pub each : (n : Name) → Contains names n → (a : Affected) × Contains affected a × IsAffected n a
    pub no_other : (a : Affected) → Contains affected a → (n : Name) × Contains names n × IsAffected n a
