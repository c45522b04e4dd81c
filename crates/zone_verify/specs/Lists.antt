-- Lists of types beside what is at their names
use Rattle.std.specs.Prelude.{◌≡◌, ◌⊎◌, ℕ, Bool, ◌||◌, ◌==◌, not, false, List, length, map, IsTrue, IsFalse}
use Rattle.std.specs.List.{Contains}
use Rattle.std.specs.Option.{option_map_or}
use Rattle.zone_proto.specs.declared.record_type.RecordType.{RecordType}
use Rattle.zone_proto.specs.declared.rr_key.RrKey.{RrKey}
use Rattle.zone_proto.specs.Names.{Name}
use Rattle.zone_proto.specs.Sets.{RRset}
use Rattle.zone_proto.specs.Types.{RRSIG, NSEC, NSEC3}
use Rattle.zone_map.specs.Zones.{Sets, set_at, owns}
use Rattle.zone_denial.specs.Chains.{is_stated_at_delegation}

-- a list tells of a type whether it is there, at a delegation or elsewhere
abbrev pub is_stated_at : Bool → ℕ → Bool
is_stated_at delegation t = not delegation || is_stated_at_delegation t

-- a listed type may be listed: it isn't NSEC3, and the name owns it, unless it is RRSIG or the list says nothing of it;
-- NSEC may be owned beside the sets of the chain
pub record MayBeListed (beside m : Sets) (n : Name) (delegation : Bool) (t : ℕ) : Type 0 where
  pub other : t ≡ NSEC3 → ⊥
  pub stands : IsTrue (is_stated_at delegation t) → (t ≡ RRSIG) ⊎ (IsTrue (owns m n t) ⊎ ((t ≡ NSEC) × IsTrue (owns beside n NSEC)))

-- a type is among those listed
abbrev pub IsListed : List RecordType → ℕ → Type 0
IsListed types t = Contains (map (λ u. u.0) types) t

-- all that are listed may be
abbrev pub MayAllBeListed : Sets → Sets → Name → Bool → List RecordType → Type 0
MayAllBeListed beside m n delegation types = (t : ℕ) → IsListed types t → MayBeListed beside m n delegation t

-- the set of a key is signed, or one of signatures
abbrev pub is_signed : Sets → RrKey → Bool
is_signed m k = option_map_or (λ (s : RRset). (k.record_type.0 == RRSIG) || not (length s.signatures == 0)) (set_at m k.name k.record_type.0) false

-- the list of a key's name has the type of the key, as far as it tells of that, and RRSIG where the set of the key is signed
pub record IsKeyListed (m : Sets) (delegation : Bool) (types : List RecordType) (k : RrKey) : Type 0 where
  pub own : IsTrue (is_stated_at delegation k.record_type.0) → IsListed types k.record_type.0
  pub signed : IsFalse delegation → IsTrue (is_signed m k) → IsListed types RRSIG
