-- Names with their NSEC sets, as the program checks them
use Rattle.std.specs.Prelude.{◌≡◌, Bool, List, map, length, Option, Some, None, IsTrue, IsFalse, IfSome}
use Rattle.zone_proto.specs.declared.record_type.RecordType.{RecordType}
use Rattle.zone_proto.specs.declared.rr_key.RrKey.{RrKey}
use Rattle.zone_proto.specs.Names.{Name}
use Rattle.zone_proto.specs.Sets.{RRset}
use Rattle.zone_proto.specs.Types.{NSEC}
use Rattle.zone_map.specs.Zones.{Sets, set_at}
use Rattle.zone_denial.specs.Chains.{is_delegation, is_below_dname}
use Rattle.zone_denial.specs.NsecCircle.{types_of}
use Rattle.zone_denial.specs.Authority.{owns_besides}
use Rattle.zone_verify.specs.Lists.{IsListed, MayAllBeListed, IsKeyListed}

-- what an NSEC set lists may be listed at its name: NSEC is among it but at a delegation, and the name owns a set of another type
pub record IsRightOwnList (beside m : Sets) (n : Name) (delegation : Bool) (types : List RecordType) : Type 0 where
  pub may : MayAllBeListed beside m n delegation types
  pub own : IsFalse delegation → IsListed types NSEC
  pub others : IsTrue (owns_besides m NSEC n)

-- n has an NSEC set with a single record, of this list, which is right; or none, where it is below a DNAME
pub record HasNsec (beside m : Sets) (n : Name) (delegation : Bool) (types : List RecordType) : Type 0 where
  pub set : RRset
  pub stands : set_at m n NSEC ≡ Some set
  pub single : length set.records ≡ 1
  pub listed : types_of set ≡ Some (map (λ t. t.0) types)
  pub right : IsRightOwnList beside m n delegation types

abbrev pub IsDenied : Name → Sets → Sets → Name → Option (List RecordType) → Type 0
IsDenied origin beside m n None = IsTrue (is_below_dname m n) × (set_at m n NSEC ≡ None)
IsDenied origin beside m n (Some types) = HasNsec beside m n (is_delegation origin m n) types

-- the name of a key has the set that it has to have, which lists the key
pub record IsNsecKey (origin : Name) (beside m : Sets) (k : RrKey) : Type 0 where
  pub types : Option (List RecordType)
  pub denied : IsDenied origin beside m k.name types
  pub listed : IfSome types (λ types. IsKeyListed m (is_delegation origin m k.name) types k)
