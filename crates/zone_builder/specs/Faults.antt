-- Why no zone is made of records
use Rattle.std.specs.Prelude.{◌≡◌, ◌⊎◌, ℕ, Bool, ◌&&◌, ◌||◌, ◌==◌, not, cond, length, nat_lt, List, [], ◌∷◌, Option, Some, None, option_map, Result, MatchResult}
use Rattle.std.specs.List.{find, list_any}
use Rattle.std.specs.Option.{option_or, option_map_or}
use Rattle.std.specs.declared.cmp.Ordering.TheVariants.{Less}
use Rattle.zone_proto.specs.declared.rdata.RData.{RData}
use Rattle.zone_proto.specs.declared.rdata.RData.TheVariants as V
use Rattle.zone_proto.specs.declared.rr_key.RrKey.{RrKey}
use Rattle.zone_proto.specs.Data.{type_of, same_data}
use Rattle.zone_proto.specs.Keys.{key_cmp}
use Rattle.zone_proto.specs.Names.{Name, is_at_or_above, lower, name_eq}
use Rattle.zone_proto.specs.Sets.{first_serial, is_single}
use Rattle.zone_proto.specs.Types.{IN, NS, SOA, CNAME, DNSKEY, NSEC3PARAM, DNAME}
use Rattle.zone_map.specs.Upserts.{is_denial_type}
use Rattle.zone_builder.specs.declared.fault.TheConstants.{MOST_ITERATIONS}
use Rattle.zone_builder.specs.declared.fault.LoadFault.{LoadFault}
use Rattle.zone_builder.specs.declared.fault.LoadFault.TheVariants as fault
use Rattle.zone_builder.specs.declared.given.GivenRecord.{GivenRecord}
use Rattle.zone_builder.specs.declared.given.RecordAt.{RecordAt}
use Rattle.zone_builder.specs.Records.{given_at, records_of}

-- what is reported about a record
abbrev pub told_of : GivenRecord → RecordAt
told_of g = record { owner = g.record.name; record_type = record { 0 = type_of g.record.rdata }; place = g.place }

-- what a check answers: that nothing is wrong, or what is; or that no memory was found
abbrev pub ReportsFault : {A : Type 0} → Result A LoadFault → Option LoadFault → Type 0
ReportsFault result wrong = MatchResult result (λ _. wrong ≡ None) (λ e. (e ≡ fault.Memory) ⊎ (wrong ≡ Some e))

-- a record isn't of class IN, which that of a zone is (RFC 1035 section 5.2)
abbrev pub is_other_class : GivenRecord → Bool
is_other_class g = not (g.record.dns_class.0 == IN)

-- the first record of another class
abbrev pub class_fault : List GivenRecord → Option LoadFault
class_fault gs = option_map (λ (g : GivenRecord). fault.OtherClass (told_of g) g.record.dns_class) (find is_other_class gs)

-- the types that may be at a name that owns a CNAME: that itself, and those of denial (RFC 4035 section 2.5)
abbrev pub stands_beside_cname : ℕ → Bool
stands_beside_cname t = (t == CNAME) || is_denial_type t

-- a record has other data than another
abbrev pub has_other_data : GivenRecord → GivenRecord → Bool
has_other_data first g = not (same_data g.record.rdata first.record.rdata)

-- what is wrong with a set of a type and its first record, at a name of the zone of an origin: it is an SOA below the origin
abbrev pub place_fault : Name → Name → ℕ → GivenRecord → Option LoadFault
place_fault origin n t first = cond ((t == SOA) && not (name_eq n origin)) (Some (fault.SoaBelow (told_of first))) None

-- the types of which a name may own one record alone: those of which a set has one, and DNAME (RFC 6672 section 2.4)
abbrev pub stands_once : ℕ → Bool
stands_once t = is_single t || (t == DNAME)

-- one of the others has other data than the first record, and the type is one of which a name may own one alone
abbrev pub count_fault : ℕ → GivenRecord → List GivenRecord → Option LoadFault
count_fault t first others = cond (stands_once t) (option_map (λ (g : GivenRecord). fault.Second (told_of g)) (find (has_other_data first) others)) None

-- how many times more a digest is hashed, by the data of NSEC3 and of NSEC3PARAM (RFC 5155 section 5)
abbrev pub iterations_of : RData → ℕ
iterations_of (V.NSEC3 d) = d.iterations
iterations_of (V.NSEC3PARAM d) = d.iterations
iterations_of d = 0

-- a record has more than a zone may have: there should be none, since each makes every denial dearer (RFC 9276 section 3.1)
abbrev pub is_iterated_too_often : GivenRecord → Bool
is_iterated_too_often g = nat_lt MOST_ITERATIONS (iterations_of g.record.rdata)

-- the first of the records that has more
abbrev pub iterations_fault : List GivenRecord → Option LoadFault
iterations_fault gs = option_map (λ (g : GivenRecord). fault.TooManyIterations (told_of g) (iterations_of g.record.rdata)) (find is_iterated_too_often gs)

-- it is beside a CNAME, and may not
abbrev pub beside_fault : ℕ → Bool → GivenRecord → Option LoadFault
beside_fault t owns_cname first = cond (not (stands_beside_cname t) && owns_cname) (Some (fault.BesideCname (told_of first))) None

-- the first of these; nothing is wrong with a set that has no records
abbrev pub set_fault : Name → Name → ℕ → Bool → List GivenRecord → Option LoadFault
set_fault origin n t owns_cname [] = None
set_fault origin n t owns_cname (first ∷ others) =
    option_or (place_fault origin n t first) (option_or (count_fault t first others)
    (option_or (iterations_fault (first ∷ others)) (beside_fault t owns_cname first)))

-- the first of records
abbrev pub first_of : List GivenRecord → Option GivenRecord
first_of [] = None
first_of (g ∷ gs) = Some g

-- the origin owns no NS, of which this is the first (RFC 1034 section 4.2.1)
abbrev pub ns_fault : Name → Option GivenRecord → Option LoadFault
ns_fault origin None = Some (fault.NoNs origin)
ns_fault origin (Some g) = None

-- nothing denies a name, and this record says that the zone is signed (RFC 4035 section 2.3, RFC 5155 section 7.1)
abbrev pub undenied_fault : Bool → Option GivenRecord → Option LoadFault
undenied_fault denied signed = cond denied None (option_map (λ (g : GivenRecord). fault.NoDenials (told_of g)) signed)

-- what is wrong with what is at the origin, where this is the first record of a type
abbrev pub apex_fault : Name → Bool → (ℕ → Option GivenRecord) → Option LoadFault
apex_fault origin denied first_at =
    option_or (ns_fault origin (first_at NS)) (option_or (undenied_fault denied (first_at DNSKEY)) (undenied_fault denied (first_at NSEC3PARAM)))

-- a record of the zone of an origin denies a name
abbrev pub is_denial : Name → GivenRecord → Bool
is_denial origin g = is_denial_type (type_of g.record.rdata) && is_at_or_above origin (lower g.record.name)

module _ (origin : Name) (gs : List GivenRecord) where
  -- no SOA is at the origin
  abbrev pub soa_fault : Option LoadFault
  soa_fault = option_map_or (λ serial. None) (first_serial (records_of (given_at origin gs origin SOA))) (Some (fault.NoSoa origin))

  -- one of the records denies a name
  abbrev pub has_denials : Bool
  has_denials = list_any (is_denial origin) gs

  -- what is wrong with the records, before sets are made of them
  abbrev pub records_fault : Option LoadFault
  records_fault =
      option_or (class_fault gs) (option_or soa_fault (apex_fault origin has_denials (λ t. first_of (given_at origin gs origin t))))

  -- a name owns a CNAME
  abbrev pub owns_cname : Name → Bool
  owns_cname n = not (length (given_at origin gs n CNAME) == 0)

  -- what is wrong with the set of a name and a type
  abbrev pub fault_at : Name → ℕ → Option LoadFault
  fault_at n t = set_fault origin n t (owns_cname n) (given_at origin gs n t)

  -- nothing is wrong with the records, nor with a set
  pub record IsFaultless : Type 0 where
    pub records : records_fault ≡ None
    pub sets : (n : Name) (t : ℕ) → fault_at n t ≡ None

  -- this is what is wrong with the first set that has a fault, by name in canonical order and type; with the records nothing is
  pub record IsFirstSetFault (e : LoadFault) : Type 0 where
    pub records : records_fault ≡ None
    pub at : RrKey
    pub here : fault_at at.name at.record_type.0 ≡ Some e
    pub before : (q : RrKey) → key_cmp q at ≡ Less → fault_at q.name q.record_type.0 ≡ None

  -- why no zone is made: no memory was found, or something is wrong with the records, or else with a set
  abbrev pub IsFault : LoadFault → Type 0
  IsFault e = (e ≡ fault.Memory) ⊎ ((records_fault ≡ Some e) ⊎ IsFirstSetFault e)
