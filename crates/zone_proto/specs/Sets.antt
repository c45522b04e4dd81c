-- Record sets, and the insertion of a record
use Rattle.std.specs.Prelude.{◌≡◌, ℕ, ◌≤◌, List, [], ◌∷◌, ◌++◌, Bool, true, false, ◌==◌, ◌||◌, ◌&&◌, if◌then◌else◌, nat_lt, length, map, Option, Some, None}
use Rattle.std.specs.List.{list_any, AllPairs, All}
use Rattle.std.specs.Cmp.Lexicographic.{pointwise}
use Rattle.zone_proto.specs.Names.{Name, same_name}
use Rattle.zone_proto.specs.Types as types
use Rattle.zone_proto.specs.Data.{same_data, type_of}
use Rattle.zone_proto.specs.Records.{same_record}
use Rattle.zone_proto.specs.declared.rdata.RData.{RData}
use Rattle.zone_proto.specs.declared.rdata.RData.TheVariants as V
use Rattle.zone_proto.specs.declared.record.Record.{Record}

-- the records of one owner, type and class (RFC 2181 section 5), with their signatures
pub record RRset : Type 0 where
  pub owner : Name
  pub record_type : ℕ
  pub class : ℕ
  pub ttl : ℕ
  pub serial : ℕ
  pub records : List Record
  pub signatures : List Record

-- a set of this type has at most one record: SOA (RFC 1035 section 6.1), CNAME (RFC 1034 section 3.6.2) and ANAME
abbrev pub is_single : ℕ → Bool
is_single t = t == types.SOA || (t == types.CNAME || t == types.ANAME)

-- a set of an owner and a type that has no records yet
abbrev pub empty_set : Name → ℕ → ℕ → RRset
empty_set n t serial = record { owner = n; record_type = t; class = types.IN; ttl = 0; serial = serial; records = []; signatures = [] }

-- the records have the set's owner and type, differ in data, and are at most one where the type says so
pub record IsSet (owner : Name) (record_type : ℕ) (records : List Record) : Type 0 where
  pub owners : All (λ (r : Record). same_name r.name owner ≡ true) records
  pub types : All (λ (r : Record). type_of r.rdata ≡ record_type) records
  pub differ : AllPairs (λ (a b : Record). same_data a.rdata b.rdata ≡ false) records
  pub single : is_single record_type ≡ true → length records ≤ 1

-- records of type RRSIG (RFC 4034 section 3)
abbrev pub AreSignatures : List Record → Type 0
AreSignatures rs = All (λ (r : Record). type_of r.rdata ≡ types.RRSIG) rs

-- sets are equal by all seven parts, names ignoring case, records as records are equal
abbrev pub same_set : RRset → RRset → Bool
same_set a b = same_name a.owner b.owner && (a.record_type == b.record_type && (a.class == b.class && (a.ttl == b.ttl && (a.serial == b.serial && (pointwise same_record a.records b.records && (pointwise same_record a.signatures b.signatures))))))

-- the serial of SOA data
abbrev pub soa_serial : RData → Option ℕ
soa_serial (V.SOA a) = Some a.serial
soa_serial _ = None

-- the serial of the SOA that a list of records begins with
abbrev pub first_serial : List Record → Option ℕ
first_serial [] = None
first_serial (r ∷ rs) = soa_serial r.rdata

-- whether a stored record has these data
abbrev pub stores : List Record → RData → Bool
stores rs d = list_any (λ (x : Record). same_data x.rdata d) rs

-- the set with these records after one was taken: the TTL is the record's, the serial the call's, and the signatures are dropped
abbrev pub with_records : RRset → List Record → Record → ℕ → RRset
with_records s rs r serial = record s { records = rs; ttl = r.ttl; serial = serial; signatures = [] }

-- the set after a record was taken in place of all stored ones
abbrev pub replaced : RRset → Record → ℕ → RRset
replaced s r serial = with_records s (r ∷ []) r serial

-- the set after a record was taken behind all stored ones
abbrev pub appended : RRset → Record → ℕ → RRset
appended s r serial = with_records s (s.records ++ r ∷ []) r serial

-- an SOA, by the serials of the stored one and its own: it replaces the stored one if its serial is the greater number
abbrev pub soa_inserted : Option ℕ → ℕ → RRset → Record → ℕ → Option RRset
soa_inserted None new s r serial = Some (appended s r serial)
soa_inserted (Some old) new s r serial = if nat_lt old new then Some (replaced s r serial) else None

-- a record by its data: an SOA by its serial, a CNAME or ANAME in place of what is stored, any other unless its data are stored
abbrev pub inserted_by : RData → RRset → Record → ℕ → Option RRset
inserted_by (V.SOA a) s r serial = soa_inserted (first_serial s.records) a.serial s r serial
inserted_by (V.CNAME n) s r serial = Some (replaced s r serial)
inserted_by (V.ANAME n) s r serial = Some (replaced s r serial)
inserted_by d s r serial = if stores s.records d then None else Some (appended s r serial)

-- the set after the insertion of a record with a serial; none if the record isn't taken
abbrev pub inserted : RRset → Record → ℕ → Option RRset
inserted s r serial = inserted_by r.rdata s r serial

-- what a reader of a set is given: nothing where it has no records, else these, and with the signatures those after them
abbrev pub lent_lists : List Record → List Record → Bool → List Record
lent_lists [] signatures signed = []
lent_lists (r ∷ rs) signatures true = (r ∷ rs) ++ signatures
lent_lists (r ∷ rs) signatures false = r ∷ rs

abbrev pub lent : RRset → Bool → List Record
lent s signed = lent_lists s.records s.signatures signed

-- the record of data in a set: of its owner and TTL, and class IN
abbrev pub record_of : RRset → RData → Record
record_of s d = record { name = s.owner; dns_class = record { 0 = types.IN }; ttl = s.ttl; rdata = d }

-- a record under another owner: of class IN, with this TTL, and of the same data
abbrev pub record_under : Name → ℕ → Record → Record
record_under n ttl r = record { name = n; dns_class = record { 0 = types.IN }; ttl = ttl; rdata = r.rdata }

-- a set's records under another owner: of class IN, of the same type, with this TTL, of serial 0, and without signatures
abbrev pub set_under : Name → ℕ → RRset → RRset
set_under n ttl s = record {
  owner = n;
  record_type = s.record_type;
  class = types.IN;
  ttl = ttl;
  serial = 0;
  records = map (record_under n ttl) s.records;
  signatures = [];
}
