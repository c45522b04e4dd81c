-- What a change makes of the sets of a zone (RFC 2136 section 3.4.2)
use Rattle.std.specs.Prelude.{ℕ, ◌-◌, Bool, false, not, ◌==◌, ◌&&◌, ◌||◌, nat_lt, if◌then◌else◌, List, [], ◌∷◌, ◌++◌, length, map, filter, fold, Option, Some, None, option_map, unwrap_or}
use Rattle.std.specs.Ordering.{eq_by_cmp}
use Rattle.zone_proto.specs.Data.{same_data, type_of}
use Rattle.zone_proto.specs.Names.{Name, lower, name_cmp}
use Rattle.zone_proto.specs.Serials.{is_newer}
use Rattle.zone_proto.specs.Sets.{RRset, empty_set, first_serial, inserted, is_single, soa_serial, stores}
use Rattle.zone_proto.specs.Types.{NS, SOA, is_derived}
use Rattle.zone_proto.specs.declared.rdata.RData.{RData}
use Rattle.zone_proto.specs.declared.record.Record.{Record}
use Rattle.zone_proto.specs.declared.rr_key.RrKey.{RrKey}
use Rattle.zone_map.specs.Zones.{Sets, set_at, owns, put, types_at, without}
use Rattle.zone_map.specs.Upserts.{clashes}
use Rattle.zone_update.specs.declared.change.Change.{Change}
use Rattle.zone_update.specs.declared.change.Change.TheVariants.{Add, DeleteSet, DeleteName, DeleteRecord}

-- ---- sets

-- the set with a record inserted, or as it was
abbrev pub with_taken : ℕ → RRset → Record → RRset
with_taken serial s r = unwrap_or (inserted s r serial) s

-- the set of an owner and a type that these records make, inserted one after the other
abbrev pub set_of : Name → ℕ → ℕ → List Record → RRset
set_of owner t serial rs = fold (with_taken serial) (empty_set owner t serial) rs

abbrev pub with_ttl : ℕ → Record → Record
with_ttl ttl r = record r { ttl = ttl }

-- the records of other data
abbrev pub others : List Record → RData → List Record
others rs d = filter (λ x. not (same_data x.rdata d)) rs

-- a set takes the place of the one that stood there; without records it isn't there
abbrev pub put_or_without : Sets → Name → ℕ → RRset → Sets
put_or_without m n t s = if length s.records == 0 then without m n t else put m n t s

-- ---- serials (section 3.6)

-- both are serials, and the first isn't greater (RFC 1982 section 3.2)
abbrev pub is_not_newer : Option ℕ → Option ℕ → Bool
is_not_newer (Some new) (Some old) = not (is_newer new old)
is_not_newer _ _ = false

-- ---- a record is added (section 3.4.2.2)

-- The records that stay beside it: those of other data, with its TTL, since a set has one TTL (RFC 2181 section 5.2). A set of SOA,
-- CNAME or ANAME has one record.
abbrev pub beside : List Record → Record → List Record
beside rs r = if is_single (type_of r.rdata) then [] else map (with_ttl r.ttl) (others rs r.rdata)

-- An SOA that isn't newer is ignored; and what is there as it is asked for isn't changed.
abbrev pub is_ignored : RRset → Record → Bool
is_ignored s r =
    is_not_newer (soa_serial r.rdata) (first_serial s.records) || ((s.ttl == r.ttl) && stores s.records r.rdata)

-- the set that a record makes, alone or beside the records that are there; none where it changes nothing. There is no SOA but the zone's.
abbrev pub made : ℕ → Record → Option RRset → Option RRset
made serial r None =
    if type_of r.rdata == SOA then None else Some (set_of r.name (type_of r.rdata) serial (r ∷ []))
made serial r (Some s) =
    if is_ignored s r then None else Some (set_of s.owner (type_of r.rdata) serial (beside s.records r ++ r ∷ []))

-- a CNAME beside other types, and another type beside a CNAME, are ignored; denials may stand beside it
abbrev pub added : ℕ → Sets → Record → Option Sets
added serial m r =
    if clashes m (lower r.name) (type_of r.rdata) then None
    else option_map (put_or_without m (lower r.name) (type_of r.rdata)) (made serial r (set_at m (lower r.name) (type_of r.rdata)))

-- ---- sets are deleted

-- the zone's SOA, and its NS, are deleted neither as sets nor with their name
abbrev pub is_of_apex : Name → Name → ℕ → Bool
is_of_apex origin n t = eq_by_cmp name_cmp origin n && (t == SOA || t == NS)

-- a set is deleted (section 3.4.2.3)
abbrev pub deleted_set : Sets → Name → RrKey → Option Sets
deleted_set m origin k =
    if is_of_apex origin k.name k.record_type.0 || not (owns m k.name k.record_type.0) then None
    else Some (without m k.name k.record_type.0)

-- all sets of a name are deleted, but for those that follow from others: they follow again
abbrev pub goes : Name → Name → ℕ → Bool
goes origin n t = not (is_of_apex origin n t) && not (is_derived t)

abbrev pub going : Name → Name → List ℕ → List ℕ
going origin n ts = filter (goes origin n) ts

abbrev pub without_types : Name → Sets → List ℕ → Sets
without_types n m ts = fold (λ (x : Sets) (t : ℕ). without x n t) m ts

-- the sets without these, where there are some
abbrev pub without_any : Name → Sets → List ℕ → Option Sets
without_any n m ts = if length ts == 0 then None else Some (without_types n m ts)

abbrev pub deleted_name : Sets → Name → Name → Option Sets
deleted_name m origin n = without_any n m (going origin n (types_at m n))

-- ---- a record is deleted (section 3.4.2.4)

-- of the origin neither the SOA nor the last NS is deleted
abbrev pub is_kept : Name → Name → ℕ → RRset → Bool
is_kept origin n t s = eq_by_cmp name_cmp origin n && (t == SOA || (t == NS && (length s.records == 1)))

abbrev pub deleted_from : ℕ → Sets → Name → Name → RData → Option RRset → Option Sets
deleted_from serial m origin n d None = None
deleted_from serial m origin n d (Some s) =
    if is_kept origin n (type_of d) s || not (stores s.records d) then None
    else Some (put_or_without m n (type_of d) (set_of s.owner (type_of d) serial (map (with_ttl s.ttl) (others s.records d))))

-- the record of these data is deleted
abbrev pub deleted_record : ℕ → Sets → Name → Name → RData → Option Sets
deleted_record serial m origin n d = deleted_from serial m origin n d (set_at m n (type_of d))

-- ---- what a change makes of the sets; none where it changes nothing

abbrev pub processed : ℕ → Sets → Name → Change → Option Sets
processed serial m origin (Add r) = added serial m r
processed serial m origin (DeleteSet k) = deleted_set m origin k
processed serial m origin (DeleteName n) = deleted_name m origin n
processed serial m origin (DeleteRecord n d) = deleted_record serial m origin n d
