-- Records as the sets that they are sent of, one behind the other: the records of a set, and then its signatures
use Rattle.std.specs.Prelude.{◌==◌, ◌&&◌, not, Bool, if◌then◌else◌, List, [], ◌∷◌, ◌++◌, Option, Some, None}
use Rattle.zone_proto.specs.Data.{type_of}
use Rattle.zone_proto.specs.Names.{same_name}
use Rattle.zone_proto.specs.Sets.{RRset, inserted}
use Rattle.zone_proto.specs.Types.{IN, RRSIG, SOA}
use Rattle.zone_proto.specs.declared.record.Record.{Record}
use Rattle.message_reading.specs.Octets.{◌>>=◌}

-- the set that a record begins
abbrev pub begun : Record → RRset
begun r = record {
  owner = r.name;
  record_type = type_of r.rdata;
  class = IN;
  ttl = r.ttl;
  serial = 0;
  records = r ∷ [];
  signatures = [];
}

-- a record is of the owner and the type of a set; an SOA always begins another one
abbrev pub continues : RRset → Record → Bool
continues s r = not (type_of r.rdata == SOA) && (same_name r.name s.owner && type_of r.rdata == s.record_type)

-- behind the signatures of a set comes none of its records
abbrev pub joined : List Record → RRset → Record → Option RRset
joined [] s r = inserted s r 0
joined (x ∷ xs) s r = None

abbrev pub signed : RRset → Record → RRset
signed s r = record s { signatures = s.signatures ++ r ∷ [] }

-- The sets so far, and the one that the last record belongs to.
abbrev pub Grouped : Type 0
Grouped = List RRset × Option RRset

abbrev pub with_current : List RRset → Option RRset → Option Grouped
with_current done None = None
with_current done (Some s) = Some (done, Some s)

-- one more record: a signature of the last set; or a record of it, whose data it hasn't; or the first of the next set
abbrev pub behind : List RRset → RRset → Record → Option Grouped
behind done s r =
    if type_of r.rdata == RRSIG then Some (done, Some (signed s r))
    else (if continues s r then with_current done (joined s.signatures s r)
    else Some (done ++ s ∷ [], Some (begun r)))

abbrev pub with_record : Grouped → Record → Option Grouped
with_record (done, None) r = if type_of r.rdata == RRSIG then None else Some (done, Some (begun r))
with_record (done, Some s) r = behind done s r

unfoldable pub grouped : Grouped → List Record → Option Grouped
grouped g [] = Some g
grouped g (r ∷ rs) = with_record g r >>= λ n. grouped n rs

abbrev pub all_sets : Grouped → List RRset
all_sets (done, None) = done
all_sets (done, Some s) = done ++ s ∷ []

-- the sets of records, none where a signature comes first, or a record of a set comes twice or behind its signatures
abbrev pub sets_in : List Record → Option (List RRset)
sets_in rs = grouped ([], None) rs >>= λ g. Some (all_sets g)
