-- What answers show of a zone: of each set the owner, the type, the TTL, the records and the signatures
use Rattle.std.specs.Prelude.{ℕ, Bool, ◌==◌, ◌&&◌, List, [], ◌∷◌, map, Option, option_map}
use Rattle.std.specs.Cmp.Lexicographic.{pointwise}
use Rattle.zone_proto.specs.Names.{Name, same_name}
use Rattle.zone_proto.specs.Records.{same_record}
use Rattle.zone_proto.specs.Sets.{RRset}
use Rattle.zone_proto.specs.Types.{IN}
use Rattle.zone_proto.specs.declared.record.Record.{Record}
use Rattle.zone_map.specs.Zones.{Sets}

-- the record with another TTL
abbrev pub with_ttl : ℕ → Record → Record
with_ttl ttl r = record r { ttl = ttl }

-- the owner as the first record spells it
abbrev pub spelled : Name → List Record → Name
spelled owner [] = owner
spelled owner (r ∷ rs) = r.name

-- A set as answers show it: its records and its signatures have the set's TTL (RFC 2181 section 5.2, RFC 4034 section 3), its class is IN,
-- and its serial, which no record has, is 0.
abbrev pub shown_set : RRset → RRset
shown_set s = record {
  owner = spelled s.owner s.records;
  record_type = s.record_type;
  class = IN;
  ttl = s.ttl;
  serial = 0;
  records = map (with_ttl s.ttl) s.records;
  signatures = map (with_ttl s.ttl) s.signatures;
}

-- a zone as answers show it
abbrev pub shown : Sets → Sets
shown m = map (λ e. (e.0, shown_set e.1)) m

abbrev pub shown_if : Option RRset → Option RRset
shown_if o = option_map shown_set o

-- ---- when answers show two sets alike

abbrev pub have_same_head : RRset → RRset → Bool
have_same_head s t = same_name (spelled s.owner s.records) (spelled t.owner t.records) && (s.record_type == t.record_type && s.ttl == t.ttl)

-- their TTLs aside
abbrev pub have_same_records : RRset → RRset → Bool
have_same_records s t = pointwise same_record s.records t.records && pointwise same_record s.signatures t.signatures
