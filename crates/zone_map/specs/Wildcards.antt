-- What a name has in a zone: a set of its own, or else one of a wildcard (RFC 4592)
use Rattle.std.specs.Prelude.{ℕ, Bool, false, ◌&&◌, ◌||◌, not, cond, [], Option, None, find, map, option_map, option_and_then}
use Rattle.std.specs.List.{list_any}
use Rattle.std.specs.Map.{keys_of}
use Rattle.std.specs.Option.{option_or, option_map_or}
use Rattle.zone_proto.specs.declared.record.Record.{Record}
use Rattle.zone_proto.specs.Names.{Name, same_name, is_at_or_above, is_root, is_wildcard, proper_ancestors, wildcard_under}
use Rattle.zone_proto.specs.Sets.{RRset, record_under}
use Rattle.zone_proto.specs.Types.{IN}
use Rattle.zone_map.specs.Zones.{Sets}
use Rattle.zone_map.specs.Upserts.{is_denial_type}
use Rattle.zone_map.specs.Direct.{direct}

-- n exists: n, or a name below it, owns a set of a type other than those of denial (RFC 4592 section 2.2.2)
abbrev pub exists : Sets → Name → Bool
exists m n = list_any (λ k. is_at_or_above n k.name && not (is_denial_type k.record_type.0)) (keys_of m)

-- a signature of a wildcard's set: one that the wildcard owns is owned by the queried name then, and any other stays as
-- it is
abbrev pub renamed_signature : Name → Name → Record → Record
renamed_signature wildcard_name n r = cond (same_name r.name wildcard_name) (record r { name = n }) r

-- a wildcard's set under the queried name: of class IN, of the same type and TTL, and of serial 0; signatures are
-- listed only where they are asked for
abbrev pub renamed : Bool → Name → Name → RRset → RRset
renamed signed wildcard_name n s = record {
  owner = n;
  record_type = s.record_type;
  class = IN;
  ttl = s.ttl;
  serial = 0;
  records = map (record_under n s.ttl) s.records;
  signatures = cond signed (map (renamed_signature wildcard_name n) s.signatures) [];
}

-- the closest encloser: the longest proper ancestor that exists (RFC 4592 section 3.3.1)
abbrev pub closest_encloser : Sets → Name → Option Name
closest_encloser m n = find (exists m) (proper_ancestors n)

-- the wildcard at the closest encloser of a name, the source of synthesis (RFC 4592 section 3.3.1): the one under the
-- closest encloser; none for the root, for a name that is itself a wildcard, and for one that exists
abbrev pub asked_wildcard : Sets → Name → Option Name
asked_wildcard m n = cond (is_root n || is_wildcard n || exists m n) None (option_map wildcard_under (closest_encloser m n))

-- a wildcard is asked, and exists
abbrev pub asked_wildcard_exists : Sets → Name → Bool
asked_wildcard_exists m n = option_map_or (exists m) (asked_wildcard m n) false

-- the direct set of that wildcard at the queried name
abbrev pub wildcard : Sets → Bool → Name → ℕ → Option RRset
wildcard m signed n t = option_and_then (λ s. option_map (renamed signed s n) (direct m s t)) (asked_wildcard m n)

-- the found set: the direct set, else the wildcard's
abbrev pub found : Sets → Bool → Name → ℕ → Option RRset
found m signed n t = option_or (direct m n t) (wildcard m signed n t)
