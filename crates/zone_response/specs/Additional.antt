-- The addresses of the hosts that records name: those that go beside an answer, and glue
use Rattle.std.specs.Prelude.{Bool, true, cond, List, [], ◌∷◌, ◌==◌, filter_map, flat_map, fold, map, take, Option, Some, None}
use Rattle.std.specs.Option.{option_map_or}
use Rattle.zone_proto.specs.declared.rdata.RData.{RData}
use Rattle.zone_proto.specs.declared.rdata.RData.TheVariants as V
use Rattle.zone_proto.specs.declared.record.Record.{Record}
use Rattle.zone_proto.specs.Names.{Name, lower, name_eq, is_at_or_above}
use Rattle.zone_proto.specs.Sets.{RRset}
use Rattle.zone_proto.specs.Types.{A, AAAA, NS}
use Rattle.zone_map.specs.Zones.{Sets, set_at}
use Rattle.zone_lookup.specs.Runs.{with_new}
use Rattle.zone_response.specs.declared.response.Part.TheVariants as part
use Rattle.zone_response.specs.Sections.{as_it_is, part_for}
use Rattle.zone_response.specs.Descent.{Diversion, cut, renaming, diversion}

-- the host that data name: a server of a zone, a mail exchange, a server of a service (RFC 1035 sections 3.3.11 and 3.3.9, RFC 2782)
abbrev pub host_of : RData → Option Name
host_of (V.NS n) = Some (lower n)
host_of (V.MX d) = Some (lower d.exchange)
host_of (V.SRV d) = Some (lower d.target)
host_of _ = None

-- names with the host that a record names, if it isn't among them
abbrev pub with_host : List Name → Record → List Name
with_host names r = option_map_or (with_new name_eq names) (host_of r.rdata) names

-- the hosts that the first 64 records of a set name, each once
abbrev pub hosts : RRset → List Name
hosts s = fold with_host [] (take 64 s.records)

-- the addresses that a name owns
abbrev pub addresses : Sets → Name → List RRset
addresses m h = filter_map (set_at m h) (A ∷ AAAA ∷ [])

-- by what is above a host: nothing, so that its addresses are the zone's; a zone cut, below which they go only with the
-- NS set that names the host, and unsigned (RFC 4035 section 2.2); or a DNAME, so that there is no such name
abbrev pub diverted_host : Sets → Bool → Bool → Name → Option Diversion → List RRset
diverted_host m signed below h None = map (as_it_is (part_for signed)) (addresses m h)
diverted_host m signed below h (Some (cut c)) = cond below (map (as_it_is part.Records) (addresses m h)) []
diverted_host m signed below h (Some (renaming d)) = []

module _ (origin : Name) (m : Sets) (signed : Bool) where
  -- the addresses of a host, if it is one of the zone
  abbrev pub host_sets : Bool → Name → List RRset
  host_sets below h = cond (is_at_or_above origin h) (diverted_host m signed below h (diversion origin m h A)) []

  -- those beside the last set of an answer (RFC 1034 section 4.3.2 step 6)
  abbrev pub beside : RRset → List RRset
  beside s = flat_map (host_sets (s.record_type == NS)) (hosts s)

  -- those of a server that doesn't are in the child
  abbrev pub sibling_sets : Name → Name → List RRset
  sibling_sets child h = cond (is_at_or_above child h) [] (host_sets true h)

  -- beside a referral, those of the child's servers that stand elsewhere in the zone: sibling glue (RFC 9471 section 3.2)
  abbrev pub sibling_glue : RRset → List RRset
  sibling_glue c = flat_map (sibling_sets (lower c.owner)) (hosts c)

-- those of a server that is in the child
abbrev pub glue_of : Sets → Name → Name → List RRset
glue_of m child h = cond (is_at_or_above child h) (map (as_it_is part.Records) (addresses m h)) []

-- those of all of them, which have to go (RFC 9471 section 3.1)
abbrev pub glue : Sets → RRset → List RRset
glue m c = flat_map (glue_of m (lower c.owner)) (hosts c)
