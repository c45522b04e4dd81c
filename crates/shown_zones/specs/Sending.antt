-- The records of steps as an incremental transfer has them (RFC 1995 section 4)
use Rattle.std.specs.Prelude.{List, ◌∷◌, ◌++◌, map}
use Rattle.std.specs.List.{flat_map}
use Rattle.zone_proto.specs.Sets.{RRset}
use Rattle.zone_proto.specs.declared.record.Record.{Record}
use Rattle.shown_zones.specs.Shown.{with_ttl}
use Rattle.shown_zones.specs.Steps.{Step}

-- the records of a set and then its signatures, with the TTL of the set (RFC 2181 section 5.2, RFC 4034 section 3)
abbrev pub sent : RRset → List Record
sent s = map (with_ttl s.ttl) (s.records ++ s.signatures)

-- the sets of a step: the older SOA and what is deleted, the newer SOA and what is added
abbrev pub sent_sets : Step → List RRset
sent_sets s = s.old_soa ∷ (s.deleted ++ s.new_soa ∷ s.added)

abbrev pub sent_step : Step → List Record
sent_step s = flat_map sent (sent_sets s)

-- the records of a set without its signatures
abbrev pub sent_alone : RRset → List Record
sent_alone s = map (with_ttl s.ttl) s.records

-- steps between two SOA records of the newest version
abbrev pub sent_steps : RRset → List Step → List Record
sent_steps soa ss = sent_alone soa ++ (flat_map sent_step ss ++ sent_alone soa)
