-- The sets of one type that are in a zone, and their serials
use Rattle.std.specs.Prelude.{ℕ, ◌==◌, cond, if◌then◌else◌, [], map, Option, None, option_map}
use Rattle.zone_proto.specs.declared.rr_key.RrKey.{RrKey}
use Rattle.zone_proto.specs.Names.{Name}
use Rattle.zone_proto.specs.Sets.{RRset}
use Rattle.zone_map.specs.Zones.{Sets, set_at}

-- a set with a serial, and without signatures
abbrev pub renumbered : ℕ → RRset → RRset
renumbered serial s = record s { serial = serial; signatures = [] }

-- the sets of a type that are in a zone, each so, by name and type
abbrev pub standing_at : Sets → ℕ → ℕ → Name → ℕ → Option RRset
standing_at m denials serial n t = cond (t == denials) (option_map (renumbered serial) (set_at m n t)) None

-- sets by their keys, of which those of a type have a serial
abbrev pub with_serial : ℕ → ℕ → Sets → Sets
with_serial t serial es = map (λ (e : RrKey × RRset). (e.0, if e.0.record_type.0 == t then record e.1 { serial = serial } else e.1)) es
