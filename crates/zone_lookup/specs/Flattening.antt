-- ANAME: an owner that takes the addresses of another name as its own. No standard has it. An answer shows the addresses as records of the owner, and the ANAME set beside them.
use Rattle.std.specs.Prelude.{ℕ, Bool, ◌&&◌, not, ◌-◌, cond, List, [], ◌∷◌, map, min, length, ◌==◌, Option, slice_get}
use Rattle.std.specs.Option.{option_map_or}
use Rattle.zone_proto.specs.declared.record.Record.{Record}
use Rattle.zone_proto.specs.Sets.{RRset, record_under}
use Rattle.zone_proto.specs.Types.{IN, ANAME}
use Rattle.zone_map.specs.Direct.{is_address}

-- the last set of a list
abbrev pub last_set : List RRset → Option RRset
last_set sets = slice_get sets (length sets - 1)

-- an ANAME set, where addresses are asked for
abbrev pub stands_for_addresses : ℕ → RRset → Bool
stands_for_addresses t s = (s.record_type == ANAME) && is_address t

-- the TTL is the lesser one of the ANAME set and of the last additional set
abbrev pub flattened_ttl : RRset → RRset → ℕ
flattened_ttl aname last = min aname.ttl last.ttl

-- the ANAME set flattened for a type by the last additional set: the ANAME set's owner has the data of that set where it is of the type, and else none; of class IN and serial 0
abbrev pub unsigned_flattened : RRset → ℕ → RRset → RRset
unsigned_flattened aname t last = record {
  owner = aname.owner;
  record_type = t;
  class = IN;
  ttl = flattened_ttl aname last;
  serial = 0;
  records = cond (last.record_type == t) (map (record_under aname.owner (flattened_ttl aname last)) last.records) [];
  signatures = [];
}

-- the same with the signatures that it gets
abbrev pub flattened : (RRset → List Record) → RRset → ℕ → RRset → RRset
flattened sign aname t last = record (unsigned_flattened aname t last) { signatures = sign (unsigned_flattened aname t last) }

-- a set that is answered alone, by the last additional set, if there is one: an ANAME set is flattened where addresses are asked for and something was found along its targets
abbrev pub alone : (RRset → List Record) → ℕ → RRset → Option RRset → RRset
alone sign t s last = option_map_or (λ l. cond (stands_for_addresses t s) (flattened sign s t l) s) last s

-- the additional section of an answer that ends with a set: where something was found along its targets, an ANAME set
-- comes first
abbrev pub beside : ℕ → Option RRset → List RRset → List RRset
beside t terminal more = option_map_or (λ s. cond (stands_for_addresses t s && not (length more == 0)) (s ∷ more) more) terminal more
