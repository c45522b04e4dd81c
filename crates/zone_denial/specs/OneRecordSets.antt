-- Sets that are made of one record
use Rattle.std.specs.Prelude.{ℕ, [], ◌∷◌}
use Rattle.zone_proto.specs.declared.rdata.RData.{RData}
use Rattle.zone_proto.specs.Names.{Name}
use Rattle.zone_proto.specs.Sets.{RRset, record_of, empty_set}

-- a set of an owner and a type with one record, which has the data and the TTL, without signatures
abbrev pub one_record_set : (t ttl serial : ℕ) → Name → RData → RRset
one_record_set t ttl serial n d =
    let none = record (empty_set n t serial) { ttl = ttl } in
    record none { records = record_of none d ∷ [] }
