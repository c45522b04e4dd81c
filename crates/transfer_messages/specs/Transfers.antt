-- The records that a transfer sends (RFC 5936 section 2.2), and which of them are left at a place
use Rattle.std.specs.Prelude.{List, ◌++◌, drop, Option, Some, None}
use Rattle.std.specs.BTreeMap.Range.{entries_between}
use Rattle.std.specs.List.{flat_map}
use Rattle.std.specs.Map.{values_of}
use Rattle.std.specs.declared.ops.Bound.TheVariants.{Included, Unbounded}
use Rattle.zone_proto.specs.declared.record.Record.{Record}
use Rattle.zone_proto.specs.declared.rr_key.RrKey.{RrKey}
use Rattle.zone_proto.specs.Keys.{key_cmp}
use Rattle.zone_proto.specs.Sets.{RRset}
use Rattle.zone_map.specs.Zones.{Sets}
use Rattle.message_writing.specs.Responses.{records_together}
use Rattle.zone_server.specs.Transfers.{between, soa_alone}
use Rattle.transfer_messages.specs.declared.place.Place.{Place}
use Rattle.transfer_messages.specs.declared.place.Place.TheVariants as at

-- the records of some sets, in the order of their keys
abbrev pub sets_records : Sets → List Record
sets_records m = flat_map (λ s. records_together (between s)) (values_of m)

-- what is sent of a zone with this SOA and these sets: the SOA, all sets, and the SOA again
abbrev pub zone_records : RRset → Sets → List Record
zone_records soa m = records_together (soa_alone soa) ++ (sets_records m ++ records_together (soa_alone soa))

-- the sets from a key on; all of them without one
abbrev pub ahead_of : Sets → Option RrKey → Sets
ahead_of m None = m
ahead_of m (Some k) = entries_between key_cmp (Included k) Unbounded m

-- what is left of it at a place
abbrev pub left_at : RRset → Sets → Place → List Record
left_at soa m (at.Opening n) = drop n (zone_records soa m)
left_at soa m (at.Set k n) = drop n (sets_records (ahead_of m (Some k)) ++ records_together (soa_alone soa))
left_at soa m (at.Closing n) = drop n (records_together (soa_alone soa))
