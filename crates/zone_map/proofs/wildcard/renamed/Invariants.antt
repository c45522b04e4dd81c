use Rattle.std.proofs.Common.{◌≡◌, map, take}
use Rattle.zone_proto.specs.Sets.{set_under}
use Rattle.zone_map.specs.Wildcards.{renamed_signature}
use Rattle.zone_map.proofs.wildcard.renamed.Given as goal

-- the set under its new owner, and the signatures so far
abbrev pub invariant-loop-rrsig : goal.invariant-loop-rrsig
invariant-loop-rrsig l = l.made ≡ record (set_under l.name l.set.ttl l.set) { signatures = map (renamed_signature l.wildcard_name l.name) (take l.rrsig-index l.rrsig-items) }
