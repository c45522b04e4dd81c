use Rattle.std.proofs.Common.{◌≡◌}
use Rattle.zone_proto.specs.Types.{NSEC}
use Rattle.zone_map.specs.Zones.{names_of}
use Rattle.zone_denial.specs.Authority.{is_authoritative}
use Rattle.chain_changes.specs.Renewal.{next_authoritative}
use Rattle.chain_changes.proofs.NamesFrom.{first_other}
use Rattle.chain_changes.proofs.entries.next_authoritative.Given as goal

-- the first of the entries that are left is the next
abbrev pub invariant-loop-key : goal.invariant-loop-key
invariant-loop-key l = first_other (is_authoritative l.origin l.zone NSEC) l.name (names_of l.key-iterator) ≡ next_authoritative l.origin l.zone l.name
