use Rattle.std.proofs.Common.{◌≡◌, ◌++◌, drop}
use Rattle.std.specs.Prelude.{map, option_copied}
use Rattle.zone_proto.specs.Signing.{signed_part}
use Rattle.zone_keeping.specs.Keeping.{kept_list, kept_record}
use Rattle.zone_keeping.proofs.keeping.kept_list.Given as goal

-- the signatures so far, and behind them what the others become
abbrev pub invariant-loop-record : goal.invariant-loop-record
invariant-loop-record l =
    l.list ++ map (kept_record l.span l.usable (option_copied l.old) (signed_part l.set)) (drop l.record-index l.record-items) ≡ kept_list l.span l.usable (option_copied l.old) l.set
