use Rattle.std.proofs.Common.{◌≡◌, ◌++◌, cond, drop}
use Rattle.std.specs.Prelude.{map, option_copied, Some, None}
use Rattle.zone_proto.specs.declared.rdata.signing.DNSKEY.{DNSKEY}
use Rattle.zone_keeping.specs.Usable.{is_sole, usable_keys}
use Rattle.zone_keeping.proofs.usable.usable_keys.Given as goal

-- the keys so far, and behind them what the others become
abbrev pub invariant-loop-key : goal.invariant-loop-key
invariant-loop-key l =
    l.usable.items ++ map (λ (key : DNSKEY). cond (is_sole l.keys (option_copied l.published) key) (Some key) None) (drop l.key-index l.keys) ≡ usable_keys l.keys (option_copied l.published)
