use Rattle.std.proofs.Common.{◌≡◌, drop}
use Rattle.update_policy.specs.Policies.{permits}
use Rattle.update_policy.proofs.table.permits_key.Given as goal

-- what the rules that are left say is what all say
abbrev pub invariant-loop-rule : goal.invariant-loop-rule
invariant-loop-rule l = permits (drop l.rule-index l.rules) l.key l.name l.record_type.0 ≡ permits l.rules l.key l.name l.record_type.0
