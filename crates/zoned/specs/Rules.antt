-- The rules of zones, as a file has them
use Rattle.std.specs.Prelude.{◌≡◌, List, [], ◌∷◌, ◌++◌, Vec, if◌then◌else◌}
use Rattle.zone_proto.specs.Names.{Name}
use Rattle.message_tsig.specs.Keys.{are_same}
use Rattle.update_policy.specs.declared.rule.Rule.{Rule}
use Rattle.update_rules.specs.declared.reading.PlacedRule.{PlacedRule}
use Rattle.held_updates.specs.Tables.{rules_for}

-- those of them that are rules of the zone of an origin, in their order
abbrev pub rules_of : Name → List PlacedRule → List Rule
rules_of n [] = []
rules_of n (p ∷ ps) = if are_same p.origin n then p.rule ∷ rules_of n ps else rules_of n ps

-- each zone has these of its rules behind those that it had
abbrev pub HasRulesMore : {A : Type 0} → List PlacedRule → List (Name × Vec Rule A) → List (Name × Vec Rule A) → Type 0
HasRulesMore ps old new = (n : Name) → rules_for n new ≡ rules_for n old ++ rules_of n ps
