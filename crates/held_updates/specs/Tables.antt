-- Tables of rules, of each zone one, that say who may change what in it
use Rattle.std.specs.Prelude.{◌≡◌, ◌++◌, List, [], ◌∷◌, Vec, Option, Some, None, if◌then◌else◌}
use Rattle.std.specs.Map.{lookup}
use Rattle.zone_proto.specs.Names.{Name}
use Rattle.message_tsig.specs.Keys.{are_same}
use Rattle.update_policy.specs.declared.rule.Rule.{Rule}

abbrev pub rules_of : {A : Type 0} → Option (Vec Rule A) → List Rule
rules_of None = []
rules_of (Some table) = table.items

-- the rules of the zone of an origin, in their order; none where it has no table
abbrev pub rules_for : {A : Type 0} → Name → List (Name × Vec Rule A) → List Rule
rules_for origin tables = rules_of (lookup (are_same origin) tables)

-- the zone of an origin has a rule more, behind those that it had, and each other zone has those that it had
abbrev pub HasRuleMore : {A : Type 0} → Name → Rule → List (Name × Vec Rule A) → List (Name × Vec Rule A) → Type 0
HasRuleMore origin r old new = (n : Name) → rules_for n new ≡ (if are_same origin n then rules_for n old ++ r ∷ [] else rules_for n old)

-- each zone has the rules that it had
abbrev pub AreSameRules : {A : Type 0} → List (Name × Vec Rule A) → List (Name × Vec Rule A) → Type 0
AreSameRules old new = (n : Name) → rules_for n new ≡ rules_for n old
