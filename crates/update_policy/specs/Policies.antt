-- Who may change which names and types of a zone by updates (RFC 2136 section 3.3): rules, of which the first that is
-- about a key, a name and a type decides
use Rattle.std.specs.Prelude.{ℕ, Bool, false, not, ◌==◌, ◌&&◌, ◌||◌, List, [], ◌∷◌, if◌then◌else◌, Option, Some, None}
use Rattle.std.specs.List.{list_any}
use Rattle.std.specs.Ordering.{eq_by_cmp}
use Rattle.zone_proto.specs.Names.{Name, is_at_or_above, name_cmp}
use Rattle.zone_proto.specs.Types.{ANY, NS, SOA, is_derived}
use Rattle.zone_proto.specs.declared.record_type.RecordType.{RecordType}
use Rattle.update_policy.specs.declared.rule.Rule.{Rule}
use Rattle.update_policy.specs.declared.rule.RuleScope.{RuleScope}
use Rattle.update_policy.specs.declared.rule.RuleScope.TheVariants as scope

-- types that a rule without types isn't about: they say who serves the zone, or are made from the others, and these no update changes,
-- whatever the rules say
abbrev pub is_withheld : ℕ → Bool
is_withheld t = t == SOA || (t == NS || is_derived t)

-- a type of a rule is this one, or ANY, which is each
abbrev pub names_type : ℕ → RecordType → Bool
names_type t u = u.0 == t || u.0 == ANY

-- the types of a rule have this one
abbrev pub is_about_type : List RecordType → ℕ → Bool
is_about_type [] t = not (is_withheld t)
is_about_type (u ∷ us) t = list_any (names_type t) (u ∷ us) && not (is_derived t)

abbrev pub is_name : Name → Name → Bool
is_name a b = eq_by_cmp name_cmp a b

-- by its scope and its own name a rule is about a name that the owner of a key asks for
abbrev pub is_about_name : RuleScope → Name → Name → Name → Bool
is_about_name scope.Name own key n = is_name own n
is_about_name scope.Subdomain own key n = is_at_or_above own n
is_about_name scope.OwnName own key n = is_name key n
is_about_name scope.OwnSubdomain own key n = is_at_or_above key n

-- a rule is about a key, a name and a type
abbrev pub is_about : Rule → Name → Name → ℕ → Bool
is_about r key n t = is_name r.key key && (is_about_name r.scope r.name key n && is_about_type r.types.items t)

-- the first rule that is about a key, a name and a type grants the change; where none is, it isn't granted
abbrev pub permits : List Rule → Name → Name → ℕ → Bool
permits [] key n t = false
permits (r ∷ rs) key n t = if is_about r key n t then r.grants else permits rs key n t

-- who has no key may change nothing
abbrev pub permits_requestor : List Rule → Option Name → Name → ℕ → Bool
permits_requestor rules None n t = false
permits_requestor rules (Some key) n t = permits rules key n t
