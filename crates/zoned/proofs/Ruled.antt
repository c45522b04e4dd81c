-- A loop over rules: those that are there, with those that are left, are all
use Rattle.std.proofs.Common.{◌≡◌, Bool, true, false, List, [], ◌∷◌, ◌++◌, refl, sym, ap, ◌∙◌, append_assoc, append-nil}
use Rattle.std.specs.Prelude.{Vec, if◌then◌else◌}
use Rattle.zone_proto.specs.Names.{Name}
use Rattle.message_tsig.specs.Keys.{are_same}
use Rattle.update_policy.specs.declared.rule.Rule.{Rule}
use Rattle.update_rules.specs.declared.reading.PlacedRule.{PlacedRule}
use Rattle.held_updates.specs.Tables.{rules_for, HasRuleMore}
use Rattle.zoned.specs.Rules.{rules_of, HasRulesMore}

-- the rules that are there and those that are left are those of before and all of these
abbrev pub IsLeft : {A : Type 0} → List PlacedRule → List (Name × Vec Rule A) → List PlacedRule → List (Name × Vec Rule A) → Type 0
IsLeft left now all old = (n : Name) → rules_for n now ++ rules_of n left ≡ rules_for n old ++ rules_of n all

-- one rule more of a zone, and of those that are left one less
moved : (b : Bool) (r : Rule) (now before more : List Rule) → now ≡ (if b then before ++ r ∷ [] else before) → now ++ more ≡ before ++ (if b then r ∷ more else more)
moved true r now before more is = ap (λ (rs : List Rule). rs ++ more) is ∙ append_assoc before (r ∷ []) more
moved false r now before more is = ap (λ (rs : List Rule). rs ++ more) is

pub one_more : {A : Type 0} (p : PlacedRule) (origin : Name) (r : Rule) (left rest all : List PlacedRule) (now new old : List (Name × Vec Rule A)) → left ≡ p ∷ rest → p.origin ≡ origin → p.rule ≡ r
    → HasRuleMore origin r now new → IsLeft left now all old → IsLeft rest new all old
one_more p origin r left rest all now new old first is_origin is_rule added so_far n =
    moved (are_same p.origin n) p.rule (rules_for n new) (rules_for n now) (rules_of n rest) (rw (is_origin, is_rule) (added n))
    ∙ ap (λ (ps : List PlacedRule). rules_for n now ++ rules_of n ps) (sym first)
    ∙ so_far n

pub none_more : {A : Type 0} (left all : List PlacedRule) (now old : List (Name × Vec Rule A)) → left ≡ [] → IsLeft left now all old → HasRulesMore all old now
none_more left all now old none so_far n =
    sym (append-nil (rules_for n now)) ∙ ap (λ (ps : List PlacedRule). rules_for n now ++ rules_of n ps) (sym none) ∙ so_far n
