-- A rule is put behind those that the zone of an origin has
use Rattle.std.proofs.Common.{◌≡◌, ◌∙◌, Bool, true, false, cond, List, [], ◌∷◌, ◌++◌, refl, sym, ap, subst, Result, Ok, Err}
use Rattle.std.proofs.lemmas.Map.{lookup-set_value}
use Rattle.std.proofs.lemmas.Map.Views.{tells_apart}
use Rattle.std.proofs.lemmas.Cmp.{eq_by_cmp_equiv}
use Rattle.std.specs.Prelude.{Option, Some, None, Vec, is_some, IsSome, OnErr}
use Rattle.std.specs.BTreeMap.{BTreeMap, Updates}
use Rattle.std.specs.Map.{lookup, set_value}
use Rattle.zone_proto.specs.NameLaws.{exact_names}
use Rattle.zone_proto.specs.Names.{Name, name_cmp}
use Rattle.zone_proto.proofs.Names.Tree.{name_order}
use Rattle.message_tsig.specs.Keys.{are_same}
use Rattle.update_policy.specs.declared.rule.Rule.{Rule}
use Rattle.held_updates.specs.Tables.{rules_of, rules_for, AreSameRules, HasRuleMore}

-- whose test a name passes is that name
alike : (origin x y : Name) → are_same origin x ≡ true → are_same origin y ≡ are_same x y
alike origin x y h = ap (λ (n : Name). are_same n y) (tells_apart exact_names origin x h)

module _ {A : Type 0} (origin : Name) (r : Rule) where
  -- a table stands in place of that of the origin, and each other zone has its own
  abbrev Replaces : Vec Rule A → List (Name × Vec Rule A) → List (Name × Vec Rule A) → Type 0
  Replaces w old new = (n : Name) → lookup (are_same n) new ≡ cond (are_same origin n) (Some w) (lookup (are_same n) old)

  by_table : (old new : List (Name × Vec Rule A)) (w : Vec Rule A) → w.items ≡ rules_for origin old ++ r ∷ [] → Replaces w old new → HasRuleMore origin r old new
  by_table old new w more there n = ap rules_of (there n) ∙ by (are_same origin n) refl
    where
      by : (b : Bool) → are_same origin n ≡ b → rules_of (cond b (Some w) (lookup (are_same n) old)) ≡ cond b (rules_for n old ++ r ∷ []) (rules_for n old)
      by true h = more ∙ ap (λ (m : Name). rules_for m old ++ r ∷ []) (tells_apart exact_names origin n h)
      by false h = refl

  same_table : (old new : List (Name × Vec Rule A)) (w : Vec Rule A) → w.items ≡ rules_for origin old → Replaces w old new → AreSameRules old new
  same_table old new w same there n = ap rules_of (there n) ∙ by (are_same origin n) refl
    where
      by : (b : Bool) → are_same origin n ≡ b → rules_of (cond b (Some w) (lookup (are_same n) old)) ≡ rules_for n old
      by true h = same ∙ ap (λ (m : Name). rules_for m old) (tells_apart exact_names origin n h)
      by false h = refl

  replaces : (old new : List (Name × Vec Rule A)) (v w : Vec Rule A) → lookup (are_same origin) old ≡ Some v → new ≡ set_value (are_same origin) old w → Replaces w old new
  replaces old new v w there set n =
      ap (lookup (are_same n)) set
      ∙ lookup-set_value (eq_by_cmp_equiv name_order.total) (are_same origin) (alike origin) n w old (subst IsSome (sym there) refl)

  -- ---- a zone that has a table

  pub pushed : (old new : List (Name × Vec Rule A)) (v w : Vec Rule A) → lookup (are_same origin) old ≡ Some v → new ≡ set_value (are_same origin) old w → w.items ≡ v.items ++ r ∷ []
      → HasRuleMore origin r old new
  pushed old new v w there set more = by_table old new w (more ∙ ap (λ (t : Option (Vec Rule A)). rules_of t ++ r ∷ []) (sym there)) (replaces old new v w there set)

  pub unpushed : (old new : List (Name × Vec Rule A)) (v w : Vec Rule A) → lookup (are_same origin) old ≡ Some v → new ≡ set_value (are_same origin) old w → w.items ≡ v.items
      → AreSameRules old new
  unpushed old new v w there set same = same_table old new w (same ∙ ap rules_of (sym there)) (replaces old new v w there set)

  -- ---- a zone that has none

  none_for : (old : List (Name × Vec Rule A)) → is_some (lookup (are_same origin) old) ≡ false → rules_for origin old ≡ []
  none_for old none = by (lookup (are_same origin) old) none
    where
      by : (t : Option (Vec Rule A)) → is_some t ≡ false → rules_of t ≡ []
      by None e = refl
      by (Some t) e = cc

  pub put : (old new : BTreeMap Name (Vec Rule A)) (w : Vec Rule A) → is_some (lookup (are_same origin) old.entries) ≡ false → w.items ≡ r ∷ [] → Updates name_cmp old new origin (Some w)
      → HasRuleMore origin r old.entries new.entries
  put old new w none one there = by_table old.entries new.entries w (one ∙ ap (λ (rs : List Rule). rs ++ r ∷ []) (sym (none_for old.entries none))) there.0

pub unput : {A : Type 0} (old new : List (Name × Vec Rule A)) → new ≡ old → AreSameRules old new
unput old new same n = ap (rules_for n) same

-- what holds of the tables holds where the call fails
pub where_failed : {X E : Type 0} (r : Result X E) (P : Type 0) → P → OnErr r P
where_failed (Ok x) P h = tt
where_failed (Err e) P h = h
