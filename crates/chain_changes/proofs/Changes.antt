-- The keys of what an update changes tell which sets came or went in the zone
use Rattle.std.proofs.Common.{◌≡◌, ◌&&◌, ◌||◌, not, Bool, true, false, List, ◌++◌, refl, sym, ap, ◌∙◌, true≢false}
use Rattle.std.specs.Prelude.{is_some}
use Rattle.std.proofs.lemmas.List.Folds.{list_any-append}
use Rattle.zone_proto.specs.Keys.{key, key_eq}
use Rattle.zone_proto.specs.Names.{Name}
use Rattle.zone_map.specs.Zones.{Sets, owns}
use Rattle.update_in_place.specs.Parts.{is_among, keys_lacking, AreChanged}
use Rattle.update_in_place.proofs.Exchanged.{any_lacking}
use Rattle.update_in_place.proofs.Kept.{found_kept}
use Rattle.chain_changes.specs.Renewal.{HaveChanges}

-- neither went nor came
neither : (a b : Bool) → (not a && b) || (not b && a) ≡ false → a ≡ b
neither true true h = refl
neither true false h = absurd (true≢false h)
neither false true h = absurd (true≢false h)
neither false false h = refl

module _ (names : List Name) (old zone before after : Sets) (changed : AreChanged names old zone before after) where
  pub changes_told : HaveChanges (keys_lacking before after ++ keys_lacking after before) old zone
  changes_told n t other none = by (is_among names n) refl
    where
      was : is_among names n ≡ true → owns before n t ≡ owns old n t
      was g = ap (λ (x : Sets). owns x n t) changed.before_is ∙ ap is_some (found_kept (is_among names) old (key n t) g)

      is : is_among names n ≡ true → owns after n t ≡ owns zone n t
      is g = ap (λ (x : Sets). owns x n t) changed.after_is ∙ ap is_some (found_kept (is_among names) zone (key n t) g)

      same : owns after n t ≡ owns before n t
      same =
          neither (owns after n t) (owns before n t)
          ((λ i. sym (any_lacking before after (key n t)) i || sym (any_lacking after before (key n t)) i)
          ∙ sym (list_any-append (key_eq (key n t)) (keys_lacking before after) (keys_lacking after before))
          ∙ none)

      by : (b : Bool) → is_among names n ≡ b → owns zone n t ≡ owns old n t
      by true g = sym (is g) ∙ same ∙ was g
      by false g = ap is_some (changed.others n t g)
