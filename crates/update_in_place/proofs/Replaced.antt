-- Sets that take the places of those that stand
use Rattle.std.proofs.Common.{◌≡◌, Bool, true, false, cond, [], ◌∷◌, refl, sym, ap, ◌∙◌, subst, Less}
use Rattle.std.specs.Prelude.{Option, Some, None, if◌then◌else◌, is_some, fold}
use Rattle.std.specs.List.{AllByRecursion}
use Rattle.std.specs.Map.{lookup, keys_of}
use Rattle.std.specs.Option.{option_or}
use Rattle.std.proofs.lemmas.Map.Keys.{sorted_head, sorted_tail}
use Rattle.zone_proto.specs.declared.rr_key.RrKey.{RrKey}
use Rattle.zone_proto.specs.Keys.{key_cmp, key_eq}
use Rattle.zone_proto.specs.Sets.{RRset}
use Rattle.zone_proto.proofs.Ordering.KeyOrder.{key_same}
use Rattle.zone_map.specs.Zones.{Sets, owns, put}
use Rattle.zone_map.proofs.Stored.{put_apart, put_found}
use Rattle.zone_difference.proofs.Found.{none_found, InOrder}
use Rattle.update_in_place.specs.Parts.{with_replaced}

-- what is to be found: the set that came, where one stood
abbrev pub found_by : Option RRset → Option RRset → Option RRset
found_by s o = if is_some o then option_or s o else None

module _ (q : RrKey) where
  nothing_came : (o : Option RRset) → o ≡ found_by None o
  nothing_came None = refl
  nothing_came (Some s) = refl

  -- a set under another key changes nothing
  other_key : (m : Sets) (e : RrKey × RRset) → key_eq q e.0 ≡ false → lookup (key_eq q) (with_replaced m e) ≡ lookup (key_eq q) m
  other_key m e h = by (owns m e.0.name e.0.record_type.0)
    where
      by : (b : Bool) → lookup (key_eq q) (if b then put m e.0.name e.0.record_type.0 e.1 else m) ≡ lookup (key_eq q) m
      by true = put_apart m e.0 q e.1 h
      by false = refl

  own_key : (m : Sets) (e : RrKey × RRset) → key_eq q e.0 ≡ true → lookup (key_eq q) (with_replaced m e) ≡ found_by (Some e.1) (lookup (key_eq q) m)
  own_key m e h =
      subst (λ (k : RrKey). lookup (key_eq k) (with_replaced m e) ≡ found_by (Some e.1) (lookup (key_eq k) m)) (sym (key_same q e.0 h)) (by (lookup (key_eq e.0) m) refl)
    where
      by : (o : Option RRset) → lookup (key_eq e.0) m ≡ o → lookup (key_eq e.0) (if is_some o then put m e.0.name e.0.record_type.0 e.1 else m) ≡ found_by (Some e.1) o
      by None g = g
      by (Some s) g = put_found m e.0 e.1

  pub found_replaced : (m es : Sets) → InOrder es → lookup (key_eq q) (fold with_replaced m es) ≡ found_by (lookup (key_eq q) es) (lookup (key_eq q) m)
  found_replaced m [] o = nothing_came (lookup (key_eq q) m)
  found_replaced m (e ∷ es) o = found_replaced (with_replaced m e) es (sorted_tail key_cmp e.0 (keys_of es) o) ∙ by (key_eq q e.0) refl
    where
      twice : (p : Option RRset) → found_by None (found_by (Some e.1) p) ≡ found_by (Some e.1) p
      twice None = refl
      twice (Some s) = refl

      by : (b : Bool) → key_eq q e.0 ≡ b → found_by (lookup (key_eq q) es) (lookup (key_eq q) (with_replaced m e)) ≡ found_by (cond b (Some e.1) (lookup (key_eq q) es)) (lookup (key_eq q) m)
      by true h =
          let none : lookup (key_eq q) es ≡ None =
          none_found q es (subst (λ (k : RrKey). AllByRecursion (λ j. key_cmp k j ≡ Less) (keys_of es)) (sym (key_same q e.0 h)) (sorted_head key_cmp e.0 (keys_of es) o)) in
          ap (λ (p : Option RRset). found_by p (lookup (key_eq q) (with_replaced m e))) none
          ∙ ap (found_by None) (own_key m e h)
          ∙ twice (lookup (key_eq q) m)
      by false h = ap (found_by (lookup (key_eq q) es)) (other_key m e h)
