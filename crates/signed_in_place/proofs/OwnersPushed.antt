-- Names put behind others, each unless it is the last, and which names are among them then
use Rattle.std.proofs.Common.{◌≡◌, ◌-◌, ◌||◌, Bool, true, false, List, [], ◌∷◌, ◌++◌, length, refl, sym, ap, ◌∙◌, true≢false}
use Rattle.std.proofs.Math.Bool.{or-false}
use Rattle.std.proofs.lemmas.List.Folds.{list_any-append, list_any_at}
use Rattle.std.proofs.lemmas.Option.{slice_get_within, get_or_from_slice_get}
use Rattle.std.specs.Cmp.{both_ways}
use Rattle.std.specs.List.{slice_get}
use Rattle.std.specs.Option.{option_map_or}
use Rattle.std.specs.Ordering.{eq_by_cmp, is_eq}
use Rattle.std.specs.Prelude.{Option, Some, None}
use Rattle.zone_proto.specs.Names.{Name, name_cmp, name_eq}
use Rattle.zone_proto.proofs.Names.NameTree.{name_eq-Decides, name_itself}
use Rattle.zone_proto.proofs.Names.Tree.{name_order}
use Rattle.zone_proto.proofs.Ordering.KeyOrder.{equal_of}
use Rattle.update_in_place.specs.Parts.{is_among}

-- names that neither comes before the other are the same, and no others
pub tied_are_same : (a b : Name) → eq_by_cmp name_cmp a b ≡ name_eq a b
tied_are_same a b =
    both_ways (eq_by_cmp name_cmp a b) (name_eq a b) (λ h. (name_eq-Decides a b).1 (name_order.exact a b (equal_of (name_cmp a b) h)))
    (λ h. ap is_eq (ap (name_cmp a) (sym ((name_eq-Decides a b).0 h)) ∙ name_itself a))

-- the last of some names is among them
last_there : (names : List Name) (a : Name) → option_map_or (name_eq a) (slice_get names (length names - 1)) false ≡ true → is_among names a ≡ true
last_there names a h = by (slice_get names (length names - 1)) refl h
  where
    by : (o : Option Name) → slice_get names (length names - 1) ≡ o → option_map_or (name_eq a) o false ≡ true → is_among names a ≡ true
    by None e g = absurd (true≢false (sym g))
    by (Some b) e g =
        list_any_at (name_eq a) names (length names - 1) a (slice_get_within names (length names - 1) b e)
        (ap (name_eq a) (get_or_from_slice_get names (length names - 1) b a e) ∙ g)

pub already : (names : List Name) (a n : Name) → option_map_or (name_eq a) (slice_get names (length names - 1)) false ≡ true → is_among names n ≡ (is_among names n || name_eq n a)
already names a n h = by (name_eq n a) refl
  where
    kept : (b : Bool) → b ≡ true → b ≡ (b || true)
    kept true e = refl
    kept false e = e

    by : (b : Bool) → name_eq n a ≡ b → is_among names n ≡ (is_among names n || b)
    by true e = kept (is_among names n) (ap (is_among names) ((name_eq-Decides n a).0 e) ∙ last_there names a h)
    by false e = sym (or-false (is_among names n))

pub one_behind : (names new : List Name) (a x n : Name) → new ≡ names ++ x ∷ [] → x ≡ a → is_among new n ≡ (is_among names n || name_eq n a)
one_behind names new a x n e is =
    ap (λ ns. is_among ns n) (e ∙ ap (λ y. names ++ y ∷ []) is) ∙ list_any-append (name_eq n) names (a ∷ []) ∙ ap (λ b. is_among names n || b) (or-false (name_eq n a))

-- a name that is among none of three lists, and isn't the origin, is among none of them
pub none_of_three : (a o b c : Bool) → (((a || o) || b) || c) ≡ false → (a ≡ false) × (b ≡ false) × (c ≡ false)
none_of_three true o b c h = absurd (true≢false h)
none_of_three false true b c h = absurd (true≢false h)
none_of_three false false true c h = absurd (true≢false h)
none_of_three false false false true h = absurd (true≢false h)
none_of_three false false false false h = (refl, refl, refl)

-- and the origin is among all of them
pub origin_there : (a o b c : Bool) → o ≡ true → (((a || o) || b) || c) ≡ true
origin_there true o b c h = refl
origin_there false o b c h = ap (λ (x : Bool). (x || b) || c) h
