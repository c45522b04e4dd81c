-- Names put behind others, and which names are among them then
use Rattle.std.proofs.Common.{◌≡◌, ◌-◌, ◌||◌, ◌&&◌, Bool, true, false, List, [], ◌∷◌, ◌++◌, length, refl, sym, ap, ◌∙◌, true≢false}
use Rattle.std.proofs.Math.Bool.{or_assoc, or-false}
use Rattle.std.proofs.lemmas.List.Folds.{list_any-append, list_any_at}
use Rattle.std.proofs.lemmas.Map.Views.{any-filter_same}
use Rattle.std.proofs.lemmas.Option.{slice_get_within, get_or_from_slice_get}
use Rattle.std.specs.Cmp.{both_ways}
use Rattle.std.specs.List.{slice_get}
use Rattle.std.specs.Option.{option_map_or}
use Rattle.std.specs.Ordering.{eq_by_cmp, is_eq}
use Rattle.std.specs.Prelude.{Option, Some, None, filter}
use Rattle.zone_proto.specs.declared.rr_key.RrKey.{RrKey}
use Rattle.zone_proto.specs.Names.{Name, name_cmp, name_eq, is_at_or_above}
use Rattle.zone_proto.specs.Sets.{RRset}
use Rattle.zone_proto.proofs.Names.NameTree.{name_eq-Decides, name_itself}
use Rattle.zone_proto.proofs.Names.Tree.{name_order}
use Rattle.zone_proto.proofs.Ordering.KeyOrder.{equal_of}
use Rattle.zone_map.specs.Zones.{Sets, names_of}
use Rattle.update_in_place.specs.Parts.{is_among}
use Rattle.chain_changes.specs.Renewal.{is_cut_key, is_touched_by}
use Rattle.chain_changes.proofs.NamesFrom.{names_below, below_goes_on}

-- ---- what a key touches

module _ (origin : Name) (m : Sets) (k : RrKey) (n : Name) (o : Bool) where
  pub touched_alone : is_cut_key origin k ≡ false → (o || name_eq n k.name) ≡ (o || is_touched_by origin m k n)
  touched_alone h = ap (λ b. o || b) (sym (ap (λ b. name_eq n k.name || (b && (is_at_or_above k.name n && is_among (names_of m) n))) h ∙ or-false (name_eq n k.name)))

  pub touched_with : is_cut_key origin k ≡ true → ((o || name_eq n k.name) || (is_at_or_above k.name n && is_among (names_of m) n)) ≡ (o || is_touched_by origin m k n)
  touched_with h =
      or_assoc o (name_eq n k.name) (is_at_or_above k.name n && is_among (names_of m) n)
      ∙ ap (λ b. o || (name_eq n k.name || (b && (is_at_or_above k.name n && is_among (names_of m) n)))) (sym h)

-- ---- a name behind others

-- names that neither comes before the other are the same, and no others
pub tied_are_same : (a b : Name) → eq_by_cmp name_cmp a b ≡ name_eq a b
tied_are_same a b =
    both_ways (eq_by_cmp name_cmp a b) (name_eq a b) (λ h. (name_eq-Decides a b).1 (name_order.exact a b (equal_of (name_cmp a b) h)))
    (λ h. ap is_eq (ap (name_cmp a) (sym ((name_eq-Decides a b).0 h)) ∙ name_itself a))

-- the last of some names is among them
last_there : (names : List Name) (a : Name) → option_map_or (name_eq a) (slice_get names (length names - 1)) false ≡ true → is_among names a ≡ true
last_there names a h = by (slice_get names (length names - 1)) refl h
  where
    by : (o : Option Name) → slice_get names (length names - 1) ≡ o → option_map_or (name_eq a) o false ≡ true → is_among names a ≡ true
    by None e g = absurd (true≢false (sym g))
    by (Some b) e g =
        list_any_at (name_eq a) names (length names - 1) a (slice_get_within names (length names - 1) b e)
        (ap (name_eq a) (get_or_from_slice_get names (length names - 1) b a e) ∙ g)

pub already : (names : List Name) (a n : Name) → option_map_or (name_eq a) (slice_get names (length names - 1)) false ≡ true → is_among names n ≡ (is_among names n || name_eq n a)
already names a n h = by (name_eq n a) refl
  where
    kept : (b : Bool) → b ≡ true → b ≡ (b || true)
    kept true e = refl
    kept false e = e

    by : (b : Bool) → name_eq n a ≡ b → is_among names n ≡ (is_among names n || b)
    by true e = kept (is_among names n) (ap (is_among names) ((name_eq-Decides n a).0 e) ∙ last_there names a h)
    by false e = sym (or-false (is_among names n))

pub one_behind : (names new : List Name) (a x n : Name) → new ≡ names ++ x ∷ [] → x ≡ a → is_among new n ≡ (is_among names n || name_eq n a)
one_behind names new a x n e is =
    ap (λ ns. is_among ns n) (e ∙ ap (λ y. names ++ y ∷ []) is) ∙ list_any-append (name_eq n) names (a ∷ []) ∙ ap (λ b. is_among names n || b) (or-false (name_eq n a))

-- ---- the names at or below one

-- one more of them, and the others
pub one_more_among : (a n : Name) (so_far new : List Name) (s left : Sets) (e : RrKey × RRset) (whole : Bool) → s ≡ e ∷ left → is_at_or_above a e.0.name ≡ true
    → is_among new n ≡ (is_among so_far n || name_eq n e.0.name) → is_among (so_far ++ names_below a s) n ≡ whole → is_among (new ++ names_below a left) n ≡ whole
one_more_among a n so_far new s left e whole is same put h =
    list_any-append (name_eq n) new (names_below a left)
    ∙ ap (λ b. b || is_among (names_below a left) n) put
    ∙ or_assoc (is_among so_far n) (name_eq n e.0.name) (is_among (names_below a left) n)
    ∙ sym (list_any-append (name_eq n) so_far (e.0.name ∷ names_below a left))
    ∙ ap (λ ns. is_among (so_far ++ ns) n) (sym (below_goes_on a e left same))
    ∙ ap (λ es. is_among (so_far ++ names_below a es) n) (sym is)
    ∙ h

-- these are all names at or below it that own sets
pub all_among : (a n : Name) (old : List Name) (m : Sets) → is_among (old ++ filter (is_at_or_above a) (names_of m)) n ≡ (is_among old n || (is_at_or_above a n && is_among (names_of m) n))
all_among a n old m =
    list_any-append (name_eq n) old (filter (is_at_or_above a) (names_of m))
    ∙ ap (λ b. is_among old n || b)
    (any-filter_same (name_eq n) (is_at_or_above a) (is_at_or_above a n) (λ k same. ap (is_at_or_above a) (sym ((name_eq-Decides n k).0 same))) (names_of m))
