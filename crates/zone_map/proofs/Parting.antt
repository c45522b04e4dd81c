-- Sets are parted by whether others are under their keys
use Rattle.std.proofs.Common.{◌≡◌, Bool, true, false, cond, List, [], ◌∷◌, ◌++◌, length, refl, sym, ap, ◌∙◌, subst, append_assoc, arith}
use Rattle.std.specs.Prelude.{not, ◌||◌, filter}
use Rattle.std.specs.BTreeMap.{BTreeMap, IsFromIterResult}
use Rattle.std.specs.Cmp.{eq_by_cmp_equiv}
use Rattle.std.specs.List.{list_any}
use Rattle.std.specs.List.Sorted.{IsStrictlySortedBy}
use Rattle.std.specs.Map.{keys_of}
use Rattle.std.proofs.lemmas.List.{nil_from_length}
use Rattle.std.proofs.lemmas.List.Filters.{length-filter_both}
use Rattle.std.proofs.lemmas.Map.Entries.{length-keys_of}
use Rattle.std.proofs.lemmas.Map.Keys.{IsDistinct-from_sorted}
use Rattle.std.proofs.lemmas.Map.Made.{update_all_none}
use Rattle.std.proofs.lemmas.Map.Views.{any-filter_same}
use Rattle.zone_proto.specs.declared.rr_key.RrKey.{RrKey}
use Rattle.zone_proto.specs.Keys.{key_cmp, key_eq}
use Rattle.zone_proto.specs.Sets.{RRset}
use Rattle.zone_proto.proofs.Ordering.KeyLaws.{key_cmp_total}
use Rattle.zone_proto.proofs.Ordering.KeyOrder.{key_same, key_itself}
use Rattle.zone_map.specs.Zones.{Sets}
use Rattle.zone_map.proofs.Putting.{keys_of-filter, sorted_filter, same_entries}

-- ---- a pass over a list of which some are kept

-- one more that is kept
pub kept_more : {X : Type 0} (p : X → Bool) (x : X) (kept left next all : List X) → kept ++ filter p left ≡ all → left ≡ x ∷ next → p x ≡ true → (kept ++ x ∷ []) ++ filter p next ≡ all
kept_more p x kept left next all so_far steps passes =
    append_assoc kept (x ∷ []) (filter p next) ∙ ap (λ xs. kept ++ xs) (sym (ap (filter p) steps ∙ ap (λ b. cond b (x ∷ filter p next) (filter p next)) passes)) ∙ so_far

-- one more that isn't
pub passed_over : {X : Type 0} (p : X → Bool) (x : X) (kept left next all : List X) → kept ++ filter p left ≡ all → left ≡ x ∷ next → p x ≡ false → kept ++ filter p next ≡ all
passed_over p x kept left next all so_far steps fails = ap (λ xs. kept ++ xs) (sym (ap (filter p) steps ∙ ap (λ b. cond b (x ∷ filter p next) (filter p next)) fails)) ∙ so_far

-- ---- a pass over sets beside the keys of the fresh ones, under whose keys none stand

-- the keys are those of the fresh sets that are left; the sets of each kind so far and those that are left are all of it
pub record AreParted (stands : RrKey → Bool) (more left : Sets) (keys : List RrKey) (common fresh : Sets) : Type 0 where
  pub keys_left : keys ≡ filter (λ k. not (stands k)) (keys_of left)
  pub common_so_far : common ++ filter (λ (e : RrKey × RRset). stands e.0) left ≡ filter (λ (e : RrKey × RRset). stands e.0) more
  pub fresh_so_far : fresh ++ filter (λ (e : RrKey × RRset). not (stands e.0)) left ≡ filter (λ (e : RrKey × RRset). not (stands e.0)) more

module _ (stands : RrKey → Bool) (more left next : Sets) (keys : List RrKey) (common fresh : Sets) (k : RrKey) (s : RRset) (parted : AreParted stands more left keys common fresh) (steps : left ≡ (k, s) ∷ next) where
  abbrev fresh_keys : List RrKey
  fresh_keys = filter (λ q. not (stands q)) (keys_of next)

  -- the set whose key is the next one of these is fresh
  pub fresh_more : (others : List RrKey) (after : Sets) → keys ≡ k ∷ others → after ≡ fresh ++ (k, s) ∷ [] → AreParted stands more next others common after
  fresh_more others after starts pushed =
      let told = by (stands k) refl (sym starts ∙ parted.keys_left ∙ ap (λ (es : Sets). filter (λ q. not (stands q)) (keys_of es)) steps) in
      record {
        keys_left = told.1;
        common_so_far = passed_over (λ (e : RrKey × RRset). stands e.0) (k, s) common left next (filter (λ (e : RrKey × RRset). stands e.0) more) parted.common_so_far steps told.0;
        fresh_so_far =
            ap (λ (es : Sets). es ++ filter (λ (e : RrKey × RRset). not (stands e.0)) next) pushed
            ∙ kept_more (λ (e : RrKey × RRset). not (stands e.0)) (k, s) fresh left next (filter (λ (e : RrKey × RRset). not (stands e.0)) more) parted.fresh_so_far steps (ap not told.0);
      }
    where
      by : (b : Bool) → stands k ≡ b → k ∷ others ≡ cond (not b) (k ∷ fresh_keys) fresh_keys → (stands k ≡ false) × (others ≡ fresh_keys)
      by false g h = (g, cc)
      by true g h =
          let found : list_any (key_eq k) fresh_keys ≡ true = ap (list_any (key_eq k)) (sym h) ∙ ap (λ b. b || list_any (key_eq k) others) (key_itself k) in
          let no : true ≡ false = sym found ∙ any-filter_same (key_eq k) (λ q. not (stands q)) false (λ q same. ap (λ x. not (stands x)) (sym (key_same k q same)) ∙ ap not g) (keys_of next) in
          absurd cc

  -- and any other one is common
  pub common_more : (after : Sets) → ((others : List RrKey) → keys ≡ k ∷ others → ⊥) → after ≡ common ++ (k, s) ∷ [] → AreParted stands more next keys after fresh
  common_more after other pushed =
      let told = by (stands k) refl (parted.keys_left ∙ ap (λ (es : Sets). filter (λ q. not (stands q)) (keys_of es)) steps) in
      record {
        keys_left = told.1;
        common_so_far =
            ap (λ (es : Sets). es ++ filter (λ (e : RrKey × RRset). stands e.0) next) pushed
            ∙ kept_more (λ (e : RrKey × RRset). stands e.0) (k, s) common left next (filter (λ (e : RrKey × RRset). stands e.0) more) parted.common_so_far steps told.0;
        fresh_so_far = passed_over (λ (e : RrKey × RRset). not (stands e.0)) (k, s) fresh left next (filter (λ (e : RrKey × RRset). not (stands e.0)) more) parted.fresh_so_far steps (ap not told.0);
      }
    where
      by : (b : Bool) → stands k ≡ b → keys ≡ cond (not b) (k ∷ fresh_keys) fresh_keys → (stands k ≡ true) × (keys ≡ fresh_keys)
      by false g h = absurd (other fresh_keys h)
      by true g h = (g, h)

-- ---- the map of the fresh sets

-- where none of the sets stands, all are fresh
pub fresh_where_none : (stands : RrKey → Bool) (es : Sets) → filter (λ (e : RrKey × RRset). stands e.0) es ≡ [] → filter (λ (e : RrKey × RRset). not (stands e.0)) es ≡ es
fresh_where_none stands [] none = refl
fresh_where_none stands (e ∷ es) none = by (stands e.0) none (fresh_where_none stands es)
  where
    by : (b : Bool) → cond b (e ∷ filter (λ (e : RrKey × RRset). stands e.0) es) (filter (λ (e : RrKey × RRset). stands e.0) es) ≡ []
        → (filter (λ (e : RrKey × RRset). stands e.0) es ≡ [] → filter (λ (e : RrKey × RRset). not (stands e.0)) es ≡ es)
        → cond (not b) (e ∷ filter (λ (e : RrKey × RRset). not (stands e.0)) es) (filter (λ (e : RrKey × RRset). not (stands e.0)) es) ≡ e ∷ es
    by true none i = absurd cc
    by false none i = ap (λ (xs : Sets). e ∷ xs) (i none)

-- where as many keys as there are sets are fresh, none stands, and all sets are fresh
module _ (stands : RrKey → Bool) (es : Sets) (all : length (filter (λ k. not (stands k)) (keys_of es)) ≡ length es) where
  pub none_stands : filter (λ (e : RrKey × RRset). stands e.0) es ≡ []
  none_stands =
      let both = length-filter_both (λ (e : RrKey × RRset). stands e.0) (λ (e : RrKey × RRset). not (stands e.0)) (λ e. refl) es in
      let fresh : length (filter (λ (e : RrKey × RRset). not (stands e.0)) es) ≡ length es =
      sym (length-keys_of (filter (λ (e : RrKey × RRset). not (stands e.0)) es)) ∙ ap length (keys_of-filter (λ k. not (stands k)) es) ∙ all in
      nil_from_length (filter (λ (e : RrKey × RRset). stands e.0) es) (omega arith)

  pub all_fresh : filter (λ (e : RrKey × RRset). not (stands e.0)) es ≡ es
  all_fresh = fresh_where_none stands es none_stands

-- the map that is made of sets in the order of their keys has these
pub map_of_sets : (es : Sets) (made : BTreeMap RrKey RRset) → IsStrictlySortedBy key_cmp (keys_of es) → IsFromIterResult key_cmp es made → made.entries ≡ es
map_of_sets es made sorted from =
    same_entries made.entries es from.1 sorted (λ q. from.0 q ∙ update_all_none (eq_by_cmp_equiv key_cmp_total) key_eq (λ x y. refl) es q (IsDistinct-from_sorted key_cmp (keys_of es) sorted))

-- and so has one of sets of which some were left
pub map_of_filter : (r : RrKey → Bool) (es left : Sets) (made : BTreeMap RrKey RRset) → IsStrictlySortedBy key_cmp (keys_of es) → left ≡ filter (λ (e : RrKey × RRset). r e.0) es
    → IsFromIterResult key_cmp left made → made.entries ≡ filter (λ (e : RrKey × RRset). r e.0) es
map_of_filter r es left made sorted is from =
    map_of_sets (filter (λ (e : RrKey × RRset). r e.0) es) made (sorted_filter r es sorted) (subst (λ (xs : Sets). IsFromIterResult key_cmp xs made) is from)
