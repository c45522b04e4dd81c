-- Tests of names, and the types of a name, as the program finds them
use Rattle.std.proofs.Common.{◌≡◌, ℕ, ◌∷◌, ◌++◌, [], List, Bool, true, false, ◌||◌, map, refl, sym, ap, ◌∙◌, append_assoc}
use Rattle.std.specs.Prelude.{◌↔◌, IsTrue}
use Rattle.std.specs.List.{list_any}
use Rattle.std.specs.List.Sorted.{IsStrictlySortedBy}
use Rattle.std.specs.Map.{keys_of}
use Rattle.std.specs.Ordering.{eq_by_cmp}
use Rattle.zone_proto.specs.declared.rr_key.RrKey.{RrKey}
use Rattle.zone_proto.specs.Keys.{key, key_cmp}
use Rattle.zone_proto.specs.Names.{Name, name_cmp, is_at_or_above, IsAtOrAbove}
use Rattle.zone_proto.specs.Sets.{RRset}
use Rattle.zone_proto.proofs.Names.NameTree.{at_or_above_test}
use Rattle.zone_map.specs.Zones.{Sets, types_at}
use Rattle.zone_map.proofs.Neighbours.{from_key, front_types, front_taken, front_is_types}

-- the test whether a name is at or above another
pub at_or_above_by : (a n : Name) (b : Bool) → IsTrue b ↔ IsAtOrAbove a n → b ≡ is_at_or_above a n
at_or_above_by a n true h = sym ((at_or_above_test a n).1 (h.0 refl))
at_or_above_by a n false h = by (is_at_or_above a n) refl
  where
    by : (c : Bool) → is_at_or_above a n ≡ c → false ≡ c
    by true q = h.1 ((at_or_above_test a n).0 q)
    by false q = refl

-- from a name's least key on stand its types
pub types_from : (least : RrKey) (m : Sets) → least.record_type.0 ≡ 0 → IsStrictlySortedBy key_cmp (keys_of m) → front_types least.name (from_key least m) ≡ types_at m least.name
types_from least m zero sorted = ap (λ t. front_types least.name (from_key (key least.name t) m)) zero ∙ front_is_types least.name m sorted

-- one more type of the name, and the others
pub one_more_type : (n : Name) (so_far : List ℕ) (s left : Sets) (e : RrKey × RRset) (whole : List ℕ) → s ≡ e ∷ left → eq_by_cmp name_cmp e.0.name n ≡ true
    → so_far ++ front_types n s ≡ whole → (so_far ++ e.0.record_type.0 ∷ []) ++ front_types n left ≡ whole
one_more_type n so_far s left e whole is same h =
    append_assoc so_far (e.0.record_type.0 ∷ []) (front_types n left)
    ∙ ap (λ ts. so_far ++ ts) (sym (front_taken n e left same))
    ∙ ap (λ es. so_far ++ front_types n es) (sym is)
    ∙ h

-- a test of what is made of elements, as a test of these
pub any_map : {A B : Type 0} (p : B → Bool) (f : A → B) (xs : List A) → list_any (λ x. p (f x)) xs ≡ list_any p (map f xs)
any_map p f [] = refl
any_map p f (x ∷ xs) = ap (λ b. p (f x) || b) (any_map p f xs)
