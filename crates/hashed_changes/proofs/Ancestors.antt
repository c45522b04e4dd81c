-- The zone cuts above a name, as a walk up to the root sees them
use Rattle.std.proofs.Common.{◌≡◌, ◌≢◌, List, [], ◌∷◌, map, Bool, true, false, not, ◌&&◌, ◌||◌, drop, refl, sym, ap, ◌∙◌, true≢false}
use Rattle.std.specs.Prelude.{◌↔◌, IsTrue}
use Rattle.std.specs.Cmp.{both_ways}
use Rattle.std.specs.List.{list_any}
use Rattle.zone_proto.specs.Names.{Name, is_above, is_at_or_above, proper_ancestors, suffixes, IsAtOrAbove}
use Rattle.zone_proto.specs.Types.{NS, NSEC3}
use Rattle.zone_proto.proofs.Members.{In, In-Contains, Contains-In, In-from_any, any_from_In, and_left, and_right}
use Rattle.zone_proto.proofs.Names.NameTree.{at_or_above_test, is_at_or_above_sound, is_at_or_above_complete, at_or_above_from_suffix, suffix_from_at_or_above}
use Rattle.zone_map.specs.Zones.{Sets, owns, owners}
use Rattle.zone_map.proofs.Owned.{owner_in, owner_owned}
use Rattle.zone_denial.specs.Authority.{is_authoritative, is_below_cut, owns_besides}
use Rattle.hashed_changes.specs.Counting.{has_cut_above}

-- the test whether a name is at or above another
pub at_or_above_by : (a n : Name) (b : Bool) → IsTrue b ↔ IsAtOrAbove a n → b ≡ is_at_or_above a n
at_or_above_by a n b h = both_ways b (is_at_or_above a n) (λ t. (at_or_above_test a n).1 (h.0 t)) (λ t. h.1 ((at_or_above_test a n).0 t))

-- ---- the walk

itself_first : (n : Name) → suffixes n ≡ n ∷ proper_ancestors n
itself_first [] = refl
itself_first (l ∷ ls) = refl

next : (p : Name → Bool) (n rest : Name) → n ≢ [] → rest ≡ drop 1 n → list_any p (proper_ancestors n) ≡ (p rest || list_any p (proper_ancestors rest))
next p [] rest some e = absurd (some refl)
next p (l ∷ ls) rest some e = let is : rest ≡ ls = e in rw (is, itself_first ls) refl

module _ (origin : Name) (m : Sets) (n rest : Name) (some : n ≢ []) (e : rest ≡ drop 1 n) where
  abbrev is_cut : Name → Bool
  is_cut a = is_above origin a && owns m a NS

  pub next_cut : is_above origin rest && owns m rest NS ≡ false → has_cut_above origin m n ≡ has_cut_above origin m rest
  next_cut h = next is_cut n rest some e ∙ ap (λ (b : Bool). b || list_any is_cut (proper_ancestors rest)) h

  pub at_cut : is_above origin rest && owns m rest NS ≡ true → has_cut_above origin m n ≡ true
  at_cut h = next is_cut n rest some e ∙ ap (λ (b : Bool). b || list_any is_cut (proper_ancestors rest)) h

-- ---- it sees the zone cuts above the name

above_in : (a n : Name) → is_above a n ≡ true → In a (proper_ancestors n)
above_in a [] h = absurd (true≢false (sym h))
above_in a (l ∷ ls) h = Contains-In a (suffixes ls) (suffix_from_at_or_above ls a (is_at_or_above_sound a ls h))

in_above : (a n : Name) → In a (proper_ancestors n) → is_above a n ≡ true
in_above a [] i = absurd i
in_above a (l ∷ ls) i = is_at_or_above_complete a ls (at_or_above_from_suffix ls a (In-Contains a (suffixes ls) i))

pub cuts_above : (origin : Name) (m : Sets) (n : Name) → has_cut_above origin m n ≡ is_below_cut origin m n
cuts_above origin m n = both_ways (has_cut_above origin m n) (is_below_cut origin m n) to from
  where
    to : has_cut_above origin m n ≡ true → is_below_cut origin m n ≡ true
    to k =
        let r = In-from_any (λ a. is_above origin a && owns m a NS) (proper_ancestors n) k in
        let below = and_left (is_above origin r.0) (owns m r.0 NS) r.2 in
        let owned = and_right (is_above origin r.0) (owns m r.0 NS) r.2 in
        let above = in_above r.0 n r.1 in
        any_from_In (λ a. is_above origin a && is_above a n) r.0 (owners m NS) (owner_in m r.0 NS owned) (λ i. below i && above i)

    from : is_below_cut origin m n ≡ true → has_cut_above origin m n ≡ true
    from k =
        let r = In-from_any (λ a. is_above origin a && is_above a n) (owners m NS) k in
        let below = and_left (is_above origin r.0) (is_above r.0 n) r.2 in
        let above = and_right (is_above origin r.0) (is_above r.0 n) r.2 in
        let owned = owner_owned m r.0 NS r.1 in
        any_from_In (λ a. is_above origin a && owns m a NS) r.0 (proper_ancestors n) (above_in r.0 n above) (λ i. below i && owned i)

-- ---- so a walk tells whether the zone is authoritative for the name

pub authority_by : (origin : Name) (m : Sets) (n : Name) (below : Bool) → is_at_or_above origin n ≡ true → owns_besides m NSEC3 n ≡ true → below ≡ has_cut_above origin m n
    → not below ≡ is_authoritative origin m NSEC3 n
authority_by origin m n below p q h = ap not (h ∙ cuts_above origin m n) ∙ sym (λ i. p i && (q i && not (is_below_cut origin m n)))

pub outside : (origin : Name) (m : Sets) (n : Name) → is_at_or_above origin n ≡ false → false ≡ is_authoritative origin m NSEC3 n
outside origin m n h = sym (ap (λ b. b && (owns_besides m NSEC3 n && not (is_below_cut origin m n))) h)

pub owning_none : (origin : Name) (m : Sets) (n : Name) → owns_besides m NSEC3 n ≡ false → false ≡ is_authoritative origin m NSEC3 n
owning_none origin m n h = by (is_at_or_above origin n) ∙ sym (ap (λ b. is_at_or_above origin n && (b && not (is_below_cut origin m n))) h)
  where
    by : (b : Bool) → false ≡ b && false
    by true = refl
    by false = refl

-- a test of what is made of elements, as a test of these
pub any_map : {A B : Type 0} (p : B → Bool) (f : A → B) (xs : List A) → list_any (λ x. p (f x)) xs ≡ list_any p (map f xs)
any_map p f [] = refl
any_map p f (x ∷ xs) = ap (λ b. p (f x) || b) (any_map p f xs)
