-- The searches for a name grow with the names between the origin and it alone, and there are eight names at most
use Rattle.std.proofs.Common.{◌≡◌, ℕ, zero, suc, ◌<◌, ◌≤◌, Bool, true, false, not, cond, List, [], ◌∷◌, ◌++◌, length, refl, sym, ap, ◌∙◌, true≢false, ◌⊎◌, inl, inr, arith}
use Rattle.std.specs.Prelude.{filter, ◌&&◌}
use Rattle.std.specs.List.{list_any}
use Rattle.std.specs.Map.{keys_of}
use Rattle.std.proofs.lemmas.Bool.{and_from, cases_lt}
use Rattle.zone_proto.specs.declared.rr_key.RrKey.{RrKey}
use Rattle.zone_proto.specs.Names.{Name, name_eq, is_above, is_at_or_above, IsAbove, IsAtOrAbove, suffixes, proper_ancestors}
use Rattle.zone_proto.specs.Sets.{RRset}
use Rattle.zone_proto.specs.Types.{SOA}
use Rattle.zone_proto.proofs.Members.{In, In-Contains, In-from_any, any_from_In, and_left, and_right, not_true}
use Rattle.zone_proto.proofs.Names.NameTree.{above_test, at_or_above_from_suffix, is_at_or_above_complete, is_at_or_above_sound}
use Rattle.zone_map.specs.Upserts.{is_denial_type}
use Rattle.zone_map.specs.Wildcards.{exists}
use Rattle.zone_map.specs.Zones.{Sets, owns, owns_at_or_below}
use Rattle.zone_map.proofs.ExistingNames.{owner_exists}
use Rattle.zone_response.specs.Paths.{names_from, names_on, next_behind, path_names}
use Rattle.zone_response.specs.Queries.{Inquiry}
use Rattle.zone_response.specs.SearchLaws.{SearchesAreFew, NamesAreFew}
use Rattle.zone_response.specs.Searches.{names_between, names_of_denial}
use Rattle.zone_response.specs.Steps.{Next, on, ends, step}
use Rattle.zone_response.proofs.NextKeys.{above_from_shorter, at_from_above, nested}
use Rattle.zone_response.proofs.TreeKeys.{at_at}

-- ---- the names of denial are between

more_pass : (p q : Name → Bool) (xs : List Name) → ((a : Name) → In a xs → p a ≡ true → q a ≡ true) → length (filter p xs) ≤ length (filter q xs)
more_pass p q [] h = omega arith
more_pass p q (x ∷ xs) h = by (p x) (q x) refl refl (more_pass p q xs (λ a i. h a (inr i)))
  where
    by : (b c : Bool) → p x ≡ b → q x ≡ c → length (filter p xs) ≤ length (filter q xs) → length (cond b (x ∷ filter p xs) (filter p xs)) ≤ length (cond c (x ∷ filter q xs) (filter q xs))
    by true true e f k = omega (arith, k)
    by true false e f k = absurd (true≢false (sym (h x (inl refl) e) ∙ f))
    by false true e f k = omega (arith, k)
    by false false e f k = k

above_in : (x a : Name) → In a (proper_ancestors x) → IsAbove a x
above_in [] a i = absurd i
above_in (l ∷ ls) a i = let up = at_or_above_from_suffix ls a (In-Contains a (suffixes ls) i) in (l, up.0, ap (λ s. l ∷ s) up.1)

-- what is above a name that exists, exists
exists_above : (m : Sets) (a o : Name) → IsAtOrAbove a o → exists m o ≡ true → exists m a ≡ true
exists_above m a o w h =
    let shown = In-from_any (λ (k : RrKey). is_at_or_above o k.name && not (is_denial_type k.record_type.0)) (keys_of m) h in
    let k = shown.0 in
    let below : is_at_or_above o k.name ≡ true = and_left (is_at_or_above o k.name) (not (is_denial_type k.record_type.0)) shown.2 in
    let other : not (is_denial_type k.record_type.0) ≡ true = and_right (is_at_or_above o k.name) (not (is_denial_type k.record_type.0)) shown.2 in
    any_from_In (λ (k : RrKey). is_at_or_above a k.name && not (is_denial_type k.record_type.0)) k (keys_of m) shown.1
    (and_from (is_at_or_above a k.name) (not (is_denial_type k.record_type.0)) (is_at_or_above_complete a k.name (at_at a o k.name w (is_at_or_above_sound o k.name below))) other)

module _ (origin : Name) (m : Sets) (x : Name) (soa : owns m origin SOA ≡ true) (inside : is_at_or_above origin x ≡ true) where
  below_origin : (a : Name) → IsAbove a x → exists m a ≡ false → IsAbove origin a
  below_origin a above absent = by (cases_lt (length origin) (length a))
    where
      by : (length origin < length a) ⊎ (length a ≤ length origin) → IsAbove origin a
      by (inl longer) = above_from_shorter origin a (nested origin a x (is_at_or_above_sound origin x inside) (at_from_above a x above) (omega (arith, longer))) longer
      by (inr short) =
          absurd
          (true≢false
          (sym (exists_above m a origin (nested a origin x (at_from_above a x above) (is_at_or_above_sound origin x inside) short) (owner_exists m origin SOA soa refl))
          ∙ absent))

  passes : (a : Name) → In a (proper_ancestors x) → owns_at_or_below m a && not (exists m a) ≡ true → is_above origin a && owns_at_or_below m a ≡ true
  passes a i h =
      let there : owns_at_or_below m a ≡ true = and_left (owns_at_or_below m a) (not (exists m a)) h in
      let absent : exists m a ≡ false = not_true (exists m a) (and_right (owns_at_or_below m a) (not (exists m a)) h) in
      and_from (is_above origin a) (owns_at_or_below m a) ((above_test origin a).1 (below_origin a (above_in x a i) absent)) there

  few_of_denial : length (names_of_denial m x) ≤ length (names_between origin m x)
  few_of_denial = more_pass (λ a. owns_at_or_below m a && not (exists m a)) (λ a. is_above origin a && owns_at_or_below m a) (proper_ancestors x) passes

pub searches_are_few : SearchesAreFew
searches_are_few origin m x soa inside = omega (arith, few_of_denial origin m x soa inside)

-- ---- the names of a path

few_names : (q : Inquiry) (k : ℕ) (seen : List Name) (before : List RRset) (x : Name) → length (names_from q k seen before x) ≤ k
few_names q zero seen before x = omega arith
few_names q (suc k) seen before x = by (list_any (name_eq x) seen) (λ y. few_names q k (seen ++ x ∷ []) (before ++ (step q before x).answers) y)
  where
    rest : (w : Next) → ((y : Name) → length (names_from q k (seen ++ x ∷ []) (before ++ (step q before x).answers) y) ≤ k) → length (names_on (names_from q k (seen ++ x ∷ []) (before ++ (step q before x).answers)) w) ≤ k
    rest (on y) few = few y
    rest (ends e) few = omega arith

    by : (b : Bool) → ((y : Name) → length (names_from q k (seen ++ x ∷ []) (before ++ (step q before x).answers) y) ≤ k) → length (cond b [] (x ∷ names_on (names_from q k (seen ++ x ∷ []) (before ++ (step q before x).answers)) (next_behind q before x))) ≤ suc k
    by true few = omega arith
    by false few = omega (arith, rest (next_behind q before x) few)

pub names_are_few : NamesAreFew
unfolding path_names
names_are_few q x = few_names q 8 [] [] x
