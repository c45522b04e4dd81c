-- The sets along the targets of an ANAME set are those that a lookup lists beside it
use Rattle.std.proofs.Common.{◌≡◌, ℕ, ◌+◌, arith, Bool, List, [], ◌∷◌, ◌++◌, take, length, refl, sym, ap, ◌∙◌, inl, inr}
use Rattle.std.specs.Prelude.{Option, Some, None}
use Rattle.std.specs.List.{Contains}
use Rattle.std.specs.Option.{option_map_or}
use Rattle.std.proofs.Math.Seq.{take-append_seam}
use Rattle.zone_proto.specs.Names.{Name}
use Rattle.zone_proto.specs.Sets.{RRset}
use Rattle.zone_proto.proofs.Members.{In, In-Contains}
use Rattle.zone_map.specs.Fronts.{longest_front, IsLongestFront}
use Rattle.zone_map.specs.Zones.{Sets, IsZone}
use Rattle.zone_map.proofs.Fronts.{longest_front_law}
use Rattle.zone_lookup.specs.AdditionalLaws.{are_new}
use Rattle.zone_lookup.specs.Additionals.{next_name, run_types, seen_at_start, leads_to, listed_with, AreSearchedNames, AreListed, AreAdditionals, alias_sets}
use Rattle.zone_lookup.specs.Runs.{along}
use Rattle.zone_lookup.proofs.AdditionalLaws.{run_is_short}
use Rattle.zone_lookup.proofs.RunFronts.{run_is_longest_front}
use Rattle.zone_response.specs.Aname.{run_names, listed_along, target_sets}

-- ---- one front is the longest

front_taken : {X : Type 0} (xs front rest : List X) → xs ≡ front ++ rest → front ≡ take (length front) xs
front_taken xs front rest e = sym (ap (take (length front)) e ∙ take-append_seam front rest)

one_longest : {X : Type 0} (p : List X → Bool) (xs a b : List X) → IsLongestFront p xs a → IsLongestFront p xs b → a ≡ b
one_longest p xs a b f g =
    let same : length a ≡ length b = omega (arith, g.longest a f.is_front.0 f.is_front.1 f.passes, f.longest b g.is_front.0 g.is_front.1 g.passes) in
    front_taken xs a f.is_front.0 f.is_front.1 ∙ ap (λ n. take n xs) same ∙ sym (front_taken xs b g.is_front.0 g.is_front.1)

-- ---- the runs

module _ (m : Sets) (zone : IsZone m) (signed : Bool) where
  run_is : (seen : List Name) (u t : ℕ) → Contains (run_types u) t → (from : Name) (names : List Name) → AreSearchedNames m signed seen t (Some from) names → names ≡ run_names m signed seen t from
  run_is seen u t c from names s =
      let all = along (leads_to m signed t) (1 + alias_sets m) (Some from) in
      one_longest (are_new seen) all names (longest_front (are_new seen) all)
      (run_is_longest_front m signed seen t (Some from) names s (1 + alias_sets m) (run_is_short m zone signed seen u t c (Some from) names s))
      (longest_front_law (are_new seen) all refl)

  listed_is : (seen : List Name) (u : ℕ) (from : Name) (ts : List ℕ) → ((t : ℕ) → In t ts → Contains (run_types u) t) → (had sets : List RRset) → AreListed m signed seen from ts had sets → sets ≡ listed_along m signed seen from ts had
  listed_is seen u from [] among had sets e = e
  listed_is seen u from (t ∷ ts) among had sets (names, s, l) =
      listed_is seen u from ts (λ v i. among v (inr i)) (listed_with m signed t had names) sets l
      ∙ ap (λ names. listed_along m signed seen from ts (listed_with m signed t had names)) (run_is seen u t (among t (inl refl)) from names s)

  pub additionals_are : (x : Name) (t : ℕ) (from : Name) (sets : List RRset) → AreAdditionals m signed x t from sets → sets ≡ listed_along m signed (seen_at_start x t) from (run_types t) []
  additionals_are x t from sets are = listed_is (seen_at_start x t) t from (run_types t) (λ v i. In-Contains v (run_types t) i) [] sets are

  -- those along the targets of a set, if it leads anywhere
  pub targets_listed : (x : Name) (t : ℕ) (s : RRset) (from : Name) (sets : List RRset) → Some from ≡ next_name t s → AreAdditionals m signed x t from sets → sets ≡ target_sets m signed x t s
  targets_listed x t s from sets e are =
      additionals_are x t from sets are ∙ ap (λ (o : Option Name). option_map_or (λ from. listed_along m signed (seen_at_start x t) from (run_types t) []) o []) e

-- and none else
pub without_targets : (m : Sets) (signed : Bool) (x : Name) (t : ℕ) (s : RRset) → None ≡ next_name t s → [] ≡ target_sets m signed x t s
without_targets m signed x t s e = ap (λ (o : Option Name). option_map_or (λ from. listed_along m signed (seen_at_start x t) from (run_types t) []) o []) e
