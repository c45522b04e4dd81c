-- The names that are searched on a path, and the searches for them
use Rattle.std.proofs.Common.{◌≡◌, ℕ, suc, ◌+◌, ◌≤◌, false, cond, List, [], ◌∷◌, ◌++◌, ap, ◌∙◌, arith}
use Rattle.std.specs.List.{list_any, sum_by}
use Rattle.std.proofs.lemmas.List.Sums.{sum_by-cons}
use Rattle.zone_proto.specs.Names.{Name, name_eq}
use Rattle.zone_proto.specs.Sets.{RRset}
use Rattle.zone_response.specs.Paths.{names_from, names_on, next_behind, path_names}
use Rattle.zone_response.specs.Queries.{Inquiry}
use Rattle.zone_response.specs.Searches.{most_for_name, most_for_path}
use Rattle.zone_response.specs.Steps.{Next, on, step}

module _ (q : Inquiry) where
  abbrev most : Name → ℕ
  most = most_for_name q.origin q.sets

  -- the searches for the names that are left
  abbrev pub left_for : ℕ → List Name → List RRset → Name → ℕ
  left_for k seen a x = sum_by most (names_from q k seen a x)

  pub all_left : (a : List RRset) (k : ℕ) (seen : List Name) (n x : Name) → a ≡ [] → k ≡ 8 → seen ≡ [] → x ≡ n → left_for k seen a x ≡ most_for_path q n
  unfolding path_names
  all_left a k seen n x sets all none e = λ i. sum_by most (names_from q (all i) (none i) (sets i) (e i))

  module _ (k j : ℕ) (seen : List Name) (a : List RRset) (x : Name) (more : k ≡ suc j) (new : list_any (name_eq x) seen ≡ false) where
    split : left_for k seen a x ≡ most x + sum_by most (names_on (names_from q j (seen ++ x ∷ []) (a ++ (step q a x).answers)) (next_behind q a x))
    split =
        ap (λ i. left_for i seen a x) more
        ∙ ap (λ b. sum_by most (cond b [] (x ∷ names_on (names_from q j (seen ++ x ∷ []) (a ++ (step q a x).answers)) (next_behind q a x)))) new
        ∙ sum_by-cons most x (names_on (names_from q j (seen ++ x ∷ []) (a ++ (step q a x).answers)) (next_behind q a x))

    module _ (now after total : ℕ) (left : now + left_for k seen a x ≤ total) (step_made : after ≤ now + most_for_name q.origin q.sets x) where
      -- behind the step, no more were made than for the whole
      pub made_within : after ≤ total
      made_within = omega (arith, split, left, step_made)

      pub made_on : (b : List RRset) (also : List Name) (target : Name) → on target ≡ next_behind q a x → also ≡ seen ++ x ∷ [] → b ≡ a ++ (step q a x).answers → after + left_for j also b target ≤ total
      made_on b also target next e sets =
          let same : left_for j also b target ≡ sum_by most (names_on (names_from q j (seen ++ x ∷ []) (a ++ (step q a x).answers)) (next_behind q a x)) =
          (λ i. sum_by most (names_from q j (e i) (sets i) target)) ∙ ap (λ (w : Next). sum_by most (names_on (names_from q j (seen ++ x ∷ []) (a ++ (step q a x).answers)) w)) next in
          omega (arith, split, left, step_made, same)
