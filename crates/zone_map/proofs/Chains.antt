-- The chain of aliases, step by step: the longest front without a name twice ends where a name stands again
use Rattle.std.proofs.Common.{◌≡◌, ℕ, zero, suc, ◌+◌, ◌-◌, ◌<◌, ◌≤◌, arith, Bool, true, false, cond, not, ◌&&◌, ◌||◌, List, [], ◌∷◌, ◌++◌, map, length, take, drop, refl, sym, ap, ◌∙◌, append_assoc}
use Rattle.std.specs.Prelude.{Option, Some, None, nat_le}
use Rattle.std.specs.Option.{option_map_or}
use Rattle.std.specs.Cmp.{IsEquivalence}
use Rattle.std.specs.List.{list_any}
use Rattle.std.proofs.lemmas.Bool.Decides.{leb_tells}
use Rattle.std.proofs.lemmas.Cmp.{lists_equiv, nat_list_eq_equiv}
use Rattle.std.proofs.lemmas.List.{take-append-drop}
use Rattle.std.proofs.lemmas.List.Folds.{list_any-append}
use Rattle.std.proofs.Math.Seq.{take-append-add}
use Rattle.zone_proto.specs.Names.{Name, name_eq}
use Rattle.zone_proto.specs.Sets.{RRset}
use Rattle.zone_map.specs.Zones.{Sets}
use Rattle.zone_map.specs.Wildcards.{found}
use Rattle.zone_map.specs.Fronts.{longest_front, IsLongestFront}
use Rattle.zone_map.specs.Chains.{cname_target, links_from, links, are_distinct, may_be_chain, chain_links}
use Rattle.zone_map.specs.SearchLaws.{ChainIsLongestFront, ChainHasAtMost8}
use Rattle.zone_map.proofs.Fronts.{longest_front_is, longest_front_law}

pub names_equiv : IsEquivalence name_eq
names_equiv = lists_equiv nat_list_eq_equiv

-- no name twice, and none that was seen before
abbrev pub are_new : List Name → List Name → Bool
are_new seen [] = true
are_new seen (n ∷ ns) = not (list_any (name_eq n) seen) && (not (list_any (name_eq n) ns) && are_new seen ns)

-- the entries up to the first whose name was seen
abbrev pub fresh : List Name → List (Name × RRset) → List (Name × RRset)
fresh seen [] = []
fresh seen (e ∷ es) = cond (list_any (name_eq e.0) seen) [] (e ∷ fresh (seen ++ e.0 ∷ []) es)

abbrev names : List (Name × RRset) → List Name
names es = map (λ e. e.0) es

-- ---- new names, one after the other

tests : (a b c d r : Bool) → not (a || (b || false)) && (not c && (not d && r)) ≡ not (b || d) && (not a && (not c && r))
tests true true c d r = refl
tests true false c true r = refl
tests true false c false r = refl
tests false true c d r = refl
tests false false true true r = refl
tests false false true false r = refl
tests false false false true r = refl
tests false false false false r = refl

moved : (seen : List Name) (n : Name) (ns : List Name) → are_new (seen ++ n ∷ []) ns ≡ not (list_any (name_eq n) ns) && are_new seen ns
moved seen n [] = refl
moved seen n (x ∷ ns) =
    ap (λ a. not a && (not (list_any (name_eq x) ns) && are_new (seen ++ n ∷ []) ns)) (list_any-append (name_eq x) seen (n ∷ []))
    ∙ ap (λ r. not (list_any (name_eq x) seen || (name_eq x n || false)) && (not (list_any (name_eq x) ns) && r)) (moved seen n ns)
    ∙ ap (λ b. not (list_any (name_eq x) seen || (b || false)) && (not (list_any (name_eq x) ns) && (not (list_any (name_eq n) ns) && are_new seen ns))) (names_equiv.symm x n)
    ∙ tests (list_any (name_eq x) seen) (name_eq n x) (list_any (name_eq x) ns) (list_any (name_eq n) ns) (are_new seen ns)

new_step : (seen : List Name) (n : Name) (ns : List Name) → are_new seen (n ∷ ns) ≡ not (list_any (name_eq n) seen) && are_new (seen ++ n ∷ []) ns
new_step seen n ns = ap (λ b. not (list_any (name_eq n) seen) && b) (sym (moved seen n ns))

distinct : (ns : List Name) → are_distinct ns ≡ are_new [] ns
distinct [] = refl
distinct (n ∷ ns) = ap (λ b. not (list_any (name_eq n) ns) && b) (distinct ns)

-- ---- `fresh` is the longest front of new names

fresh_front : (seen : List Name) (es : List (Name × RRset)) → fresh seen es ≡ take (length (fresh seen es)) es
fresh_front seen [] = refl
fresh_front seen (e ∷ es) = by (list_any (name_eq e.0) seen) (fresh_front (seen ++ e.0 ∷ []) es)
  where
    by : (b : Bool) → fresh (seen ++ e.0 ∷ []) es ≡ take (length (fresh (seen ++ e.0 ∷ []) es)) es → cond b [] (e ∷ fresh (seen ++ e.0 ∷ []) es) ≡ take (length (cond b [] (e ∷ fresh (seen ++ e.0 ∷ []) es))) (e ∷ es)
    by true ih = refl
    by false ih = ap (λ w. e ∷ w) ih

fresh_short : (seen : List Name) (es : List (Name × RRset)) → length (fresh seen es) ≤ length es
fresh_short seen [] = omega arith
fresh_short seen (e ∷ es) = by (list_any (name_eq e.0) seen) (fresh_short (seen ++ e.0 ∷ []) es)
  where
    by : (b : Bool) → length (fresh (seen ++ e.0 ∷ []) es) ≤ length es → length (cond b [] (e ∷ fresh (seen ++ e.0 ∷ []) es)) ≤ suc (length es)
    by true ih = omega arith
    by false ih = omega arith

fresh_new : (seen : List Name) (es : List (Name × RRset)) → are_new seen (names (fresh seen es)) ≡ true
fresh_new seen [] = refl
fresh_new seen (e ∷ es) = by (list_any (name_eq e.0) seen) refl (fresh_new (seen ++ e.0 ∷ []) es)
  where
    by : (b : Bool) → list_any (name_eq e.0) seen ≡ b → are_new (seen ++ e.0 ∷ []) (names (fresh (seen ++ e.0 ∷ []) es)) ≡ true → are_new seen (names (cond b [] (e ∷ fresh (seen ++ e.0 ∷ []) es))) ≡ true
    by true q ih = refl
    by false q ih =
        new_step seen e.0 (names (fresh (seen ++ e.0 ∷ []) es))
        ∙ ap (λ b. not b && are_new (seen ++ e.0 ∷ []) (names (fresh (seen ++ e.0 ∷ []) es))) q
        ∙ ih

no_longer : (seen : List Name) (es : List (Name × RRset)) (k : ℕ) → length (fresh seen es) < k → k ≤ length es → are_new seen (names (take k es)) ≡ false
no_longer seen [] k a b = absurd (omega arith)
no_longer seen (e ∷ es) zero a b = absurd (omega arith)
no_longer seen (e ∷ es) (suc k) a b = new_step seen e.0 (names (take k es)) ∙ by (list_any (name_eq e.0) seen) a (λ l. no_longer (seen ++ e.0 ∷ []) es k l (omega arith))
  where
    by : (c : Bool) → length (cond c [] (e ∷ fresh (seen ++ e.0 ∷ []) es)) < suc k → (length (fresh (seen ++ e.0 ∷ []) es) < k → are_new (seen ++ e.0 ∷ []) (names (take k es)) ≡ false) → not c && are_new (seen ++ e.0 ∷ []) (names (take k es)) ≡ false
    by true l ih = refl
    by false l ih = ih (omega arith)

and_false : (a b : Bool) → b ≡ false → a && b ≡ false
and_false true b h = h
and_false false b h = refl

at_most_8 : (k : ℕ) → k ≤ 8 → nat_le k 8 ≡ true
at_most_8 k h = grind (arith, leb_tells)

front_is_fresh : (es : List (Name × RRset)) → length es ≤ 8 → longest_front may_be_chain es ≡ fresh [] es
front_is_fresh es short =
    longest_front_is may_be_chain es (length (fresh [] es))
    (λ k a b. and_false (nat_le (length (take k es)) 8) (are_distinct (names (take k es))) (distinct (names (take k es)) ∙ no_longer [] es k a b))
    (fresh_short [] es)
    (ap may_be_chain (sym (fresh_front [] es))
    ∙ ap (λ b. b && are_distinct (names (fresh [] es))) (at_most_8 (length (fresh [] es)) (omega (arith, fresh_short [] es, short)))
    ∙ distinct (names (fresh [] es)) ∙ fresh_new [] es)
    ∙ sym (fresh_front [] es)

-- ---- the chain from a name and its set

module _ (m : Sets) (signed : Bool) (t : ℕ) where
  links_short : (k : ℕ) (next : Option Name) → length (links_from m signed t k next) ≤ k
  links_short zero next = omega arith
  links_short (suc k) None = omega arith
  links_short (suc k) (Some n) = by (found m signed n t) (λ s. links_short k (cname_target s))
    where
      by : (o : Option RRset) → ((s : RRset) → length (links_from m signed t k (cname_target s)) ≤ k) → length (option_map_or (λ s. (n, s) ∷ links_from m signed t k (cname_target s)) o []) ≤ suc k
      by None ih = omega arith
      by (Some s) ih = omega (arith, ih s)

  -- the next sets of a chain, at most k, given the names that it has
  abbrev pub rest_of : ℕ → List Name → Option Name → List (Name × RRset)
  rest_of k seen next = fresh seen (links_from m signed t k next)

  pub chain_begins : (n : Name) (s : RRset) → chain_links m signed n s t ≡ (n, s) ∷ rest_of 7 (n ∷ []) (cname_target s)
  chain_begins n s = front_is_fresh (links m signed n s t 7) (omega (arith, links_short 7 (cname_target s)))

  pub rest_none : (k : ℕ) (seen : List Name) (next : Option Name) → next ≡ None → rest_of k seen next ≡ []
  rest_none zero seen next e = refl
  rest_none (suc k) seen next e = ap (λ p. fresh seen (links_from m signed t (suc k) p)) e

  pub rest_unfound : (k : ℕ) (seen : List Name) (next : Option Name) (n : Name) → next ≡ Some n → found m signed n t ≡ None → rest_of k seen next ≡ []
  rest_unfound zero seen next n e f = refl
  rest_unfound (suc k) seen next n e f =
      ap (λ p. fresh seen (links_from m signed t (suc k) p)) e
      ∙ ap (λ o. fresh seen (option_map_or (λ s. (n, s) ∷ links_from m signed t k (cname_target s)) o [])) f

  pub rest_seen : (k : ℕ) (seen : List Name) (next : Option Name) (n : Name) → next ≡ Some n → list_any (name_eq n) seen ≡ true → rest_of k seen next ≡ []
  rest_seen zero seen next n e h = refl
  rest_seen (suc k) seen next n e h = ap (λ p. fresh seen (links_from m signed t (suc k) p)) e ∙ by (found m signed n t)
    where
      by : (o : Option RRset) → fresh seen (option_map_or (λ s. (n, s) ∷ links_from m signed t k (cname_target s)) o []) ≡ []
      by None = refl
      by (Some s) = ap (λ b. cond b [] ((n, s) ∷ fresh (seen ++ n ∷ []) (links_from m signed t k (cname_target s)))) h

  pub rest_more : (k j : ℕ) (seen : List Name) (next : Option Name) (n : Name) (s : RRset) → k ≡ suc j → next ≡ Some n → list_any (name_eq n) seen ≡ false → found m signed n t ≡ Some s
      → rest_of k seen next ≡ (n, s) ∷ rest_of j (seen ++ n ∷ []) (cname_target s)
  rest_more k j seen next n s d e h f =
      ap (λ i. rest_of i seen next) d
      ∙ ap (λ p. fresh seen (links_from m signed t (suc j) p)) e
      ∙ ap (λ o. fresh seen (option_map_or (λ s. (n, s) ∷ links_from m signed t j (cname_target s)) o [])) f
      ∙ ap (λ b. cond b [] ((n, s) ∷ fresh (seen ++ n ∷ []) (links_from m signed t j (cname_target s)))) h

  -- ---- how many names are searched

  -- one for each of the next sets, and one more where the last leads to a new name without a set
  abbrev pub searches_of : ℕ → List Name → Option Name → ℕ
  searches_of zero seen next = 0
  searches_of (suc k) seen None = 0
  searches_of (suc k) seen (Some n) = cond (list_any (name_eq n) seen) 0 (suc (option_map_or (λ s. searches_of k (seen ++ n ∷ []) (cname_target s)) (found m signed n t) 0))

  pub searches_none : (k : ℕ) (seen : List Name) (next : Option Name) → next ≡ None → searches_of k seen next ≡ 0
  searches_none zero seen next e = refl
  searches_none (suc k) seen next e = ap (searches_of (suc k) seen) e

  pub searches_seen : (k : ℕ) (seen : List Name) (next : Option Name) (n : Name) → next ≡ Some n → list_any (name_eq n) seen ≡ true → searches_of k seen next ≡ 0
  searches_seen zero seen next n e h = refl
  searches_seen (suc k) seen next n e h =
      ap (searches_of (suc k) seen) e
      ∙ ap (λ b. cond b 0 (suc (option_map_or (λ s. searches_of k (seen ++ n ∷ []) (cname_target s)) (found m signed n t) 0))) h

  pub searches_unfound : (k j : ℕ) (seen : List Name) (next : Option Name) (n : Name) → k ≡ suc j → next ≡ Some n → list_any (name_eq n) seen ≡ false → found m signed n t ≡ None → searches_of k seen next ≡ 1
  searches_unfound k j seen next n d e h f =
      ap (λ i. searches_of i seen next) d
      ∙ ap (searches_of (suc j) seen) e
      ∙ ap (λ b. cond b 0 (suc (option_map_or (λ s. searches_of j (seen ++ n ∷ []) (cname_target s)) (found m signed n t) 0))) h
      ∙ ap (λ o. suc (option_map_or (λ s. searches_of j (seen ++ n ∷ []) (cname_target s)) o 0)) f

  pub searches_step : (k j : ℕ) (seen : List Name) (next : Option Name) (n : Name) (s : RRset) → k ≡ suc j → next ≡ Some n → list_any (name_eq n) seen ≡ false → found m signed n t ≡ Some s
      → searches_of k seen next ≡ suc (searches_of j (seen ++ n ∷ []) (cname_target s))
  searches_step k j seen next n s d e h f =
      ap (λ i. searches_of i seen next) d
      ∙ ap (searches_of (suc j) seen) e
      ∙ ap (λ b. cond b 0 (suc (option_map_or (λ s. searches_of j (seen ++ n ∷ []) (cname_target s)) (found m signed n t) 0))) h
      ∙ ap (λ o. suc (option_map_or (λ s. searches_of j (seen ++ n ∷ []) (cname_target s)) o 0)) f

-- ---- laws

front_of_links : (m : Sets) (signed : Bool) (t j k : ℕ) (next : Option Name) → j ≤ k → take j (links_from m signed t k next) ≡ links_from m signed t j next
front_of_links m signed t zero k next h = refl
front_of_links m signed t (suc j) zero next h = absurd (omega arith)
front_of_links m signed t (suc j) (suc k) None h = refl
front_of_links m signed t (suc j) (suc k) (Some n) h = by (found m signed n t) (λ s. front_of_links m signed t j k (cname_target s) (omega arith))
  where
    by : (o : Option RRset) → ((s : RRset) → take j (links_from m signed t k (cname_target s)) ≡ links_from m signed t j (cname_target s))
        → take (suc j) (option_map_or (λ s. (n, s) ∷ links_from m signed t k (cname_target s)) o []) ≡ option_map_or (λ s. (n, s) ∷ links_from m signed t j (cname_target s)) o []
    by None ih = refl
    by (Some s) ih = ap (λ w. (n, s) ∷ w) (ih s)

and_left : (a b : Bool) → a && b ≡ true → a ≡ true
and_left true b h = refl
and_left false b h = cc

told_at_most_8 : (k : ℕ) → nat_le k 8 ≡ true → k ≤ 8
told_at_most_8 k h = grind (arith, leb_tells)

pub chain_is_longest_front : ChainIsLongestFront
chain_is_longest_front m signed n s t k h =
    let law : IsLongestFront may_be_chain (links m signed n s t 7) (chain_links m signed n s t) = longest_front_law may_be_chain (links m signed n s t 7) refl in
    let all = links m signed n s t k in
    let front : take 8 all ≡ links m signed n s t 7 = ap (λ w. (n, s) ∷ w) (front_of_links m signed t 7 k (cname_target s) h) in
    record {
      is_front = (law.is_front.0 ++ drop 8 all, sym (take-append-drop 8 all) ∙ ap (λ f. f ++ drop 8 all) (front ∙ law.is_front.1) ∙ append_assoc (chain_links m signed n s t) law.is_front.0 (drop 8 all));
      passes = law.passes;
      longest = λ other rest e p.
          let short : length other ≤ 8 = told_at_most_8 (length other) (and_left (nat_le (length other) 8) (are_distinct (names other)) p) in
          let eight : 8 ≡ length other + (8 - length other) = omega arith in
          law.longest other (take (8 - length other) rest)
          (sym front ∙ ap (take 8) e ∙ ap (λ i. take i (other ++ rest)) eight ∙ take-append-add other rest (8 - length other)) p;
    }

pub chain_has_at_most_8 : ChainHasAtMost8
chain_has_at_most_8 m signed n s t =
    let law = longest_front_law may_be_chain (links m signed n s t 7) refl in
    told_at_most_8 (length (chain_links m signed n s t)) (and_left (nat_le (length (chain_links m signed n s t)) 8) (are_distinct (names (chain_links m signed n s t))) law.passes)
