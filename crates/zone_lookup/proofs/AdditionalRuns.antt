-- A run along first targets, name by name
use Rattle.std.proofs.Common.{◌≡◌, ℕ, zero, suc, ◌+◌, ◌<◌, ◌≤◌, arith, Bool, true, false, cond, List, [], ◌∷◌, ◌++◌, length, refl, sym, ap, ◌∙◌, subst}
use Rattle.std.specs.Prelude.{Option, Some, None, fold, option_and_then}
use Rattle.std.specs.List.{list_any, cons_option}
use Rattle.zone_proto.specs.Names.{Name, name_eq}
use Rattle.zone_proto.specs.Sets.{RRset, same_set}
use Rattle.zone_proto.specs.Types.{A, AAAA}
use Rattle.zone_map.specs.Zones.{Sets}
use Rattle.zone_map.specs.Wildcards.{found}
use Rattle.zone_lookup.specs.Runs.{with_new}
use Rattle.zone_lookup.specs.SeenNames.{AreSameNames}
use Rattle.zone_lookup.specs.Additionals.{run_target, names_host, leads_to, found_sets, listed_with, AreSearchedNames, IsFollowed, AreCounted, AreSearches, AreAdditionals, AreListed}
use Rattle.zone_map.specs.Counts.{one_more, counted_more}
use Rattle.zone_map.proofs.Chains.{names_equiv}
use Rattle.zone_lookup.proofs.ChainSearches.{at_most_one, counted_first}
use Rattle.zone_lookup.proofs.Paths.{run_names, run_names_searched, run_none, run_seen, run_step, run_same}
use Rattle.zone_lookup.proofs.Targets.{targets, leads_among}

module _ (m : Sets) (signed : Bool) (t : ℕ) where
  -- the names that are still to be searched
  pub left : List Name → Option Name → List Name
  left seen p = run_names names_equiv (leads_to m signed t) (targets m t) (leads_among m t signed) seen p

  pub left_searched : (seen : List Name) (p : Option Name) → AreSearchedNames m signed seen t p (left seen p)
  unfolding left
  left_searched seen p = run_names_searched names_equiv (leads_to m signed t) (targets m t) (leads_among m t signed) seen p

  left_none : (seen : List Name) → left seen None ≡ []
  unfolding left
  left_none seen = run_none names_equiv (leads_to m signed t) (targets m t) (leads_among m t signed) seen

  left_seen : (seen : List Name) (n : Name) → list_any (name_eq n) seen ≡ true → left seen (Some n) ≡ []
  unfolding left
  left_seen seen n e = run_seen names_equiv (leads_to m signed t) (targets m t) (leads_among m t signed) seen n e

  left_step : (seen : List Name) (n : Name) → list_any (name_eq n) seen ≡ false → left seen (Some n) ≡ n ∷ left (seen ++ n ∷ []) (leads_to m signed t n)
  unfolding left
  left_step seen n e = run_step names_equiv (leads_to m signed t) (targets m t) (leads_among m t signed) seen n e

  left_same : (seen other : List Name) (p : Option Name) → AreSameNames seen other → left seen p ≡ left other p
  unfolding left
  left_same seen other p e = run_same names_equiv (leads_to m signed t) (targets m t) (leads_among m t signed) seen other p e

  -- a name whose set leads nowhere, or that has none, is the last
  left_last : (seen : List Name) (n : Name) → list_any (name_eq n) seen ≡ false → leads_to m signed t n ≡ None → left seen (Some n) ≡ n ∷ []
  left_last seen n e f = left_step seen n e ∙ ap (λ p. n ∷ left (seen ++ n ∷ []) p) f ∙ ap (λ w. n ∷ w) (left_none (seen ++ n ∷ []))

  -- a found set is listed, and nothing is listed where none is found
  listed_found : (had : List RRset) (n : Name) (s : RRset) (ns : List Name) → found m signed n t ≡ Some s → listed_with m signed t had (n ∷ ns) ≡ listed_with m signed t (with_new same_set had s) ns
  listed_found had n s ns f = ap (λ o. fold (with_new same_set) had (cons_option o (found_sets m signed t ns))) f

  listed_unfound : (had : List RRset) (n : Name) (ns : List Name) → found m signed n t ≡ None → listed_with m signed t had (n ∷ ns) ≡ listed_with m signed t had ns
  listed_unfound had n ns f = ap (λ o. fold (with_new same_set) had (cons_option o (found_sets m signed t ns))) f

  -- ---- the loop

  module _ (first : List Name) (from : Name) (begun : List RRset) (before : ℕ) where
    -- what is left of the run, listed and counted onto what is there, gives what the whole run gives
    pub record Goes (had : List RRset) (seen : List Name) (name : Name) (searches : ℕ) : Type 0 where
      pub listing : listed_with m signed t had (left seen (Some name)) ≡ listed_with m signed t begun (left first (Some from))
      pub count : counted_more (length (left seen (Some name))) searches ≡ counted_more (length (left first (Some from))) before
      -- also where the count has stopped at its greatest number
      pub bounded : searches + length (left seen (Some name)) ≤ before + length (left first (Some from))

    pub begins : (seen : List Name) → seen ≡ first → Goes begun seen from before
    begins seen e = subst (λ x. Goes begun x from before) (sym e) (record { listing = refl; count = refl; bounded = omega arith })

    same_goes : (had : List RRset) (seen other : List Name) (name : Name) (searches : ℕ) → AreSameNames other seen → Goes had seen name searches → Goes had other name searches
    same_goes had seen other name searches e goes =
        let same : left other (Some name) ≡ left seen (Some name) = left_same other seen (Some name) e in
        record {
          listing = ap (listed_with m signed t had) same ∙ goes.listing;
          count = ap (λ ns. counted_more (length ns) searches) same ∙ goes.count;
          bounded = subst (λ (ns : List Name). searches + length ns ≤ before + length (left first (Some from))) (sym same) goes.bounded;
        }

    module _ (had new : List RRset) (seen : List Name) (name : Name) (searches after : ℕ) (goes : Goes had seen name searches) (unseen : list_any (name_eq name) seen ≡ false) (counted : after ≡ one_more searches) where
      -- one turn leaves one name fewer
      fewer : (s : RRset) (next : Name) → found m signed name t ≡ Some s → run_target t s ≡ Some next → left seen (Some name) ≡ name ∷ left (seen ++ name ∷ []) (Some next)
      fewer s next f r = left_step seen name unseen ∙ ap (λ p. name ∷ left (seen ++ name ∷ []) p) (ap (option_and_then (run_target t)) f ∙ r)

      pub goes_on : (s : RRset) (next : Name) (pushed : List Name) (then : Name) → found m signed name t ≡ Some s → run_target t s ≡ Some next → new ≡ with_new same_set had s → AreSameNames pushed (seen ++ name ∷ []) → then ≡ next
          → Goes new pushed then after
      goes_on s next pushed then f r w p q =
          subst (λ x. Goes x pushed then after) (sym w)
          (same_goes (with_new same_set had s) (seen ++ name ∷ []) pushed then after p
          (subst (λ x. Goes (with_new same_set had s) (seen ++ name ∷ []) x after) (sym q)
          (subst (λ x. Goes (with_new same_set had s) (seen ++ name ∷ []) next x) (sym counted)
          (let rest = left (seen ++ name ∷ []) (Some next) in
          record {
            listing = sym (listed_found had name s rest f) ∙ sym (ap (listed_with m signed t had) (fewer s next f r)) ∙ goes.listing;
            count = counted_first (length rest) searches ∙ sym (ap (λ ns. counted_more (length ns) searches) (fewer s next f r)) ∙ goes.count;
            bounded = let k : length (left seen (Some name)) ≡ 1 + length rest = ap length (fewer s next f r) ∙ omega arith in omega (arith, k, goes.bounded, at_most_one searches);
          }))))

      pub smaller : (s : RRset) (next : Name) (pushed : List Name) (then : Name) → found m signed name t ≡ Some s → run_target t s ≡ Some next → AreSameNames pushed (seen ++ name ∷ []) → then ≡ next
          → length (left pushed (Some then)) < length (left seen (Some name))
      smaller s next pushed then f r p q =
          let k : length (left seen (Some name)) ≡ 1 + length (left (seen ++ name ∷ []) (Some next)) = ap length (fewer s next f r) ∙ omega arith in
          let j : length (left pushed (Some then)) ≡ length (left (seen ++ name ∷ []) (Some next)) = ap length (left_same pushed (seen ++ name ∷ []) (Some then) p) ∙ ap (λ x. length (left (seen ++ name ∷ []) (Some x))) q in
          omega arith

      -- however this turn ends, the names that were searched are some of the run's
      pub turned : after ≤ before + length (left first (Some from))
      turned =
          let k : length (left seen (Some name)) ≡ 1 + length (left (seen ++ name ∷ []) (leads_to m signed t name)) = ap length (left_step seen name unseen) ∙ omega arith in
          omega (arith, k, counted, goes.bounded, at_most_one searches)

      -- the run is over with this name: nothing was found for it, or its set leads nowhere
      pub ends_unfound : found m signed name t ≡ None → new ≡ had → IsFollowed m signed first t from begun new before after
      ends_unfound f w =
          let last : left seen (Some name) ≡ name ∷ [] = left_last seen name unseen (ap (option_and_then (run_target t)) f) in
          record {
            names = left first (Some from);
            searched = left_searched first (Some from);
            listed = w ∙ sym (listed_unfound had name [] f) ∙ sym (ap (listed_with m signed t had) last) ∙ goes.listing;
            counted = counted ∙ sym (ap (λ ns. counted_more (length ns) searches) last) ∙ goes.count;
          }

      pub ends_nowhere : (s : RRset) → found m signed name t ≡ Some s → run_target t s ≡ None → new ≡ with_new same_set had s → IsFollowed m signed first t from begun new before after
      ends_nowhere s f r w =
          let last : left seen (Some name) ≡ name ∷ [] = left_last seen name unseen (ap (option_and_then (run_target t)) f ∙ r) in
          record {
            names = left first (Some from);
            searched = left_searched first (Some from);
            listed = w ∙ sym (listed_found had name s [] f) ∙ sym (ap (listed_with m signed t had) last) ∙ goes.listing;
            counted = counted ∙ sym (ap (λ ns. counted_more (length ns) searches) last) ∙ goes.count;
          }

    -- before a turn they are so too
    pub not_turned : (had : List RRset) (seen : List Name) (name : Name) (searches : ℕ) → Goes had seen name searches → searches ≤ before + length (left first (Some from))
    not_turned had seen name searches goes = omega (arith, goes.bounded)

    -- the run is over before a name that was seen
    pub ends_seen : (had : List RRset) (seen : List Name) (name : Name) (searches : ℕ) → Goes had seen name searches → list_any (name_eq name) seen ≡ true → IsFollowed m signed first t from begun had before searches
    ends_seen had seen name searches goes e =
        let over : left seen (Some name) ≡ [] = left_seen seen name e in
        record {
          names = left first (Some from);
          searched = left_searched first (Some from);
          listed = sym (ap (listed_with m signed t had) over) ∙ goes.listing;
          counted = sym (ap (λ ns. counted_more (length ns) searches) over) ∙ goes.count;
        }

-- ---- runs one after the other

counted_after : (a b n : ℕ) → counted_more (a + b) n ≡ counted_more b (counted_more a n)
counted_after a zero n = ap (λ k. counted_more k n) (omega arith)
counted_after a (suc b) n = let k : a + suc b ≡ suc (a + b) = omega arith in ap (λ i. counted_more i n) k ∙ ap one_more (counted_after a b n)

counted_twice : (before between after a b : ℕ) → between ≡ counted_more a before → after ≡ counted_more b between → after ≡ counted_more (a + (b + 0)) before
counted_twice before between after a b e f = let k : a + (b + 0) ≡ a + b = omega arith in f ∙ ap (counted_more b) e ∙ sym (counted_after a b before) ∙ sym (ap (λ i. counted_more i before) k)

counted_once : (before after a : ℕ) → after ≡ counted_more a before → after ≡ counted_more (a + 0) before
counted_once before after a e = let k : a + 0 ≡ a = omega arith in e ∙ sym (ap (λ i. counted_more i before) k)

module _ (m : Sets) (signed : Bool) (n : Name) (t : ℕ) (from : Name) where
  -- the searches of the two runs for a host
  pub two_runs : (start other : List Name) (copy : Name) (had some sets : List RRset) (before between after : ℕ) → names_host t ≡ true → start ≡ [] → other ≡ [] → copy ≡ from
      → IsFollowed m signed start A copy had some before between → IsFollowed m signed other AAAA from some sets between after → (k : ℕ) × AreSearches m signed n t from k × (after ≡ counted_more k before)
  two_runs start other copy had some sets before between after h p q r f g =
      let k : ℕ = length f.names + (length g.names + 0) in
      let fs : AreSearchedNames m signed [] A (Some from) f.names = subst (λ x. AreSearchedNames m signed x A (Some from) f.names) p (subst (λ x. AreSearchedNames m signed start A (Some x) f.names) r f.searched) in
      let gs : AreSearchedNames m signed [] AAAA (Some from) g.names = subst (λ x. AreSearchedNames m signed x AAAA (Some from) g.names) q g.searched in (
        k,
        subst (λ b. AreCounted m signed (cond b [] (n ∷ [])) from (cond b (A ∷ AAAA ∷ []) (t ∷ [])) k) (sym h) (f.names, length g.names + 0, fs, (g.names, 0, gs, refl, refl), refl),
        counted_twice before between after (length f.names) (length g.names) f.counted g.counted,
      )

  -- those of the one run for any other type
  pub one_run : (start : List Name) (had sets : List RRset) (before after : ℕ) → names_host t ≡ false → start ≡ n ∷ [] → IsFollowed m signed start t from had sets before after
      → (k : ℕ) × AreSearches m signed n t from k × (after ≡ counted_more k before)
  one_run start had sets before after h p f =
      let k : ℕ = length f.names + 0 in
      let fs : AreSearchedNames m signed (n ∷ []) t (Some from) f.names = subst (λ x. AreSearchedNames m signed x t (Some from) f.names) p f.searched in (
        k,
        subst (λ b. AreCounted m signed (cond b [] (n ∷ [])) from (cond b (A ∷ AAAA ∷ []) (t ∷ [])) k) (sym h) (f.names, 0, fs, refl, refl),
        counted_once before after (length f.names) f.counted,
      )

  -- the sets of the two runs for a host
  pub two_listed : (start other : List Name) (copy : Name) (had some sets : List RRset) (before between after : ℕ) → names_host t ≡ true → start ≡ [] → other ≡ [] → copy ≡ from → had ≡ []
      → IsFollowed m signed start A copy had some before between → IsFollowed m signed other AAAA from some sets between after → AreAdditionals m signed n t from sets
  two_listed start other copy had some sets before between after h p q r e f g =
      let fs : AreSearchedNames m signed [] A (Some from) f.names = subst (λ x. AreSearchedNames m signed x A (Some from) f.names) p (subst (λ x. AreSearchedNames m signed start A (Some x) f.names) r f.searched) in
      let gs : AreSearchedNames m signed [] AAAA (Some from) g.names = subst (λ x. AreSearchedNames m signed x AAAA (Some from) g.names) q g.searched in
      let both = g.listed ∙ ap (λ x. listed_with m signed AAAA x g.names) (f.listed ∙ ap (λ x. listed_with m signed A x f.names) e) in
      subst (λ b. AreListed m signed (cond b [] (n ∷ [])) from (cond b (A ∷ AAAA ∷ []) (t ∷ [])) [] sets) (sym h) (f.names, fs, (g.names, gs, both))

  -- those of the one run for any other type
  pub one_listed : (start : List Name) (had sets : List RRset) (before after : ℕ) → names_host t ≡ false → start ≡ n ∷ [] → had ≡ [] → IsFollowed m signed start t from had sets before after → AreAdditionals m signed n t from sets
  one_listed start had sets before after h p e f =
      let fs : AreSearchedNames m signed (n ∷ []) t (Some from) f.names = subst (λ x. AreSearchedNames m signed x t (Some from) f.names) p f.searched in
      subst (λ b. AreListed m signed (cond b [] (n ∷ [])) from (cond b (A ∷ AAAA ∷ []) (t ∷ [])) [] sets) (sym h) (f.names, fs, f.listed ∙ ap (λ x. listed_with m signed t x f.names) e)
