-- A loop that puts the sets of a chain behind one another
use Rattle.std.proofs.Common.{◌≡◌, ℕ, suc, ◌+◌, ◌-◌, ◌<◌, ◌≤◌, arith, Bool, true, false, List, [], ◌∷◌, ◌++◌, map, length, drop, refl, sym, ap, ◌∙◌, subst, append_assoc, true≢false, Ordering, Less, Equal, Greater, ◌||◌}
use Rattle.std.specs.Prelude.{Option, Some, None}
use Rattle.std.specs.Cmp.{both_ways}
use Rattle.std.specs.List.{list_any}
use Rattle.std.specs.Ordering.{eq_by_cmp, is_eq}
use Rattle.std.proofs.lemmas.Cmp.{tied_itself}
use Rattle.std.proofs.lemmas.List.{append-nil, map-append, length-append}
use Rattle.zone_proto.specs.Names.{Name, name_eq, name_cmp}
use Rattle.zone_proto.specs.Sets.{RRset}
use Rattle.zone_proto.proofs.Names.NameTree.{name_eq-Decides}
use Rattle.zone_proto.proofs.Names.Tree.{name_order}
use Rattle.zone_lookup.specs.declared.found.Found.{Found}
use Rattle.zone_lookup.specs.FoundSets.{found_set, lent_set}
use Rattle.zone_map.specs.Zones.{Sets}
use Rattle.zone_map.specs.Direct.{direct}
use Rattle.zone_map.specs.Wildcards.{found}
use Rattle.zone_map.specs.Chains.{cname_target, chain, chain_links, chain_searches}
use Rattle.zone_map.specs.Counts.{one_more, counted_more}
use Rattle.zone_map.proofs.Chains.{rest_of, rest_none, rest_seen, rest_unfound, rest_more, searches_of, searches_none, searches_seen, searches_unfound, searches_step, chain_begins}
use Rattle.zone_lookup.proofs.ChainSearches.{searches_are, at_most_one, counted_first}

-- ---- a name among those that were seen

pub same_test : (y n : Name) → eq_by_cmp name_cmp y n ≡ name_eq n y
same_test y n =
    both_ways (eq_by_cmp name_cmp y n) (name_eq n y)
    (λ e. (name_eq-Decides n y).1 (sym (name_order.exact y n (equal (name_cmp y n) e))))
    (λ e. ap (λ x. eq_by_cmp name_cmp y x) ((name_eq-Decides n y).0 e) ∙ ap is_eq (tied_itself name_order.total y))
  where
    equal : (o : Ordering) → is_eq o ≡ true → o ≡ Equal
    equal Less e = absurd (true≢false (sym e))
    equal Equal e = refl
    equal Greater e = absurd (true≢false (sym e))

pub asked : (n : Name) (seen : List Name) → list_any (λ y. eq_by_cmp name_cmp y n) seen ≡ list_any (name_eq n) seen
asked n [] = refl
asked n (y ∷ seen) = ap (λ b. b || list_any (λ y. eq_by_cmp name_cmp y n) seen) (same_test y n) ∙ ap (λ b. name_eq n y || b) (asked n seen)

pub no_value : {X : Type 0} (o : Option X) → ((x : X) → o ≡ Some x → ⊥) → o ≡ None
no_value None h = refl
no_value (Some x) h = absurd (h x refl)

-- ---- the loop

module _ (m : Sets) (signed : Bool) (t : ℕ) (n : Name) (first : Found) (before : ℕ) where
  -- the sets behind the first
  abbrev whole : List (Name × RRset)
  whole = rest_of m signed t 7 (n ∷ []) (cname_target (found_set first))

  -- what is left of the chain, behind the sets so far, gives what the whole chain gives
  pub record Goes (items : List Found) (seen : List Name) (next : Option Name) (searches : ℕ) : Type 0 where
    pub sets : map found_set items ++ map (λ (e : Name × RRset). e.1) (rest_of m signed t (8 - length items) seen next) ≡ found_set first ∷ map (λ (e : Name × RRset). e.1) whole
    pub lent : map lent_set items ++ map (λ (e : Name × RRset). direct m e.0 t) (rest_of m signed t (8 - length items) seen next) ≡ lent_set first ∷ map (λ (e : Name × RRset). direct m e.0 t) whole
    pub count : counted_more (searches_of m signed t (8 - length items) seen next) searches ≡ counted_more (searches_of m signed t 7 (n ∷ []) (cname_target (found_set first))) before
    pub some : 0 < length items
    pub short : length items ≤ 8
    pub bounded : searches + 1 ≤ before + length items

  begun : Goes (first ∷ []) (n ∷ []) (cname_target (found_set first)) before
  begun = record { sets = refl; lent = refl; count = refl; some = omega arith; short = omega arith; bounded = omega arith }

  pub begins : (items : List Found) (seen : List Name) (next : Option Name) → items ≡ first ∷ [] → seen ≡ n ∷ [] → next ≡ cname_target (found_set first) → Goes items seen next before
  begins items seen next e f g =
      subst (λ x. Goes x seen next before) (sym e)
      (subst (λ x. Goes (first ∷ []) x next before) (sym f)
      (subst (λ x. Goes (first ∷ []) (n ∷ []) x before) (sym g) begun))

  stepped : (items : List Found) (seen : List Name) (searches : ℕ) (target : Name) (f : Found) → Goes items seen (Some target) searches → length items < 8
      → list_any (name_eq target) seen ≡ false → found m signed target t ≡ Some (found_set f) → lent_set f ≡ direct m target t
      → Goes (items ++ f ∷ []) (seen ++ target ∷ []) (cname_target (found_set f)) (one_more searches)
  stepped items seen searches target f g room new is lent_is =
      let j : ℕ = 8 - length (items ++ f ∷ []) in
      let longer : length (items ++ f ∷ []) ≡ length items + 1 = length-append items (f ∷ []) in
      let d : 8 - length items ≡ suc j = omega (arith, room, longer) in
      let left = rest_of m signed t j (seen ++ target ∷ []) (cname_target (found_set f)) in
      let rest : rest_of m signed t (8 - length items) seen (Some target) ≡ (target, found_set f) ∷ left = rest_more m signed t (8 - length items) j seen (Some target) target (found_set f) d refl new is in
      record {
        sets =
            ap (λ w. w ++ map (λ (e : Name × RRset). e.1) left) (map-append found_set items (f ∷ []))
            ∙ append_assoc (map found_set items) (found_set f ∷ []) (map (λ (e : Name × RRset). e.1) left)
            ∙ sym (ap (λ r. map found_set items ++ map (λ (e : Name × RRset). e.1) r) rest) ∙ g.sets;
        lent =
            ap (λ w. w ++ map (λ (e : Name × RRset). direct m e.0 t) left) (map-append lent_set items (f ∷ []))
            ∙ append_assoc (map lent_set items) (lent_set f ∷ []) (map (λ (e : Name × RRset). direct m e.0 t) left)
            ∙ ap (λ x. map lent_set items ++ x ∷ map (λ (e : Name × RRset). direct m e.0 t) left) lent_is
            ∙ sym (ap (λ r. map lent_set items ++ map (λ (e : Name × RRset). direct m e.0 t) r) rest) ∙ g.lent;
        count =
            counted_first (searches_of m signed t j (seen ++ target ∷ []) (cname_target (found_set f))) searches
            ∙ sym (ap (λ q. counted_more q searches) (searches_step m signed t (8 - length items) j seen (Some target) target (found_set f) d refl new is)) ∙ g.count;
        some = omega (arith, longer);
        short = omega (arith, room, longer);
        bounded = omega (arith, g.bounded, longer, at_most_one searches);
      }

  pub goes_on : (items new_items : List Found) (seen new_seen : List Name) (next new_next : Option Name) (searches after : ℕ) (target : Name) (f : Found)
      → Goes items seen next searches → length items < 8 → next ≡ Some target → list_any (name_eq target) seen ≡ false → found m signed target t ≡ Some (found_set f) → lent_set f ≡ direct m target t
      → new_items ≡ items ++ f ∷ [] → new_seen ≡ seen ++ target ∷ [] → new_next ≡ cname_target (found_set f) → after ≡ one_more searches → Goes new_items new_seen new_next after
  goes_on items new_items seen new_seen next new_next searches after target f g room e new is lent_is ie se ne ae =
      subst (λ x. Goes x new_seen new_next after) (sym ie)
      (subst (λ x. Goes (items ++ f ∷ []) x new_next after) (sym se)
      (subst (λ x. Goes (items ++ f ∷ []) (seen ++ target ∷ []) x after) (sym ne)
      (subst (λ x. Goes (items ++ f ∷ []) (seen ++ target ∷ []) (cname_target (found_set f)) x) (sym ae)
      (stepped items seen searches target f (subst (λ x. Goes items seen x searches) e g) room new is lent_is))))

  -- nothing is left, and the names that were searched are counted
  pub record Ended (items : List Found) (seen : List Name) (next : Option Name) (searches after : ℕ) : Type 0 where
    pub rest : rest_of m signed t (8 - length items) seen next ≡ []
    pub counted : after ≡ counted_more (searches_of m signed t (8 - length items) seen next) searches

  module _ (items : List Found) (seen : List Name) (next : Option Name) (searches after : ℕ) where
    pub ends_full : 8 ≤ length items → after ≡ searches → Ended items seen next searches after
    ends_full h e =
        let z : 8 - length items ≡ 0 = omega (arith, h) in
        record {
          rest = ap (λ k. rest_of m signed t k seen next) z;
          counted = e ∙ sym (ap (λ k. counted_more (searches_of m signed t k seen next) searches) z);
        }

    pub ends_at_no_target : next ≡ None → after ≡ searches → Ended items seen next searches after
    ends_at_no_target h e =
        record {
          rest = rest_none m signed t (8 - length items) seen next h;
          counted = e ∙ sym (ap (λ k. counted_more k searches) (searches_none m signed t (8 - length items) seen next h));
        }

    pub ends_at_seen : (target : Name) → next ≡ Some target → list_any (name_eq target) seen ≡ true → after ≡ searches → Ended items seen next searches after
    ends_at_seen target h s e =
        record {
          rest = rest_seen m signed t (8 - length items) seen next target h s;
          counted = e ∙ sym (ap (λ k. counted_more k searches) (searches_seen m signed t (8 - length items) seen next target h s));
        }

    pub ends_unfound : (target : Name) → length items < 8 → next ≡ Some target → list_any (name_eq target) seen ≡ false → found m signed target t ≡ None → after ≡ one_more searches
        → Ended items seen next searches after
    ends_unfound target room h s f e =
        let d : 8 - length items ≡ suc (7 - length items) = omega (arith, room) in
        record {
          rest = rest_unfound m signed t (8 - length items) seen next target h f;
          counted = e ∙ sym (ap (λ k. counted_more k searches) (searches_unfound m signed t (8 - length items) (7 - length items) seen next target d h s f));
        }

  module _ (items : List Found) (seen : List Name) (next : Option Name) (searches after : ℕ) (g : Goes items seen next searches) (e : Ended items seen next searches after) where
    pub is_chain : map found_set items ≡ chain m signed n (found_set first) t
    is_chain =
        sym (append-nil (map found_set items))
        ∙ sym (ap (λ r. map found_set items ++ map (λ (e : Name × RRset). e.1) r) e.rest) ∙ g.sets
        ∙ sym (ap (map (λ (e : Name × RRset). e.1)) (chain_begins m signed t n (found_set first)))

    pub is_lent : map lent_set items ≡ lent_set first ∷ map (λ (e : Name × RRset). direct m e.0 t) (drop 1 (chain_links m signed n (found_set first) t))
    is_lent =
        sym (append-nil (map lent_set items))
        ∙ sym (ap (λ r. map lent_set items ++ map (λ (e : Name × RRset). direct m e.0 t) r) e.rest) ∙ g.lent
        ∙ sym (ap (λ r. lent_set first ∷ map (λ (e : Name × RRset). direct m e.0 t) (drop 1 r)) (chain_begins m signed t n (found_set first)))

    pub is_counted : after ≡ counted_more (chain_searches m signed n (found_set first) t) before
    is_counted = e.counted ∙ g.count ∙ ap (λ k. counted_more k before) (searches_are m signed t n (found_set first))
