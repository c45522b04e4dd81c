-- The passes over the keys of a zone: which sets stand below a DNAME, and which nobody signs
use Rattle.std.proofs.Common.{◌≡◌, ℕ, ◌==◌, ◌&&◌, ◌||◌, not, Bool, true, false, cond, List, [], ◌∷◌, ◌++◌, refl, sym, ap, ◌∙◌, subst, true≢false, ◌⊎◌, inl, inr, append_assoc, append-nil, arith}
use Rattle.std.specs.Prelude.{Option, Some, None, filter, filter_map, option_map}
use Rattle.std.specs.Borrow.{Bor}
use Rattle.std.specs.Cmp.{both_ways}
use Rattle.std.specs.List.{list_any, cons_option}
use Rattle.std.specs.List.Sorted.{IsStrictlySortedBy}
use Rattle.std.specs.Map.{keys_of}
use Rattle.std.specs.Option.{option_map_or}
use Rattle.std.proofs.lemmas.Bool.Decides.{nat_tests}
use Rattle.zone_proto.specs.declared.rr_key.RrKey.{RrKey}
use Rattle.zone_proto.specs.Keys.{key, key_cmp}
use Rattle.zone_proto.specs.Names.{Name, is_above, is_at_or_above}
use Rattle.zone_proto.specs.Sets.{RRset}
use Rattle.zone_proto.specs.Types.{NS, DS, NSEC, DNAME, is_derived}
use Rattle.zone_proto.proofs.Members.{In-from_any, any_from_In, In-map, and_left, and_right}
use Rattle.zone_map.specs.Zones.{Sets, owners, owns}
use Rattle.zone_map.proofs.Owned.{has_entry, owner_in, owner_owned}
use Rattle.zone_denial.specs.Authority.{is_below_cut}
use Rattle.zone_denial.specs.Chains.{is_below_dname}
use Rattle.zone_planning.specs.declared.fault.PlanFault.{PlanFault}
use Rattle.zone_planning.specs.declared.fault.PlanFault.TheVariants as fault
use Rattle.zone_planner.specs.Zones.{below, first, is_cut, is_left_out, left_out, set_fault, set_fault_below, sets_fault, top_after}
use Rattle.zone_planner.proofs.Tops.{covered, Passing, begun, here, next}

eq_swap : (a b : ℕ) → (a == b) ≡ (b == a)
eq_swap a b = grind (arith, nat_tests)

-- a name that is lent
pub below_lent : (top : Option (Bor Name)) (n : Name) → option_map_or (λ a. is_above a.now n) top false ≡ below (option_map (λ a. a.now) top) n
below_lent None n = refl
below_lent (Some a) n = refl

-- ---- below a DNAME

abbrev pub is_dname : RrKey → Bool
is_dname k = k.record_type.0 == 39

dnames_cover : (m : Sets) (n : Name) → is_below_dname m n ≡ covered is_dname (keys_of m) n
dnames_cover [] n = refl
dnames_cover (e ∷ m) n = by (DNAME == e.0.record_type.0) (e.0.record_type.0 == 39) (eq_swap DNAME e.0.record_type.0) (dnames_cover m n)
  where
    by : (b c : Bool) → b ≡ c → is_below_dname m n ≡ covered is_dname (keys_of m) n
        → list_any (λ a. is_above a n) (cons_option (cond b (Some e.0.name) None) (owners m DNAME)) ≡ (c && is_above e.0.name n) || covered is_dname (keys_of m) n
    by true true q ih = ap (λ b. is_above e.0.name n || b) ih
    by false false q ih = ih
    by true false q ih = absurd (true≢false q)
    by false true q ih = absurd (true≢false (sym q))

-- what is left of the pass: which sets stand below a DNAME, and the first fault
pub record IsChecking (origin : Name) (m rest : Sets) (dname : Option Name) : Type 0 where
  pub passing : Passing is_dname (is_below_dname m) dname (keys_of rest)
  pub fault : first (filter_map (set_fault origin m) (keys_of rest)) ≡ sets_fault origin m

pub checking_begun : (origin : Name) (m rest : Sets) (dname : Option Name) → IsStrictlySortedBy key_cmp (keys_of m) → rest ≡ m → dname ≡ None → IsChecking origin m rest dname
checking_begun origin m rest dname sorted all none =
    subst (λ (o : Option Name). IsChecking origin m rest o) (sym none)
    (subst (λ (es : Sets). IsChecking origin m es None) (sym all)
    (record { passing = begun is_dname (is_below_dname m) (keys_of m) sorted (λ q i. dnames_cover m q.name); fault = refl }))

module _ (origin : Name) (m rest after : Sets) (e : RrKey × RRset) (dname : Option Name) (is : rest ≡ e ∷ after) (c : IsChecking origin m rest dname) where
  passing : Passing is_dname (is_below_dname m) dname (e.0 ∷ keys_of after)
  passing = subst (λ (es : Sets). Passing is_dname (is_below_dname m) dname (keys_of es)) is c.passing

  -- the fault of the first set is what is found
  same_fault : set_fault_below origin dname e.0 ≡ set_fault origin m e.0
  same_fault =
      ap
      (λ b.
      cond (not (is_at_or_above origin e.0.name)) (Some (fault.Outside e.0.name))
      (cond (is_derived e.0.record_type.0) (Some (fault.Made e.0.name e.0.record_type)) (cond b (Some (fault.BelowDname e.0.name)) None)))
      (sym (here is_dname (is_below_dname m) dname e.0 (keys_of after) passing))

  all_faults : first (cons_option (set_fault origin m e.0) (filter_map (set_fault origin m) (keys_of after))) ≡ sets_fault origin m
  all_faults = ap (λ (es : Sets). first (filter_map (set_fault origin m) (keys_of es))) (sym is) ∙ c.fault

  pub checking_fault : (f : PlanFault) → set_fault_below origin dname e.0 ≡ Some f → sets_fault origin m ≡ Some f
  checking_fault f h = sym all_faults ∙ ap (λ (o : Option PlanFault). first (cons_option o (filter_map (set_fault origin m) (keys_of after)))) (sym same_fault ∙ h)

  pub checking_next : (new : Option Name) → set_fault_below origin dname e.0 ≡ None → new ≡ top_after is_dname dname e.0 → IsChecking origin m after new
  checking_next new none is_new = record {
    passing = subst (λ (o : Option Name). Passing is_dname (is_below_dname m) o (keys_of after)) (sym is_new) (next is_dname (is_below_dname m) dname e.0 (keys_of after) passing);
    fault = ap (λ (o : Option PlanFault). first (cons_option o (filter_map (set_fault origin m) (keys_of after)))) (sym none ∙ same_fault) ∙ all_faults;
  }

pub checking_done : (origin : Name) (m rest : Sets) (dname : Option Name) → rest ≡ [] → IsChecking origin m rest dname → sets_fault origin m ≡ None
checking_done origin m rest dname none c = sym c.fault ∙ ap (λ (es : Sets). first (filter_map (set_fault origin m) (keys_of es))) none

-- ---- what nobody signs

abbrev pub cut_key : Name → Sets → RrKey → Bool
cut_key origin m k = is_cut origin m k.name

cuts_cover : (origin : Name) (m : Sets) (n : Name) → is_below_cut origin m n ≡ covered (cut_key origin m) (keys_of m) n
cuts_cover origin m n = both_ways (is_below_cut origin m n) (covered (cut_key origin m) (keys_of m) n) to from
  where
    to : is_below_cut origin m n ≡ true → covered (cut_key origin m) (keys_of m) n ≡ true
    to h =
        let r = In-from_any (λ a. is_above origin a && is_above a n) (owners m NS) h in
        let owned = owner_owned m r.0 NS r.1 in
        let entry = has_entry m r.0 NS owned in
        let above = and_left (is_above origin r.0) (is_above r.0 n) r.2 in
        let under = and_right (is_above origin r.0) (is_above r.0 n) r.2 in
        any_from_In (λ (k : RrKey). cut_key origin m k && is_above k.name n) (key r.0 NS) (keys_of m)
        (In-map (λ (e : RrKey × RRset). e.0) (key r.0 NS, entry.0) m entry.1)
        (λ i. (above i && owned i) && under i)

    from : covered (cut_key origin m) (keys_of m) n ≡ true → is_below_cut origin m n ≡ true
    from h =
        let r = In-from_any (λ (k : RrKey). cut_key origin m k && is_above k.name n) (keys_of m) h in
        let cut = and_left (cut_key origin m r.0) (is_above r.0.name n) r.2 in
        let under = and_right (cut_key origin m r.0) (is_above r.0.name n) r.2 in
        let above = and_left (is_above origin r.0.name) (owns m r.0.name NS) cut in
        let owned = and_right (is_above origin r.0.name) (owns m r.0.name NS) cut in
        any_from_In (λ a. is_above origin a && is_above a n) r.0.name (owners m NS) (owner_in m r.0.name NS owned) (λ i. above i && under i)

-- it is so of a name, if there is one
abbrev pub IfName : (Name → Type 0) → Option Name → Type 0
IfName P None = Unit {0}
IfName P (Some n) = P n

-- what is left of the pass: the keys that are to come, and what is known of names
pub record IsLeaving (origin : Name) (m rest : Sets) (cut no_cut : Option Name) (keys : List RrKey) : Type 0 where
  pub passing : Passing (cut_key origin m) (is_below_cut origin m) cut (keys_of rest)
  pub list : keys ++ filter (is_left_out origin m) (keys_of rest) ≡ left_out origin m
  pub is_one : IfName (λ n. is_cut origin m n ≡ true) cut
  pub is_none : IfName (λ n. is_cut origin m n ≡ false) no_cut

pub leaving_begun : (origin : Name) (m rest : Sets) (cut no_cut : Option Name) (keys : List RrKey) → IsStrictlySortedBy key_cmp (keys_of m) → rest ≡ m → cut ≡ None → no_cut ≡ None → keys ≡ []
    → IsLeaving origin m rest cut no_cut keys
leaving_begun origin m rest cut no_cut keys sorted all none none' empty =
    subst (λ (ks : List RrKey). IsLeaving origin m rest cut no_cut ks) (sym empty)
    (subst (λ (o : Option Name). IsLeaving origin m rest cut o []) (sym none')
    (subst (λ (o : Option Name). IsLeaving origin m rest o None []) (sym none)
    (subst (λ (es : Sets). IsLeaving origin m es None None []) (sym all)
    (record {
      passing = begun (cut_key origin m) (is_below_cut origin m) (keys_of m) sorted (λ q i. cuts_cover origin m q.name);
      list = refl;
      is_one = tt;
      is_none = tt;
    }))))

-- the keys behind a first one that is left out, or isn't
left_first : (p : RrKey → Bool) (made more : List RrKey) (k : RrKey) (ks all : List RrKey) → p k ≡ true → more ≡ made ++ k ∷ [] → made ++ filter p (k ∷ ks) ≡ all → more ++ filter p ks ≡ all
left_first p made more k ks all h pushed so =
    ap (λ (xs : List RrKey). xs ++ filter p ks) pushed ∙ append_assoc made (k ∷ []) (filter p ks)
    ∙ ap (λ (xs : List RrKey). made ++ xs) (sym (ap (λ b. cond b (k ∷ filter p ks) (filter p ks)) h)) ∙ so

passed_first : (p : RrKey → Bool) (made : List RrKey) (k : RrKey) (ks all : List RrKey) → p k ≡ false → made ++ filter p (k ∷ ks) ≡ all → made ++ filter p ks ≡ all
passed_first p made k ks all h so = ap (λ (xs : List RrKey). made ++ xs) (sym (ap (λ b. cond b (k ∷ filter p ks) (filter p ks)) h)) ∙ so

module _ (origin : Name) (m rest after : Sets) (e : RrKey × RRset) (cut no_cut : Option Name) (keys : List RrKey) (is : rest ≡ e ∷ after) (l : IsLeaving origin m rest cut no_cut keys) where
  here_passing : Passing (cut_key origin m) (is_below_cut origin m) cut (e.0 ∷ keys_of after)
  here_passing = subst (λ (es : Sets). Passing (cut_key origin m) (is_below_cut origin m) cut (keys_of es)) is l.passing

  is_under : is_below_cut origin m e.0.name ≡ below cut e.0.name
  is_under = here (cut_key origin m) (is_below_cut origin m) cut e.0 (keys_of after) here_passing

  here_keys : keys ++ filter (is_left_out origin m) (e.0 ∷ keys_of after) ≡ left_out origin m
  here_keys = ap (λ (es : Sets). keys ++ filter (is_left_out origin m) (keys_of es)) (sym is) ∙ l.list

  after_passing : Passing (cut_key origin m) (is_below_cut origin m) (top_after (cut_key origin m) cut e.0) (keys_of after)
  after_passing = next (cut_key origin m) (is_below_cut origin m) cut e.0 (keys_of after) here_passing

  -- the last cut stays where the name stands below it, or isn't one itself
  stays : below cut e.0.name ≡ true ⊎ (is_cut origin m e.0.name ≡ false) → top_after (cut_key origin m) cut e.0 ≡ cut
  stays (inl h) = ap (λ b. cond (is_cut origin m e.0.name && not b) (Some e.0.name) cut) h ∙ never (is_cut origin m e.0.name)
    where
      never : (b : Bool) → cond (b && false) (Some e.0.name) cut ≡ cut
      never true = refl
      never false = refl
  stays (inr h) = ap (λ b. cond (b && not (below cut e.0.name)) (Some e.0.name) cut) h

  -- a name below a zone cut
  pub leaving_below : (more : List RrKey) → below cut e.0.name ≡ true → more ≡ keys ++ e.0 ∷ [] → IsLeaving origin m after cut no_cut more
  leaving_below more h pushed = record {
    passing = subst (λ (o : Option Name). Passing (cut_key origin m) (is_below_cut origin m) o (keys_of after)) (stays (inl h)) after_passing;
    list =
        left_first (is_left_out origin m) keys more e.0 (keys_of after) (left_out origin m)
        (ap (λ b. b || (is_cut origin m e.0.name && not ((e.0.record_type.0 == DS) || (e.0.record_type.0 == NSEC)))) (is_under ∙ h)) pushed here_keys;
    is_one = l.is_one;
    is_none = l.is_none;
  }

  module _ (apart : below cut e.0.name ≡ false) where
    -- one that is none
    pub leaving_none : is_cut origin m e.0.name ≡ false → IsLeaving origin m after cut (Some e.0.name) keys
    leaving_none h = record {
      passing = subst (λ (o : Option Name). Passing (cut_key origin m) (is_below_cut origin m) o (keys_of after)) (stays (inr h)) after_passing;
      list =
          passed_first (is_left_out origin m) keys e.0 (keys_of after) (left_out origin m)
          ((λ i. (is_under ∙ apart) i || (h i && not ((e.0.record_type.0 == DS) || (e.0.record_type.0 == NSEC))))) here_keys;
      is_one = l.is_one;
      is_none = h;
    }

    module _ (one : is_cut origin m e.0.name ≡ true) where
      taken : top_after (cut_key origin m) cut e.0 ≡ Some e.0.name
      taken = λ i. cond (one i && not (apart i)) (Some e.0.name) cut

      by_type : is_left_out origin m e.0 ≡ not ((e.0.record_type.0 == DS) || (e.0.record_type.0 == NSEC))
      by_type = λ i. (is_under ∙ apart) i || (one i && not ((e.0.record_type.0 == DS) || (e.0.record_type.0 == NSEC)))

      now_passing : Passing (cut_key origin m) (is_below_cut origin m) (Some e.0.name) (keys_of after)
      now_passing = subst (λ (o : Option Name). Passing (cut_key origin m) (is_below_cut origin m) o (keys_of after)) taken after_passing

      -- a zone cut, and a set of the parent's there
      pub leaving_parents : (e.0.record_type.0 == DS) || (e.0.record_type.0 == NSEC) ≡ true → IsLeaving origin m after (Some e.0.name) no_cut keys
      leaving_parents h = record {
        passing = now_passing;
        list = passed_first (is_left_out origin m) keys e.0 (keys_of after) (left_out origin m) (by_type ∙ ap not h) here_keys;
        is_one = one;
        is_none = l.is_none;
      }

      -- or another
      pub leaving_cut : (more : List RrKey) → (e.0.record_type.0 == DS) || (e.0.record_type.0 == NSEC) ≡ false → more ≡ keys ++ e.0 ∷ [] → IsLeaving origin m after (Some e.0.name) no_cut more
      leaving_cut more h pushed = record {
        passing = now_passing;
        list = left_first (is_left_out origin m) keys more e.0 (keys_of after) (left_out origin m) (by_type ∙ ap not h) pushed here_keys;
        is_one = one;
        is_none = l.is_none;
      }

pub leaving_done : (origin : Name) (m rest : Sets) (cut no_cut : Option Name) (keys : List RrKey) → rest ≡ [] → IsLeaving origin m rest cut no_cut keys → keys ≡ left_out origin m
leaving_done origin m rest cut no_cut keys none l =
    sym (append-nil keys) ∙ ap (λ (es : Sets). keys ++ filter (is_left_out origin m) (keys_of es)) (sym none) ∙ l.list
