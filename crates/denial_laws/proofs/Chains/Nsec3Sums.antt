-- What a validator sums up of a name's own denial by NSEC3 is the case that the zone has
use Rattle.std.proofs.Common.{◌≡◌, ℕ, suc, Bool, true, false, cond, not, ◌&&◌, ◌||◌, List, [], ◌∷◌, ◌++◌, length, drop, refl, sym, ap, ◌∙◌, subst, true≢false, ◌⊎◌, inl, inr, arith, eqb-true}
use Rattle.std.specs.Prelude.{Option, Some, None, ◌==◌}
use Rattle.std.specs.List.{Contains}
use Rattle.std.specs.Option.{option_map_or, option_or}
use Rattle.std.proofs.lemmas.List.{length-append}
use Rattle.zone_proto.specs.declared.rdata.denial.NSEC3PARAM.{NSEC3PARAM as Nsec3Parameters}
use Rattle.zone_proto.specs.Names.{Name, is_above, is_at_or_above, suffixes, IsAtOrAbove, IsAbove, proper_ancestors, wildcard_under}
use Rattle.zone_proto.specs.Sets.{RRset}
use Rattle.zone_proto.specs.Types.{NS, DS}
use Rattle.zone_proto.proofs.Members.{In, In-Contains, In-from_any, and_left, and_right, not_true, or_left}
use Rattle.zone_proto.proofs.Names.NameTree.{above_test, at_or_above_from_suffix, is_at_or_above_sound}
use Rattle.zone_proto.proofs.Names.Tree.{above_cases}
use Rattle.zone_map.specs.AnyTypes.{searched_type}
use Rattle.zone_map.specs.SearchLaws.{WildcardIsOfClosestEncloser}
use Rattle.zone_map.specs.Wildcards.{found, asked_wildcard, asked_wildcard_exists}
use Rattle.zone_map.specs.Zones.{Sets, owns, owns_at_or_below}
use Rattle.zone_map.proofs.Delegations.{found_above}
use Rattle.zone_map.proofs.Wildcards.{wildcard_is_of_closest_encloser}
use Rattle.zone_denial.specs.Nsec3Denial.{encloser_on}
use Rattle.zone_denial.specs.Nsec3Laws.{CoversCloser, Denies}
use Rattle.zone_denial.specs.Nsec3Zones.{IsHashedOn}
use Rattle.zone_denial.proofs.Names.LongestAncestors.{above_below, above_shorter}
use Rattle.zone_denial.proofs.Chains.Nsec3Names.{is_named, named_in, in_named, origin_in, IsEnclosed}
use Rattle.zone_denial.proofs.Chain.NsecBelow.{above_at, above_through}
use Rattle.zone_lookup.specs.Replies.{name_exists, nx_domain, negative_answer}
use Rattle.denial_validation.specs.declared.proof.Proof.{Proof}
use Rattle.denial_validation.specs.declared.proof.Proof.TheVariants.{WildcardAnswer}
use Rattle.denial_validation.specs.Encloser.{next_closer}
use Rattle.denial_validation.specs.Judgement.{nsec3_proof}
use Rattle.denial_validation.specs.Nsec3Proofs.{is_of_encloser, denies_type, matches, is_covered, is_opted_out, is_denied, is_handing_on, is_handed_on, proves_name_error, proves_no_data, proves_opted_out, proves_wildcard_no_data, proves_wildcard_answer, shows_unsigned_delegation, wildcard_answer}
use Rattle.denial_validation.specs.Nsec3Records.{Nsec3Record}
use Rattle.denial_validation.proofs.WildcardAnswers.{answers_end, answers_on}
use Rattle.denial_laws.specs.Nsec3Scope.{read_nsec3_sets, AreNsec3OfZone}
use Rattle.denial_laws.specs.Nsec3Chains.{IsInNsec3ScopeOfChain}
use Rattle.denial_laws.specs.Soundness.{IsUnflattened}
use Rattle.denial_laws.specs.Sums.{is_unsigned, AreAnswersSummedUp, IsNsec3SummedUpOn}
use Rattle.denial_laws.proofs.Chains.Nsec3EmptyAnswers.{error_accepted, no_data, wildcard_no_data, delegation_accepted, wildcard_accepted, asked_wildcard_proved, nsec3_wildcard_error_accepted}
use Rattle.denial_laws.proofs.Chains.Nsec3Judging.{exists_is, there_is, plain_x, asked_only, of_encloser}
use Rattle.denial_laws.proofs.Chains.Nsec3NameErrors.{enclosed, over, nsec3_error_denied}
use Rattle.denial_laws.proofs.Chains.Nsec3Proved.{ancestor_named, self_hashed, uncovered, matching}
use Rattle.denial_laws.proofs.Nsec3Proved.{sides}
use Rattle.denial_laws.proofs.Nsec3Sums.{kept, steps}
use Rattle.denial_laws.proofs.Chains.Nsec3Readings.{record_of, of_name}
use Rattle.denial_laws.proofs.Chains.Nsec3Soundness.{no_flag, not_opted_out, nsec3_unsigned_delegation_sound, nsec3_wildcard_no_data_sound}
use Rattle.denial_laws.proofs.OwnTypes.{neither}
use Rattle.denial_laws.proofs.Soundness.{there_from, present}
use Rattle.denial_laws.proofs.Sums.{cut_of, not_cut}
use Rattle.denial_laws.proofs.Tests.{refuted, right_false}

module _ {origin : Name} {beside m : Sets} {hash : Name → Option (List ℕ)} {parameters : Nsec3Parameters} {names : List Name} {x : Name} (j : IsInNsec3ScopeOfChain origin beside m hash parameters names x) (rs : List Nsec3Record) (of_zone : AreNsec3OfZone m rs) where
  of_names : (r : Nsec3Record) → In r rs → (n : Name) × In n names × (r ≡ record_of j.zone j.apart n)
  of_names = of_name j.zone j.apart rs of_zone

  inside : IsAtOrAbove origin x
  inside = is_at_or_above_sound origin x j.inside

  -- ---- what isn't proved

  no_error : negative_answer origin m x ≡ name_exists → proves_name_error origin hash rs x ≡ false
  no_error e = refuted (proves_name_error origin hash rs x) (λ p. differ (sym e ∙ nsec3_error_denied origin beside m hash parameters names rs x j of_zone p))
    where
      differ : name_exists ≡ nx_domain → ⊥
      differ q = cc

  none_out : proves_opted_out origin hash rs x ≡ false
  none_out = not_opted_out j.zone j.all_in j.apart rs of_zone

  no_delegation : is_unsigned m x ≡ false → shows_unsigned_delegation origin hash rs x ≡ false
  no_delegation e =
      refuted (shows_unsigned_delegation origin hash rs x)
      (λ p. let d = nsec3_unsigned_delegation_sound origin beside m hash parameters names rs x j.zone j.apart of_zone p in
      true≢false (sym (λ i. d.delegated i && not (d.unsigned i) && not (d.no_apex i)) ∙ e))

  unmatched_data : (t : ℕ) → is_named names x ≡ false → proves_no_data origin hash rs x t ≡ false
  unmatched_data t off =
      right_false (is_at_or_above origin x) (is_denied origin hash rs x t)
      (refuted (is_denied origin hash rs x t)
      (λ e. let r = In-from_any (λ r. matches origin hash r x && denies_type origin r x t) rs e in
      true≢false
      (sym (in_named names x (matching j.zone j.apart rs of_names x (self_hashed names origin j.zone.begins x inside) r.0 r.1 (and_left (matches origin hash r.0 x) (denies_type origin r.0 x t) r.2)).0) ∙ off)))

  -- an ancestor of x in the zone is hashed
  ancestor_hashed : (a : Name) → IsAtOrAbove origin a → IsAbove a x → IsHashedOn names x a
  ancestor_hashed a u v = by (is_named names x) refl
    where
      upper : (y : Name) → In y names → IsAtOrAbove a y → (origin ≡ a) ⊎ IsAbove origin a → IsHashedOn names x a
      upper y i w (inl e) = inl (In-Contains a names (subst (λ n. In n names) e (origin_in names origin j.zone.begins)))
      upper y i w (inr o) = inl (In-Contains a names (ancestor_named j.zone a y i w o))

      by : (b : Bool) → is_named names x ≡ b → IsHashedOn names x a
      by true on = upper x (named_in names x on) (above_at a x v) (above_cases origin a u)
      by false off = of (sides x a n.0 (above_at a x v) n.2.above)
        where
          n : (a : Name) × (c : Name) × IsEnclosed names x a c
          n = enclosed j off

          of : IsAbove a n.0 ⊎ ((a ≡ n.0) ⊎ IsAbove n.0 a) → IsHashedOn names x a
          of (inl w) = upper n.0 n.2.on (above_at a n.0 w) (above_cases origin a u)
          of (inr (inl e)) = inl (In-Contains a names (subst (λ y. In y names) (sym e) n.2.on))
          of (inr (inr w)) = inr (n.0, n.2.is_encloser, inl (above_at a x v, above_at n.0 a w))

  not_handed : is_handed_on origin hash rs x ≡ false
  not_handed = refuted (is_handed_on origin hash rs x) (λ e. of (In-from_any (λ a. is_at_or_above origin a && is_handing_on origin hash rs a) (proper_ancestors x) e))
    where
      ancestor : (y a : Name) → In a (proper_ancestors y) → IsAbove a y
      ancestor [] a i = absurd i
      ancestor (l ∷ ls) a i = let u = at_or_above_from_suffix ls a (In-Contains a (suffixes ls) i) in (l, u.0, ap (λ (n : Name). l ∷ n) u.1)

      of : (a : Name) × In a (proper_ancestors x) × (is_at_or_above origin a && is_handing_on origin hash rs a ≡ true) → ⊥
      of (a, i, p) =
          true≢false
          (sym (of_encloser j a own.0 u v)
          ∙ ap is_of_encloser (sym own.1)
          ∙ not_true (is_of_encloser r.0) (and_right (matches origin hash r.0 a) (not (is_of_encloser r.0)) r.2))
        where
          u : IsAtOrAbove origin a
          u = is_at_or_above_sound origin a (and_left (is_at_or_above origin a) (is_handing_on origin hash rs a) p)

          v : IsAbove a x
          v = ancestor x a i

          r : (r : Nsec3Record) × In r rs × (matches origin hash r a && not (is_of_encloser r) ≡ true)
          r = In-from_any (λ r. matches origin hash r a && not (is_of_encloser r)) rs (and_right (is_at_or_above origin a) (is_handing_on origin hash rs a) p)

          own : In a names × (r.0 ≡ record_of j.zone j.apart a)
          own = matching j.zone j.apart rs of_names a (ancestor_hashed a u v) r.0 r.1 (and_left (matches origin hash r.0 a) (not (is_of_encloser r.0)) r.2)

  -- ---- where a wildcard is asked

  module _ (e : Name) (asked : asked_wildcard m x ≡ Some (wildcard_under e)) (covers_closer : proves_wildcard_answer origin hash rs x e ≡ true) where
    law : WildcardIsOfClosestEncloser
    law = wildcard_is_of_closest_encloser

    away : is_named names x ≡ false
    away = sym (exists_is j x inside j.uncut (plain_x j)) ∙ law.absent m x (wildcard_under e) asked

    n : (a : Name) × (c : Name) × IsEnclosed names x a c
    n = enclosed j away

    same : e ≡ n.0
    same = ap (drop 1) (asked_only j n.0 n.2.is_encloser (over j away) (wildcard_under e) asked).0

    on : In e names
    on = subst (λ a. In a names) (sym same) n.2.on

    e_inside : IsAtOrAbove origin e
    e_inside = is_at_or_above_sound origin e (and_left (is_at_or_above origin e) (is_above e x) (and_left (is_at_or_above origin e && is_above e x) (option_map_or (is_covered origin hash rs) (next_closer x e) false) covers_closer))

    -- the next closer name is covered, and has one label more
    closer : (l : List ℕ) × IsAtOrAbove (l ∷ e) x × (is_covered origin hash rs (l ∷ e) ≡ true)
    closer =
        by (next_closer x e) refl (and_right (is_at_or_above origin e && is_above e x) (option_map_or (is_covered origin hash rs) (next_closer x e) false) covers_closer)
      where
        by : (o : Option Name) → next_closer x e ≡ o → option_map_or (is_covered origin hash rs) o false ≡ true → (l : List ℕ) × IsAtOrAbove (l ∷ e) x × (is_covered origin hash rs (l ∷ e) ≡ true)
        by None d k = absurd (true≢false (sym k))
        by (Some c) d k = of (above_cases_of (sides x e c up found.0))
          where
            found : IsAtOrAbove c x × ((length c == suc (length e)) ≡ true)
            found = found_above (λ (s : Name). length s == suc (length e)) x c d

            up : IsAtOrAbove e x
            up = above_at e x ((above_test e x).0 (and_right (is_at_or_above origin e) (is_above e x) (and_left (is_at_or_above origin e && is_above e x) (option_map_or (is_covered origin hash rs) (next_closer x e) false) covers_closer)))

            longer : length c ≡ suc (length e)
            longer = eqb-true (length c) (suc (length e)) found.1

            above_cases_of : IsAbove e c ⊎ ((e ≡ c) ⊎ IsAbove c e) → IsAbove e c
            above_cases_of (inl w) = w
            above_cases_of (inr (inl q)) = absurd (omega (arith, ap length q, longer))
            above_cases_of (inr (inr w)) = absurd (omega (arith, above_shorter c e w, longer))

            of : IsAbove e c → (l : List ℕ) × IsAtOrAbove (l ∷ e) x × (is_covered origin hash rs (l ∷ e) ≡ true)
            of (l, [], q) = (l, subst (λ k. IsAtOrAbove k x) q found.0, ap (is_covered origin hash rs) (sym q) ∙ k)
            of (l, i ∷ f, q) = absurd (omega (arith, ap length q, length-append f e, longer))

    -- of the names above no record says an answer
    no_answer : (y : Name) → IsAtOrAbove y e → wildcard_answer origin hash rs y ≡ None
    no_answer [] u = (neither (wildcard_answer origin hash rs []) None (answers_end origin hash rs [] None refl)).0
    no_answer (l ∷ ls) u = by (is_above origin (l ∷ ls)) refl (no_answer ls (above_through ls (l ∷ ls) e (l ∷ [], refl) u))
      where
        by : (b : Bool) → is_above origin (l ∷ ls) ≡ b → wildcard_answer origin hash rs ls ≡ None → wildcard_answer origin hash rs (l ∷ ls) ≡ None
        by false q more = (neither (wildcard_answer origin hash rs (l ∷ ls)) None (answers_end origin hash rs (l ∷ ls) None q)).0
        by true q more =
            (neither (wildcard_answer origin hash rs (l ∷ ls)) None (answers_on origin hash rs (l ∷ ls) ls false None q (sym uncovered_here) refl ∙ ap (λ o. option_or o None) more)).0
          where
            uncovered_here : is_covered origin hash rs (l ∷ ls) ≡ false
            uncovered_here =
                refuted (is_covered origin hash rs (l ∷ ls))
                (λ c. uncovered j.zone j.apart rs of_names (l ∷ ls) c (ancestor_named j.zone (l ∷ ls) e on u ((above_test origin (l ∷ ls)).0 q)))

    abbrev answer : Proof
    answer = WildcardAnswer (length e) (is_opted_out origin hash rs (closer.0 ∷ e))

    answered : (f : List (List ℕ)) → wildcard_answer origin hash rs (f ++ (closer.0 ∷ e)) ≡ Some answer
    answered [] =
        sym (kept (wildcard_answer origin hash rs (closer.0 ∷ e)))
        ∙ answers_on origin hash rs (closer.0 ∷ e) e true None ((above_test origin (closer.0 ∷ e)).1 (closer.0, e_inside.0, ap (λ (k : Name). closer.0 ∷ k) e_inside.1)) (sym closer.2) refl
        ∙ ap (λ o. option_or o (Some answer)) (no_answer e ([], refl))
    answered (l ∷ f) =
        sym (kept (wildcard_answer origin hash rs (l ∷ (f ++ (closer.0 ∷ e)))))
        ∙ answers_on origin hash rs (l ∷ (f ++ (closer.0 ∷ e))) (f ++ (closer.0 ∷ e)) (is_covered origin hash rs (l ∷ (f ++ (closer.0 ∷ e)))) None above refl refl
        ∙ (λ i. option_or (answered f i) (cond (is_covered origin hash rs (l ∷ (f ++ (closer.0 ∷ e)))) (Some (WildcardAnswer (length (f ++ (closer.0 ∷ e))) (is_opted_out origin hash rs (l ∷ (f ++ (closer.0 ∷ e)))))) None))
      where
        above : is_above origin (l ∷ (f ++ (closer.0 ∷ e))) ≡ true
        above = (above_test origin (l ∷ (f ++ (closer.0 ∷ e)))).1 (above_below origin (closer.0 ∷ e) (l ∷ (f ++ (closer.0 ∷ e))) (closer.0, e_inside.0, ap (λ (k : Name). closer.0 ∷ k) e_inside.1) (l ∷ f, refl))

    answer_is : wildcard_answer origin hash rs x ≡ Some (WildcardAnswer (length e) false)
    answer_is =
        ap (wildcard_answer origin hash rs) closer.1.1 ∙ answered closer.1.0
        ∙ ap (λ b. Some (WildcardAnswer (length e) b)) (no_flag j.zone j.all_in j.apart rs of_zone (closer.0 ∷ e))

    -- and no data by the wildcard isn't proved where something is found
    not_bare : (signed : Bool) (t : ℕ) → IsUnflattened m (wildcard_under e) t → (found m signed x (searched_type m x t) ≡ None → ⊥) → proves_wildcard_no_data origin hash rs x t ≡ false
    not_bare signed t flat some =
        refuted (proves_wildcard_no_data origin hash rs x t)
        (λ p. some ((nsec3_wildcard_no_data_sound origin beside m hash parameters names rs x t j of_zone (law.plain m x (wildcard_under e) asked) of_chain p).none.nothing signed))
      where
        same_value : (a b : Name) → Some a ≡ Some b → a ≡ b
        same_value a b q = cc

        of_chain : (a : Name) → encloser_on names x ≡ Some a → IsUnflattened m (wildcard_under a) t
        of_chain a is = subst (λ b. IsUnflattened m (wildcard_under b) t) (same ∙ same_value n.0 a (sym n.2.is_encloser ∙ is)) flat

    summed_up : (signed : Bool) (t : ℕ) → negative_answer origin m x ≡ name_exists → IsUnflattened m (wildcard_under e) t → (found m signed x (searched_type m x t) ≡ None → ⊥)
        → nsec3_proof origin hash rs x t ≡ Some (WildcardAnswer (length e) false)
    summed_up signed t there flat some i =
        steps (not_handed i) (right_false (t == DS) (proves_opted_out origin hash rs x) none_out i) (no_error there i) (none_out i) (no_delegation (not_cut m x (gone NS)) i) (unmatched_data t away i)
        (not_bare signed t flat some i) (answer_is i)
      where
        gone : (u : ℕ) → owns m x u ≡ false
        gone u = refuted (owns m x u) (λ k. true≢false (sym (there_from m x u k) ∙ there_is j ∙ away))

-- ---- the denial of a name

pub nsec3_wildcard_summed_up : (origin : Name) (beside m : Sets) (hash : Name → Option (List ℕ)) (parameters : Nsec3Parameters) (names : List Name) (x : Name) → IsInNsec3ScopeOfChain origin beside m hash parameters names x
    → (answer : List RRset) → AreNsec3OfZone m (read_nsec3_sets answer) → ((Contains names x → ⊥) → CoversCloser origin m hash names x answer) → AreAnswersSummedUp origin m hash x (read_nsec3_sets answer)
nsec3_wildcard_summed_up origin beside m hash parameters names x j answer of_zone given signed t e asked there flat some =
    summed_up j (read_nsec3_sets answer) of_zone e asked
    (asked_wildcard_proved j answer given e asked) signed t there flat some

pub nsec3_denial_summed_up : (origin : Name) (beside m : Sets) (hash : Name → Option (List ℕ)) (parameters : Nsec3Parameters) (names : List Name) (x : Name) → IsInNsec3ScopeOfChain origin beside m hash parameters names x
    → (answer : List RRset) → AreNsec3OfZone m (read_nsec3_sets answer) → Denies origin m hash names x answer → IsNsec3SummedUpOn origin beside m hash names x (read_nsec3_sets answer)
nsec3_denial_summed_up origin beside m hash parameters names x j answer of_zone given = record {
  error = λ t plain e i.
      steps (not_handed j rs of_zone i) (none_first t i) (error_accepted j answer of_zone given plain e i) (none_out j rs of_zone i) (shows_unsigned_delegation origin hash rs x) (proves_no_data origin hash rs x t)
      (proves_wildcard_no_data origin hash rs x t) (wildcard_answer origin hash rs x);
  wildcard_error = λ t a is unsynthesized e i.
      steps (not_handed j rs of_zone i) (none_first t i) (nsec3_wildcard_error_accepted origin beside m hash parameters names x a j is unsynthesized e answer of_zone given i) (none_out j rs of_zone i) (shows_unsigned_delegation origin hash rs x)
      (proves_no_data origin hash rs x t) (proves_wildcard_no_data origin hash rs x t) (wildcard_answer origin hash rs x);
  delegation = λ t e i.
      steps (not_handed j rs of_zone i) (none_first t i) (no_error j rs of_zone (is_present (there_from m x NS (cut_of m x e).0)) i) (none_out j rs of_zone i) (delegated e i) (proves_no_data origin hash rs x t)
      (proves_wildcard_no_data origin hash rs x t) (wildcard_answer origin hash rs x);
  data' = λ signed t type' some cut nothing i.
      steps (not_handed j rs of_zone i) (none_first t i) (no_error j rs of_zone (is_present some) i) (none_out j rs of_zone i) (no_delegation j rs of_zone cut i)
      (no_data j answer of_zone given signed t type' nothing (sym (there_is j) ∙ some) i) (proves_wildcard_no_data origin hash rs x t) (wildcard_answer origin hash rs x);
  wildcard_data = λ signed t type' none e nothing i.
      steps (not_handed j rs of_zone i) (none_first t i) (no_error j rs of_zone e i) (none_out j rs of_zone i) (no_delegation j rs of_zone (not_cut m x (gone none NS)) i)
      (unmatched_data j rs of_zone t (sym (there_is j) ∙ none) i) (wildcard_no_data j answer of_zone given signed t type' nothing e none i) (wildcard_answer origin hash rs x);
  answer = λ signed t e asked. summed_up j rs of_zone e asked (wildcard_accepted j answer of_zone given e asked) signed t;
}
  where
    rs : List Nsec3Record
    rs = read_nsec3_sets answer

    none_first : (t : ℕ) → (t == DS) && proves_opted_out origin hash rs x ≡ false
    none_first t = right_false (t == DS) (proves_opted_out origin hash rs x) (none_out j rs of_zone)

    is_present : owns_at_or_below m x ≡ true → negative_answer origin m x ≡ name_exists
    is_present e = present origin m x (or_left (owns_at_or_below m x) (asked_wildcard_exists m x) e)

    gone : owns_at_or_below m x ≡ false → (u : ℕ) → owns m x u ≡ false
    gone none u = refuted (owns m x u) (λ k. true≢false (sym (there_from m x u k) ∙ none))

    delegated : is_unsigned m x ≡ true → shows_unsigned_delegation origin hash rs x ≡ true
    delegated e = by (shows_unsigned_delegation origin hash rs x) (let c = cut_of m x e in delegation_accepted j answer of_zone given c.0 c.1 c.2)
      where
        by : (b : Bool) → b || proves_opted_out origin hash rs x ≡ true → b ≡ true
        by true p = refl
        by false p = absurd (true≢false (sym p ∙ none_out j rs of_zone))
