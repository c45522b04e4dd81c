-- Each name at or below a name that is below a zone cut is referred as this one is
use Rattle.std.proofs.Common.{◌≡◌, ℕ, ◌<◌, ◌≤◌, ◌&&◌, ◌||◌, ◌==◌, Bool, true, false, cond, not, [], ◌∷◌, ◌++◌, length, refl, sym, ap, ◌∙◌, subst, append_assoc, arith, length-append}
use Rattle.std.specs.Option.{option_map_or, option_or}
use Rattle.std.specs.Prelude.{Option, Some, None, option_map}
use Rattle.zone_proto.specs.Names.{Name, is_at_or_above, name_eq}
use Rattle.zone_proto.specs.Sets.{RRset}
use Rattle.zone_proto.specs.Types.{IN, NS, DS, SOA, DNAME}
use Rattle.zone_proto.specs.declared.response_code.ResponseCode.{ResponseCode}
use Rattle.zone_proto.specs.declared.response_code.ResponseCode.TheVariants as code
use Rattle.zone_proto.proofs.Names.NameTree.{name_eq-Decides, is_at_or_above_complete, is_at_or_above_sound}
use Rattle.zone_map.specs.Zones.{Sets, set_at}
use Rattle.zone_response.specs.Descent.{Diversion, cut, renaming, dname_at, diversion, diversion_at, diversion_down_to}
use Rattle.zone_response.specs.Paths.{ended, behind, path, path_from, searched, unless_answered}
use Rattle.zone_response.specs.Queries.{Zone, Query, Inquiry, inquiry}
use Rattle.zone_response.specs.QueryTypes.{is_no_data}
use Rattle.zone_response.specs.Responses.{answered, authority_sets, lacks_proofs, outcome, outcome_along, outcome_of, refusal, refused, unprovable, without_soa, Outcome, IsResponse, IsResponseTo}
use Rattle.zone_response.specs.Steps.{referred, Step}
use Rattle.zone_response.proofs.PathSteps.{unseen}
use Rattle.zone_response.proofs.StepCases.{inside_step}
use Rattle.zone_response.proofs.TurnWalk.{other_size}
use Rattle.ready_referrals.specs.Referrals.{referral, NamesBelowACutAreReferredAlike}

-- ---- the way down

unaffected : (b c : Bool) (o : Option RRset) → cond (b || (c && false)) None o ≡ cond b None o
unaffected true c o = refl
unaffected false true o = refl
unaffected false false o = refl

-- what turns first stays
stays_first : (d : Diversion) (o p r : Option Diversion) → (p ≡ Some d → r ≡ Some d) → option_or o p ≡ Some d → option_or o r ≡ Some d
stays_first d None p r f h = f h
stays_first d (Some y) p r f h = h

-- what a name turns that is a cut, or nothing, doesn't depend on its DNAME set
same_cut : (ns : RRset) (b : Bool) (k d e : Option RRset) → cond b (option_or (option_map cut k) (option_map renaming d)) None ≡ Some (cut ns) → d ≡ None
    → cond b (option_or (option_map cut k) (option_map renaming e)) None ≡ Some (cut ns)
same_cut ns true (Some s) d e h none = h
same_cut ns true None d e h none = absurd (by (sym (ap (λ o. option_map renaming o) none) ∙ h))
  where
    by : ◌≡◌ {A = Option Diversion} None (Some (cut ns)) → ⊥
    by f = cc
same_cut ns false k d e h none = absurd (by h)
  where
    by : ◌≡◌ {A = Option Diversion} None (Some (cut ns)) → ⊥
    by f = cc

module _ (origin : Name) (m : Sets) (c x : Name) (t : ℕ) where
  -- what turns a search at a name above both
  same_at : (a : Name) → name_eq a x ≡ false → name_eq a c ≡ false → diversion_at origin m x t a ≡ diversion_at origin m c NS a
  same_at a below_it below =
      (λ i. cond (is_at_or_above origin a)
      (option_or (option_map cut (cond (name_eq a origin || (below_it i && (t == DS))) None (set_at m a NS))) (option_map renaming (cond (below_it i) None (set_at m a DNAME)))) None)
      ∙ sym
      (λ i. cond (is_at_or_above origin a)
      (option_or (option_map cut (cond (name_eq a origin || (below i && (NS == DS))) None (set_at m a NS))) (option_map renaming (cond (below i) None (set_at m a DNAME)))) None)

  same_down : (a : Name) → length a < length c → length c ≤ length x → diversion_down_to origin m x t a ≡ diversion_down_to origin m c NS a
  same_down [] short le = same_at [] (other_size [] x (λ e. omega (arith, short, le, e))) (other_size [] c (λ e. omega (arith, short, e)))
  same_down (l ∷ a) short le = λ i.
      option_or (same_down a (omega (arith, short)) le i)
      (same_at (l ∷ a) (other_size (l ∷ a) x (λ e. omega (arith, short, le, e))) (other_size (l ∷ a) c (λ e. omega (arith, short, e))) i)

  module _ (ns : RRset) (other : (t == DS) ≡ false) where
    abbrev own : Option RRset
    own = cond (name_eq c origin) None (set_at m c NS)

    -- at the name itself
    turns_at : diversion_at origin m c NS c ≡ Some (cut ns) → diversion_at origin m x t c ≡ Some (cut ns)
    turns_at h =
        let here : diversion_at origin m c NS c ≡ cond (is_at_or_above origin c) (option_or (option_map cut own) (option_map renaming (dname_at m c c))) None =
        ap (λ o. cond (is_at_or_above origin c) (option_or (option_map cut o) (option_map renaming (dname_at m c c))) None) (unaffected (name_eq c origin) (name_eq c c) (set_at m c NS)) in
        let there : diversion_at origin m x t c ≡ cond (is_at_or_above origin c) (option_or (option_map cut own) (option_map renaming (dname_at m x c))) None =
        ap (λ o. cond (is_at_or_above origin c) (option_or (option_map cut o) (option_map renaming (dname_at m x c))) None)
        ((λ i. cond (name_eq c origin || (name_eq c x && other i)) None (set_at m c NS)) ∙ unaffected (name_eq c origin) (name_eq c x) (set_at m c NS)) in
        there ∙ same_cut ns (is_at_or_above origin c) own (dname_at m c c) (dname_at m x c) (sym here ∙ h) none
      where
        none : dname_at m c c ≡ None
        none = ap (λ b. cond b None (set_at m c DNAME)) ((name_eq-Decides c c).1 refl)

    turns_there : (a : Name) → a ≡ c → diversion_at origin m c NS a ≡ Some (cut ns) → diversion_at origin m x t a ≡ Some (cut ns)
    turns_there a e = subst (λ n. diversion_at origin m c NS n ≡ Some (cut ns) → diversion_at origin m x t n ≡ Some (cut ns)) (sym e) turns_at

    turns_down : length c ≤ length x → (a : Name) → a ≡ c → diversion_down_to origin m c NS a ≡ Some (cut ns) → diversion_down_to origin m x t a ≡ Some (cut ns)
    turns_down le [] e h = turns_there [] e h
    turns_down le (l ∷ a) e h =
        ap (λ o. option_or o (diversion_at origin m x t (l ∷ a))) (same_down a (omega (arith, ap length e)) le)
        ∙ stays_first (cut ns) (diversion_down_to origin m c NS a) (diversion_at origin m c NS (l ∷ a)) (diversion_at origin m x t (l ∷ a)) (turns_there (l ∷ a) e) h

    -- and what has turned before isn't turned again
    turns_below : (front : Name) → diversion_down_to origin m x t c ≡ Some (cut ns) → diversion_down_to origin m x t (front ++ c) ≡ Some (cut ns)
    turns_below [] h = h
    turns_below (l ∷ front) h = ap (λ o. option_or o (diversion_at origin m x t (l ∷ (front ++ c)))) (turns_below front h)

    pub turns_alike : is_at_or_above c x ≡ true → diversion origin m c NS ≡ Some (cut ns) → diversion origin m x t ≡ Some (cut ns)
    turns_alike above h =
        let w = is_at_or_above_sound c x above in
        let le : length c ≤ length x = omega (arith, ap length w.1, length-append w.0 c) in
        subst (λ n. diversion_down_to origin m x t n ≡ Some (cut ns)) (sym w.1) (turns_below w.0 (turns_down le c refl h))

-- a name at or below one of a zone is one of the zone
pub still_inside : (origin c x : Name) → is_at_or_above origin c ≡ true → is_at_or_above c x ≡ true → is_at_or_above origin x ≡ true
still_inside origin c x h k =
    let a = is_at_or_above_sound origin c h in
    let b = is_at_or_above_sound c x k in
    is_at_or_above_complete origin x (b.0 ++ a.0, b.1 ∙ ap (λ n. b.0 ++ n) a.1 ∙ sym (append_assoc b.0 a.0 origin))

-- ---- the response

-- a search that turns at a zone cut is referred
module _ (i : Inquiry) (x : Name) (ns : RRset) (inside : is_at_or_above i.origin x ≡ true) (turns : diversion i.origin i.sets x i.record_type ≡ Some (cut ns)) where
  pub path_is : path i x ≡ ended (referred ns)
  unfolding path
  path_is =
      unseen i 8 7 [] [] x refl refl
      ∙ ap (λ (s : Step). behind s.answers s.made (searched (path_from i 7 (x ∷ []) s.answers) (unless_answered i.record_type s.answers s.next)))
      (inside_step i x [] (Some (cut ns)) inside (sym turns))

module _ (z : Zone) (q : Query) (soa ns : RRset) (inside : is_at_or_above z.origin q.name ≡ true) (soa_is : set_at z.sets z.origin SOA ≡ Some soa)
    (turns : diversion z.origin z.sets q.name q.record_type ≡ Some (cut ns)) where
  searched_for : q.class ≡ IN → is_no_data q.record_type ≡ false → refusal z.origin q ≡ None
  searched_for class is_data =
      (λ j. cond (not (class j == IN) || not (inside j)) (Some code.Refused)
      (cond (is_data j) (Some code.NotImp) None))

  referred_so : q.class ≡ IN → is_no_data q.record_type ≡ false → lacks_proofs z q.signed [] (referred ns) ≡ false → IsResponse z q (referral z soa q.signed ns)
  referred_so class is_data proven =
      let come : outcome z q ≡ answered (ended (referred ns)) (authority_sets z q.signed soa [] (referred ns)) =
      ap (λ (o : Option ResponseCode). option_map_or refused o (outcome_of z (inquiry z q) q.name)) (searched_for class is_data)
      ∙ ap (λ (o : Option RRset). option_map_or (λ s. outcome_along z q.signed s (path (inquiry z q) q.name)) o without_soa) soa_is
      ∙ ap (outcome_along z q.signed soa) (path_is (inquiry z q) q.name ns inside turns)
      ∙ ap (λ b. cond b unprovable (answered (ended (referred ns)) (authority_sets z q.signed soa [] (referred ns)))) proven in
      subst (λ (o : Outcome). IsResponseTo (inquiry z q) o (referral z soa q.signed ns)) (sym come)
      (record { code = refl; authoritative = refl; answers = refl; authorities = refl; additionals = refl; glue = refl; left_at = refl })

pub names_below_a_cut_are_referred_alike : NamesBelowACutAreReferredAlike
names_below_a_cut_are_referred_alike z q soa ns x below above class is_data no_ds proven =
    referred_so z q soa ns (still_inside z.origin x q.name below.inside above) below.soa_is
    (turns_alike z.origin z.sets x q.name q.record_type ns no_ds above below.turns) class is_data proven
