-- The last name of a path is that to which its answers lead, and how the search ends there
use Rattle.std.proofs.Common.{◌≡◌, ℕ, zero, suc, Bool, true, false, cond, not, ◌&&◌, ◌||◌, List, [], ◌∷◌, ◌++◌, refl, sym, ap, ◌∙◌, subst, ◌⊎◌, inl, inr, true≢false, eqb-true, eq-eqb, arith, append_assoc}
use Rattle.std.specs.Prelude.{Option, Some, None, ◌==◌}
use Rattle.std.specs.List.{list_any}
use Rattle.std.proofs.lemmas.List.{append-nil}
use Rattle.zone_proto.specs.NameLaws.{caseless_eq_equiv}
use Rattle.zone_proto.specs.Names.{Name, lower, name_eq, is_at_or_above}
use Rattle.zone_proto.specs.Sets.{RRset}
use Rattle.zone_proto.specs.Types.{CNAME, RRSIG, ANY, ANAME, DNAME}
use Rattle.zone_proto.proofs.Members.{In}
use Rattle.zone_proto.proofs.Names.Lower.{lower-lower}
use Rattle.zone_map.specs.Chains.{cname_target}
use Rattle.zone_map.specs.Wildcards.{exists}
use Rattle.zone_map.specs.Zones.{Sets, set_at, IsZone}
use Rattle.zone_response.specs.Nodes.{AtNode, own, alias, stand_in, nothing, chosen_type, asked_set, at_node}
use Rattle.zone_response.specs.Paths.{is_sought, unless_answered, next_behind, Path, ended, behind, searched, path_from, path}
use Rattle.zone_response.specs.Queries.{Inquiry}
use Rattle.zone_response.specs.Dname.{dname_target, in_place_of, unless_long, synthesized_alias}
use Rattle.zone_response.specs.Sections.{is_signed, as_it_is, part_for, unless_among}
use Rattle.zone_response.specs.Wildcards.{source_of_synthesis}
use Rattle.zone_response.specs.Aname.{StandInAnswer, addresses, no_addresses, untold, stand_in_answer}
use Rattle.zone_response.specs.Steps.{End, complete, referred, missing, outside, unfollowed, too_long, failed, Next, on, ends, Step, at_end, as_found_for, expanded_names, after_alias, keeps, own_part, stood_in_step, node_step, new_name_step, step_at, step}
use Rattle.zone_response.specs.Descent.{cut, diversion}
use Rattle.response_laws.specs.Sayings.{asks_alias, last_name, is_answer}
use Rattle.response_laws.proofs.Dnames.{sent_dname, short_is, AreDnames, both_dnames, IsAboveBy, turned_by, told_unturned, stands_among, in_unless, passed, alias_leads as dname_leads, alias_stays}
use Rattle.response_laws.proofs.Leads.{sent_type, made_type, has_target, lowered_target, follows, asked_stands, found_owner, found_stays, alias_leads, own_leads, own_answers}
use Rattle.response_laws.proofs.Passages.{led, last_here}
use Rattle.response_laws.proofs.StandIns.{aname_stands, addresses_of_last, addresses_stay, addresses_lead_nowhere, addresses_answer}
use Rattle.response_laws.proofs.Stepped.{NodeOf, has_set, has_alias, has_stand_in, has_nothing, node_of, IsUndiverted, StepOf, leaves, refers, fails, new_name, at_name, no_wildcard_name, at_wildcard, wildcard_gone, step_of}

-- ---- how a search ends at a name

-- a name has no set that answers, but an ANAME set may stand in that leads to no addresses
pub record IsBare (m : Sets) (a : Name) (t : ℕ) : Type 0 where
  pub asked : asked_set m a t ≡ None
  pub alias : set_at m a CNAME ≡ None

-- a name without the set that is asked for: it exists, or its wildcard does, or neither
pub data IsMissing (q : Inquiry) (x : Name) (wildcard_name : Option Name) (there : Bool) : Type 0 where
  bare : there ≡ true → wildcard_name ≡ None → exists q.sets x ≡ true → IsBare q.sets x q.record_type → IsMissing q x wildcard_name there
  bare_wildcard : (w : Name) → there ≡ true → wildcard_name ≡ Some w → exists q.sets x ≡ false → source_of_synthesis q.sets x ≡ Some w → exists q.sets w ≡ true → IsBare q.sets w q.record_type → IsMissing q x wildcard_name there
  unsynthesized : there ≡ false → exists q.sets x ≡ false → source_of_synthesis q.sets x ≡ None → IsMissing q x wildcard_name there
  gone : (w : Name) → there ≡ false → wildcard_name ≡ Some w → exists q.sets x ≡ false → source_of_synthesis q.sets x ≡ Some w → exists q.sets w ≡ false → IsMissing q x wildcard_name there

-- the answer of the last name, if the search ends with one
pub record IsAnswered (q : Inquiry) (x : Name) (answers : List RRset) : Type 0 where
  pub set : RRset
  pub alone : answers ≡ set ∷ []
  pub answers_it : is_answer q.record_type x set ≡ true

-- the answer is the CNAME that was asked for, and that a DNAME set makes which is in the whole section
pub record IsAliasAsked (q : Inquiry) (all : List RRset) (x : Name) (answers : List RRset) : Type 0 where
  pub dname : RRset
  pub above : IsAboveBy q x dname
  pub target : Name
  pub call_concludes : dname_target dname ≡ Some target
  pub among : In (sent_dname q dname) all
  pub asked : asks_alias q.record_type ≡ true
  pub alone : answers ≡ synthesized_alias dname x (in_place_of dname.owner target x) ∷ []

pub record IsReferred (q : Inquiry) (x : Name) (s : RRset) : Type 0 where
  pub inside : is_at_or_above q.origin x ≡ true
  pub turned : diversion q.origin q.sets x q.record_type ≡ Some (cut s)

-- no set of the section tells what is asked for
abbrev pub IsUntold : Inquiry → List RRset → Name → Type 0
IsUntold q all x = list_any (is_sought q.record_type x) all ≡ false

-- one does
pub record IsReported (q : Inquiry) (all : List RRset) (x : Name) (answers : List RRset) : Type 0 where
  pub none : answers ≡ []
  pub call_concludes : list_any (is_sought q.record_type x) all ≡ true
  pub unturned : IsUndiverted q x

-- what an end tells of the name where the search ends, where all these sets are in the section
abbrev pub EndOf : Inquiry → List RRset → Name → List RRset → End → Type 0
EndOf q all x answers complete = (IsAnswered q x answers × (IsUndiverted q x ⊎ IsAliasAsked q all x answers)) ⊎ IsReported q all x answers
EndOf q all x answers (referred s) = IsReferred q x s × (answers ≡ []) × IsUntold q all x
EndOf q all x answers (missing y wildcard_name there) = IsUndiverted q x × IsMissing q x wildcard_name there × (y ≡ x) × (answers ≡ []) × IsUntold q all x
EndOf q all x answers (outside y) = (y ≡ x) × (answers ≡ []) × IsUntold q all x
EndOf q all x answers unfollowed = ⊥
EndOf q all x answers too_long = answers ≡ []
EndOf q all x answers failed = Unit {0}

-- ---- one step

-- aliases are followed, and this target is in lower case
pub record IsFollowed (q : Inquiry) (target : Name) : Type 0 where
  pub asks : asks_alias q.record_type ≡ false
  pub lowered : lower target ≡ target

-- behind these sets, a step leads on by its sets, or ends
pub data StepEnd (q : Inquiry) (before : List RRset) (x : Name) (s : Step) : Type 0 where
  goes_on : (target : Name) → ((rest : List RRset) → last_name q.record_type x (s.answers ++ rest) ≡ last_name q.record_type target rest) → AreDnames q s.answers → s.next ≡ on target
      → IsFollowed q target → StepEnd q before x s
  comes_to : (e : End) (sets : List RRset) → s.next ≡ ends e → last_name q.record_type x s.answers ≡ record { name = x; sets = sets } → (IsUntold q before x → EndOf q (before ++ s.answers) x sets e) → StepEnd q before x s

-- nor behind a step that adds none
still_untold : (q : Inquiry) (before : List RRset) (x : Name) → IsUntold q before x → IsUntold q (before ++ []) x
still_untold q before x h = ap (list_any (is_sought q.record_type x)) (append-nil before) ∙ h

module _ (q : Inquiry) (zone : IsZone q.sets) where
  abbrev t : ℕ
  t = q.record_type

  -- a CNAME is no DNAME
  alias_no_dname : (r : RRset) → r.record_type ≡ CNAME → AreDnames q (r ∷ [])
  alias_no_dname r e v (inl same) d = let both : CNAME ≡ DNAME = sym e ∙ ap (λ (v : RRset). v.record_type) same ∙ d in absurd (omega (arith, both))
  alias_no_dname r e v (inr i) d = absurd i

  -- at a name, for x
  node_end : (before : List RRset) (wildcard_name : Option Name) (x a : Name) → (wildcard_name ≡ None → a ≡ x) → IsUndiverted q x → (IsBare q.sets a q.record_type → IsMissing q x wildcard_name true) → StepEnd q before x (step_at q wildcard_name x a)
  node_end before wildcard_name x a here u missing_as = by (node_of q.sets a t)
    where
      m : Sets
      m = q.sets

      at : AtNode → Step
      at = node_step q wildcard_name x

      of : (n : AtNode) → at_node m a t ≡ n → StepEnd q before x (at n) → StepEnd q before x (step_at q wildcard_name x a)
      of n e h = subst (λ n. StepEnd q before x (at n)) (sym e) h

      aliased : (s : RRset) → asked_set m a t ≡ None → set_at m a CNAME ≡ Some s → (o : Option Name) → cname_target s ≡ o → StepEnd q before x (at (alias s))
      aliased s e f (Some target) g =
          let r = as_it_is (part_for q.signed) (as_found_for (keeps q.signed t) wildcard_name x s) in
          goes_on target
          (λ rest. led t x r rest (found_stays m zone.stored q.signed t (keeps q.signed t) wildcard_name x a here s (part_for q.signed) CNAME f) target
          (alias_leads m zone.stored q.signed t (keeps q.signed t) wildcard_name x a here s e f ∙ g))
          (alias_no_dname r (sent_type (part_for q.signed) (as_found_for (keeps q.signed t) wildcard_name x s).ttl (as_found_for (keeps q.signed t) wildcard_name x s) ∙ made_type (keeps q.signed t) wildcard_name x s ∙ (zone.stored a CNAME s f).record_type))
          (ap after_alias g) (record { asks = follows m a t s e f; lowered = lowered_target s target g })
      aliased s e f None g = let n = has_target a s (zone.stored a CNAME s f) in let p : None ≡ Some n.0 = sym g ∙ n.1 in absurd cc

      -- by what an ANAME set stands for
      kept : RRset → RRset
      kept s = as_found_for (keeps q.signed t) wildcard_name x s

      addressed : (s v : RRset) → set_at m a ANAME ≡ Some s → stand_in_answer q x (kept s) ≡ addresses v → (b : Bool) → StepEnd q before x (cond b (at_end failed) (record { answers = as_it_is (part_for q.signed) v ∷ []; made = expanded_names wildcard_name x; next = ends complete }))
      addressed s v k f true = comes_to failed [] refl refl (λ h. tt)
      addressed s v k f false =
          let r = as_it_is (part_for q.signed) v in
          let l = addresses_of_last q x (kept s) v f in
          let owned = found_owner m zone.stored q.signed t (keeps q.signed t) wildcard_name x a s here (zone.stored a ANAME s k).owner in
          comes_to complete (r ∷ []) refl (last_here t x r [] (addresses_stay q x (kept s) v l owned) (addresses_lead_nowhere q x (kept s) v l owned))
          (λ h. inl (record { set = r; alone = refl; answers_it = addresses_answer q x (kept s) v l owned }, inl u))

      stood_in : (s : RRset) → set_at m a ANAME ≡ Some s → IsBare m a t → (w : StandInAnswer) → stand_in_answer q x (kept s) ≡ w → StepEnd q before x (stood_in_step q.is_proved q.signed wildcard_name x w)
      stood_in s k b (addresses v) f = addressed s v k f (q.is_proved && not (is_signed v))
      stood_in s k b no_addresses f = comes_to (missing x wildcard_name true) [] refl refl (λ h. (u, missing_as b, refl, refl, still_untold q before x h))
      stood_in s k b untold f = comes_to failed [] refl refl (λ h. tt)

      by : NodeOf m a t → StepEnd q before x (step_at q wildcard_name x a)
      by (has_set s e f) =
          let r = as_it_is (own_part q.signed t) (as_found_for (keeps q.signed t) wildcard_name x s) in
          of (own s) f
          (comes_to complete (r ∷ []) refl
          (last_here t x r [] (found_stays m zone.stored q.signed t (keeps q.signed t) wildcard_name x a here s (own_part q.signed t) (chosen_type m a t) (asked_stands m a t s e)) (own_leads m zone.stored q.signed t (keeps q.signed t) wildcard_name x a here s e))
          (λ h. inl (record { set = r; alone = refl; answers_it = own_answers m zone.stored q.signed t (keeps q.signed t) wildcard_name x a here s e }, inl u)))
      by (has_alias s e f g) = of (alias s) g (aliased s e f (cname_target s) refl)
      by (has_stand_in s e f k g) = of (stand_in s) g (stood_in s (aname_stands m a t s k) (record { asked = e; alias = f }) (stand_in_answer q x (kept s)) refl)
      by (has_nothing e f g) = of nothing g (comes_to (missing x wildcard_name true) [] refl refl (λ h. (u, missing_as (record { asked = e; alias = f }), refl, refl, still_untold q before x h)))

  -- below a DNAME
  module _ (before : List RRset) (dnames : AreDnames q before) (x : Name) (s : RRset) (target : Name) (a : IsAboveBy q x s) (call_concludes : dname_target s ≡ Some target) where
    abbrev sets : List RRset
    sets = unless_among before (sent_dname q s)

    are_dnames : AreDnames q sets
    are_dnames r i e = record { name = a.name; stored = s; stands = a.stands; sent = in_unless q before (sent_dname q s) r i; unturned = a.unturned }

    new_name_end : (o : Option Name) → unless_long (in_place_of s.owner target x) ≡ o → StepEnd q before x (new_name_step q.signed t before x s o)
    new_name_end None e = comes_to too_long [] refl (ap (last_name t x) (sym (append-nil sets)) ∙ passed q x s a before []) (λ h. refl)
    new_name_end (Some n) e = by (asks_alias t) refl
      where
        r : RRset
        r = synthesized_alias s x n

        same : n ≡ in_place_of s.owner target x
        same = short_is (in_place_of s.owner target x) n e

        answered : asks_alias t ≡ true → is_answer t x r ≡ true
        answered k = λ i. caseless_eq_equiv.refl x i && of_type (t == CNAME) refl (t == ANY) k i
          where
            any_or : (b c : Bool) → b || true || c ≡ true
            any_or true c = refl
            any_or false c = refl

            of_type : (b : Bool) → (t == CNAME) ≡ b → (c : Bool) → b || c ≡ true → (CNAME == t) || c || (t == RRSIG) ≡ true
            of_type true f c k = ap (λ b. b || c || (t == RRSIG)) (eq-eqb CNAME t (sym (eqb-true t CNAME f)))
            of_type false f true k = any_or (CNAME == t) (t == RRSIG)
            of_type false f false k = absurd (true≢false (sym k))

        by : (b : Bool) → asks_alias t ≡ b → StepEnd q before x (record { answers = sets ++ r ∷ []; made = []; next = cond b (ends complete) (on (lower n)) })
        by true k =
            comes_to complete (r ∷ []) refl (passed q x s a before (r ∷ []) ∙ last_here t x r [] refl (alias_stays q x n s k)) (
            λ h.
            inl (
              record { set = r; alone = refl; answers_it = answered k },
              inr
                  (record {
                    dname = s;
                    above = a;
                    target = target;
                    call_concludes = call_concludes;
                    among = stands_among q zone before (r ∷ []) x s dnames a;
                    asked = k;
                    alone = ap (λ n. synthesized_alias s x n ∷ []) same;
                  }),
            )
            )
        by false k =
            goes_on (lower n)
            (λ rest. ap (last_name t x) (append_assoc sets (r ∷ []) rest) ∙ passed q x s a before (r ∷ rest) ∙ led t x r rest refl (lower n) (dname_leads q x n s k))
            (both_dnames q sets (r ∷ []) are_dnames (alias_no_dname r refl)) refl (record { asks = k; lowered = lower-lower n })

  pub step_end : (before : List RRset) → AreDnames q before → (x : Name) → StepEnd q before x (step q before x)
  step_end before dnames x = by (step_of q before x)
    where
      of : (s : Step) → step q before x ≡ s → StepEnd q before x s → StepEnd q before x (step q before x)
      of s e h = subst (StepEnd q before x) (sym e) h

      by : StepOf q before x → StepEnd q before x (step q before x)
      by (leaves i e) = of (at_end (outside x)) e (comes_to (outside x) [] refl refl (λ h. (refl, refl, still_untold q before x h)))
      by (refers s i f e) = of (at_end (referred s)) e (comes_to (referred s) [] refl refl (λ h. (record { inside = i; turned = f }, refl, still_untold q before x h)))
      by (fails s f g e) = of (at_end failed) e (comes_to failed [] refl refl (λ h. tt))
      by (new_name s target o f call_concludes g e) = of (new_name_step q.signed t before x s o) e (new_name_end before dnames x s target (turned_by q zone x s f) call_concludes o g)
      by (at_name u there e) = of (step_at q None x x) e (node_end before None x x (λ k. refl) u (λ b. bare refl refl there b))
      by (no_wildcard_name u absent f e) = of (at_end (missing x None false)) e (comes_to (missing x None false) [] refl refl (λ h. (u, unsynthesized refl absent f, refl, refl, still_untold q before x h)))
      by (at_wildcard w u absent f g e) = of (step_at q (Some w) x w) e (node_end before (Some w) x w (λ k. cc) u (λ b. bare_wildcard w refl refl absent f g b))
      by (wildcard_gone w u absent f g e) = of (at_end (missing x (Some w) false)) e (comes_to (missing x (Some w) false) [] refl refl (λ h. (u, gone w refl refl absent f g, refl, refl, still_untold q before x h)))

  -- where a path goes on, the step did
  goes_to : (sets : List RRset) (n : Next) (y : Name) → unless_answered t sets n ≡ on y → n ≡ on y
  goes_to sets (on w) y e = by (list_any (is_sought t w) sets) e
    where
      by : (b : Bool) → cond b (ends complete) (on w) ≡ on y → on w ≡ on y
      by true e = absurd cc
      by false e = e
  goes_to sets (ends w) y e = e

  -- to a name of which no set tells
  pub untold_on : (sets : List RRset) (n : Next) (y : Name) → unless_answered t sets n ≡ on y → IsUntold q sets y
  untold_on sets (on w) y e = by (list_any (is_sought t w) sets) refl e
    where
      by : (b : Bool) → list_any (is_sought t w) sets ≡ b → cond b (ends complete) (on w) ≡ on y → IsUntold q sets y
      by true f e = absurd cc
      by false f e = let same : w ≡ y = cc in subst (IsUntold q sets) same f
  untold_on sets (ends w) y e = absurd cc

  pub followed_on : (before : List RRset) → AreDnames q before → (x y : Name) → next_behind q before x ≡ on y → IsFollowed q y
  followed_on before dnames x y e = by (step_end before dnames x)
    where
      n : (step q before x).next ≡ on y
      n = goes_to (before ++ (step q before x).answers) (step q before x).next y e

      by : StepEnd q before x (step q before x) → IsFollowed q y
      by (goes_on target l d f k) = let p : on target ≡ on y = sym f ∙ n in let same : target ≡ y = cc in subst (IsFollowed q) same k
      by (comes_to e sets f l h) = let p : ends e ≡ on y = sym f ∙ n in absurd cc

  -- and the DNAME sets behind it are the zone's
  pub dnames_on : (before : List RRset) → AreDnames q before → (x y : Name) → next_behind q before x ≡ on y → AreDnames q (before ++ (step q before x).answers)
  dnames_on before dnames x y e = by (step_end before dnames x)
    where
      n : (step q before x).next ≡ on y
      n = goes_to (before ++ (step q before x).answers) (step q before x).next y e

      by : StepEnd q before x (step q before x) → AreDnames q (before ++ (step q before x).answers)
      by (goes_on target l d f k) = both_dnames q before (step q before x).answers dnames d
      by (comes_to e sets f l h) = let p : ends e ≡ on y = sym f ∙ n in absurd cc

  -- ---- the path

  -- behind these sets, a path stops at a name behind an alias that isn't followed, or it arrives at one
  pub data PathEnd (before : List RRset) (x : Name) (p : Path) : Type 0 where
    stops : (y : Name) → p.end ≡ unfollowed → last_name t x p.answers ≡ record { name = y; sets = [] } → IsUntold q (before ++ p.answers) y → PathEnd before x p
    arrives : (y : Name) (sets : List RRset) (e : End) → p.end ≡ e → last_name t x p.answers ≡ record { name = y; sets = sets } → EndOf q (before ++ p.answers) y sets e → PathEnd before x p

  behind_step : (before : List RRset) (x target : Name) (answers : List RRset) (made : List Name) (p : Path) → ((rest : List RRset) → last_name t x (answers ++ rest) ≡ last_name t target rest)
      → PathEnd (before ++ answers) target p → PathEnd before x (behind answers made p)
  behind_step before x target answers made p e (stops y f g h) = stops y f (e p.answers ∙ g) (subst (λ all. IsUntold q all y) (append_assoc before answers p.answers) h)
  behind_step before x target answers made p e (arrives y sets w f g h) = arrives y sets w f (e p.answers ∙ g) (subst (λ all. EndOf q all y sets w) (append_assoc before answers p.answers) h)

  pub path_end_from : (k : ℕ) (seen : List Name) (before : List RRset) → AreDnames q before → (x : Name) → IsUntold q before x → PathEnd before x (path_from q k seen before x)
  path_end_from zero seen before dnames x u = stops x refl refl (still_untold q before x u)
  path_end_from (suc k) seen before dnames x u = by (path_end_from k (seen ++ x ∷ []) (before ++ answers)) (list_any (name_eq x) seen) (step_end before dnames x)
    where
      answers : List RRset
      answers = (step q before x).answers

      made : List Name
      made = (step q before x).made

      rest : Name → Path
      rest = path_from q k (seen ++ x ∷ []) (before ++ answers)

      whole : Next → Path
      whole n = behind answers made (searched rest n)

      Rest : Type 0
      Rest = AreDnames q (before ++ answers) → (y : Name) → IsUntold q (before ++ answers) y → PathEnd (before ++ answers) y (rest y)

      Leads : Name → Type 0
      Leads target = (sets : List RRset) → last_name t x (answers ++ sets) ≡ last_name t target sets

      -- at a name of which the sets tell, or its search goes on
      at_target : Rest → (target : Name) → Leads target → AreDnames q (before ++ answers) → (b : Bool) → list_any (is_sought t target) (before ++ answers) ≡ b → PathEnd before x (whole (cond b (ends complete) (on target)))
      at_target from target l d true e =
          behind_step before x target answers made (ended complete) l
          (arrives target [] complete refl refl
          (inr
          (record {
            none = refl;
            call_concludes = ap (list_any (is_sought t target)) (append-nil (before ++ answers)) ∙ e;
            unturned = told_unturned q zone (before ++ answers) d target e;
          })))
      at_target from target l d false e = behind_step before x target answers made (rest target) l (from d target e)

      by : Rest → (b : Bool) → StepEnd q before x (step q before x) → PathEnd before x (cond b (ended unfollowed) (whole (next_behind q before x)))
      by from true s = stops x refl refl (still_untold q before x u)
      by from false (goes_on target l d n k) =
          subst (λ n. PathEnd before x (whole (unless_answered t (before ++ answers) n))) (sym n)
          (at_target from target l (both_dnames q before answers dnames d) (list_any (is_sought t target) (before ++ answers)) refl)
      by from false (comes_to e sets n l h) =
          subst (λ n. PathEnd before x (whole (unless_answered t (before ++ answers) n))) (sym n)
          (arrives x sets e refl (ap (last_name t x) (append-nil answers) ∙ l) (subst (λ (a : List RRset). EndOf q (before ++ a) x sets e) (sym (append-nil answers)) (h u)))

  pub path_end : (x : Name) → PathEnd [] x (path q x)
  unfolding path
  path_end x = path_end_from 8 [] [] (λ r i. absurd i) x refl
