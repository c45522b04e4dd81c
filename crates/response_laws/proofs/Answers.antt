-- The sets of an answer section are the zone's own, those of a wildcard, a CNAME that a DNAME set makes, or addresses
-- for which an ANAME set stands in
use Rattle.std.proofs.Common.{◌≡◌, ℕ, zero, suc, Bool, true, false, cond, not, ◌&&◌, List, [], ◌∷◌, ◌++◌, refl, sym, ap, ◌∙◌, subst, ◌⊎◌, inl, inr, eqb-true, true≢false, append_assoc}
use Rattle.std.specs.Prelude.{Option, Some, None, ◌==◌}
use Rattle.std.specs.List.{list_any}
use Rattle.zone_proto.specs.Names.{Name, lower, name_eq, IsAbove}
use Rattle.zone_proto.specs.Sets.{RRset}
use Rattle.zone_proto.specs.Types.{CNAME, RRSIG, ANAME, DNAME}
use Rattle.zone_proto.proofs.Members.{In, In-Contains, In-from_append, In-append_left, In-append_right}
use Rattle.zone_map.specs.Wildcards.{exists, renamed}
use Rattle.zone_map.specs.Zones.{Sets, set_at, IsZone}
use Rattle.zone_response.specs.declared.response.Part.{Part}
use Rattle.zone_response.specs.declared.response.Part.TheVariants as part
use Rattle.zone_response.specs.Nodes.{AtNode, chosen_type}
use Rattle.zone_response.specs.Paths.{next_behind, Path, ended, behind, searched, path_from, path}
use Rattle.zone_response.specs.Queries.{Inquiry}
use Rattle.zone_response.specs.Dname.{dname_target, in_place_of, unless_long, synthesized_alias}
use Rattle.zone_response.specs.Sections.{is_signed, as_it_is, part_for, unless_among}
use Rattle.zone_response.specs.Wildcards.{source_of_synthesis}
use Rattle.zone_response.specs.Aname.{StandInAnswer, addresses, no_addresses, untold, stand_in_answer}
use Rattle.zone_response.specs.Steps.{complete, referred, missing, outside, unfollowed, failed, Next, on, ends, Step, at_end, as_found_for, expanded_names, keeps, own_part, stood_in_step, node_step, new_name_step, step_at, step}
use Rattle.response_laws.specs.Contents.{IsAnswerPart, IsSynthesizedAlias, Origin, own, of_wildcard, of_dname, of_aname}
use Rattle.response_laws.proofs.Dnames.{sent_dname_target, short_is, sent_dname, AreDnames, IsAboveBy, turned_by, stands_among, in_unless}
use Rattle.response_laws.proofs.LastNames.{dnames_on}
use Rattle.response_laws.proofs.Leads.{sent_owner, sent_type, asked_stands}
use Rattle.response_laws.proofs.Origins.{origin_by, origin_in_longer}
use Rattle.response_laws.proofs.StandIns.{aname_stands, made_signatures, made_ttl}
use Rattle.response_laws.proofs.Stepped.{NodeOf, has_set, has_alias, has_stand_in, has_nothing, node_of, IsUndiverted, StepOf, leaves, refers, fails, new_name, at_name, no_wildcard_name, at_wildcard, wildcard_gone, step_of}

-- a name that doesn't exist, for which its wildcard answers
pub record IsMade (q : Inquiry) (y w : Name) : Type 0 where
  pub unturned : IsUndiverted q y
  pub absent : exists q.sets y ≡ false
  pub wildcard_name : source_of_synthesis q.sets y ≡ Some w

-- the wildcard's set under that name, as it is found for it
pub record IsMadeFound (q : Inquiry) (y : Name) (u : ℕ) (found : RRset) : Type 0 where
  pub wildcard_name : Name
  pub made : IsMade q y wildcard_name
  pub stored : RRset
  pub stands : set_at q.sets wildcard_name u ≡ Some stored
  pub is : found ≡ renamed (keeps q.signed q.record_type) wildcard_name y stored

-- so it is of one of these names
abbrev pub ByWildcardOf : Inquiry → List Name → Name → ℕ → RRset → Type 0
ByWildcardOf q made y u found = In y made × IsMadeFound q y u found

-- a set that answers in a section, where wildcards answered for these names
abbrev pub IsAnswer : Inquiry → List Name → List RRset → RRset → Type 0
IsAnswer q made all s = Origin q all (ByWildcardOf q made) s

among_more : (q : Inquiry) (made more : List Name) (all : List RRset) (s : RRset) → ((y : Name) → In y made → In y more) → IsAnswer q made all s → IsAnswer q more all s
among_more q made more all s more_of = origin_by q all s (ByWildcardOf q made) (ByWildcardOf q more) (λ n t found k. (more_of n k.0, k.1))

-- a DNAME set as it is sent has the same TTL and the same target, and makes the same CNAME
sent_ttl : (p : Part) (s : RRset) → (as_it_is p s).ttl ≡ s.ttl
sent_ttl part.Records s = refl
sent_ttl part.Signed s = refl
sent_ttl part.Signatures s = refl

sent_target : (q : Inquiry) (v : RRset) → dname_target (sent_dname q v) ≡ dname_target v
sent_target q v = by q.signed
  where
    by : (b : Bool) → dname_target (as_it_is (part_for b) v) ≡ dname_target v
    by true = sent_dname_target v
    by false = sent_dname_target v

sent_alias : (q : Inquiry) (v : RRset) (x target : Name) → synthesized_alias v x (in_place_of v.owner target x) ≡ synthesized_alias (sent_dname q v) x (in_place_of (sent_dname q v).owner target x)
sent_alias q v x target = by q.signed
  where
    by : (b : Bool) → synthesized_alias v x (in_place_of v.owner target x) ≡ synthesized_alias (as_it_is (part_for b) v) x (in_place_of (as_it_is (part_for b) v).owner target x)
    by true = refl
    by false = refl

module _ (q : Inquiry) (zone : IsZone q.sets) where
  abbrev t : ℕ
  t = q.record_type

  abbrev m : Sets
  m = q.sets

  own_goes_out : IsAnswerPart q (own_part q.signed t)
  own_goes_out = by (t == RRSIG) refl
    where
      by : (b : Bool) → (t == RRSIG) ≡ b → IsAnswerPart q (cond b part.Signatures (part_for q.signed))
      by true e = inr (eqb-true t RRSIG e, refl)
      by false e = inl refl

  -- ---- one step

  -- the set of the wildcard of x, as it is found for x
  wildcard_found : (w x a : Name) → (a ≡ w) × IsMade q x w → (u : ℕ) (s : RRset) → set_at m a u ≡ Some s → IsMadeFound q x u (as_found_for (keeps q.signed t) (Some w) x s)
  wildcard_found w x a made u s e =
      record { wildcard_name = w; made = made.1; stored = s; stands = ap (λ n. set_at m n u) (sym made.0) ∙ e; is = refl }

  -- a set as it is found for x, at the name or at its wildcard
  found_answer : (wildcard_name : Option Name) (x a : Name) → (wildcard_name ≡ None → a ≡ x) → ((w : Name) → wildcard_name ≡ Some w → (a ≡ w) × IsMade q x w) → (u : ℕ) (s : RRset) → set_at m a u ≡ Some s
      → (p : Part) → IsAnswerPart q p → (all : List RRset) → IsAnswer q (expanded_names wildcard_name x) all (as_it_is p (as_found_for (keeps q.signed t) wildcard_name x s))
  found_answer None x a here of u s e p g all = own p g (record { name = a; record_type = u; stored = s; stands = e; sent = refl })
  found_answer (Some w) x a here of u s e p g all =
      of_wildcard p g (record { name = x; record_type = u; found = as_found_for (keeps q.signed t) (Some w) x s; by_wildcard = (inl refl, wildcard_found w x a (of w refl) u s e); sent = refl })

  -- an ANAME set that stands in for addresses of x, at the name or at its wildcard
  aname_found : (wildcard_name : Option Name) (x a : Name) → (wildcard_name ≡ None → a ≡ x) → ((w : Name) → wildcard_name ≡ Some w → (a ≡ w) × IsMade q x w) → (s : RRset) → set_at m a ANAME ≡ Some s
      → (set_at m x ANAME ≡ Some (as_found_for (keeps q.signed t) wildcard_name x s)) ⊎ (In x (expanded_names wildcard_name x) × IsMadeFound q x ANAME (as_found_for (keeps q.signed t) wildcard_name x s))
  aname_found None x a here of s e = inl (ap (λ n. set_at m n ANAME) (sym (here refl)) ∙ e)
  aname_found (Some w) x a here of s e = inr (inl refl, wildcard_found w x a (of w refl) ANAME s e)

  node_answers : (wildcard_name : Option Name) (x a : Name) → (wildcard_name ≡ None → a ≡ x) → ((w : Name) → wildcard_name ≡ Some w → (a ≡ w) × IsMade q x w) → (s : RRset) → In s (step_at q wildcard_name x a).answers
      → (all : List RRset) → IsAnswer q (step_at q wildcard_name x a).made all s
  node_answers wildcard_name x a here of s = by (node_of m a t)
    where
      at : AtNode → Step
      at = node_step q wildcard_name x

      kept : RRset → RRset
      kept = as_found_for (keeps q.signed t) wildcard_name x

      HasAnswers : Step → Type 0
      HasAnswers v = In s v.answers → (all : List RRset) → IsAnswer q v.made all s

      only : (made : List Name) (r : RRset) → ((all : List RRset) → IsAnswer q made all r) → In s (r ∷ []) → (all : List RRset) → IsAnswer q made all s
      only made r h (inl e) all = subst (IsAnswer q made all) e (h all)
      only made r h (inr i) all = absurd i

      stands_in : (r v : RRset) → set_at m a ANAME ≡ Some r → stand_in_answer q x (kept r) ≡ addresses v → (q.is_proved ≡ true → is_signed v ≡ true) → In s (as_it_is (part_for q.signed) v ∷ [])
          → (all : List RRset) → IsAnswer q (expanded_names wildcard_name x) all s
      stands_in r v k f signed =
          only (expanded_names wildcard_name x) (as_it_is (part_for q.signed) v)
          (λ all.
          of_aname (record {
            name = x;
            aname = kept r;
            stands = aname_found wildcard_name x a here of r k;
            made = v;
            leads = f;
            signatures = made_signatures q x (kept r) v f;
            signed = signed;
            sent = refl;
            ttl = made_ttl q x (kept r) v f;
          }))

      -- addresses, which answer unless they are to be proved and aren't signed
      addressed : (r v : RRset) → set_at m a ANAME ≡ Some r → stand_in_answer q x (kept r) ≡ addresses v → (p : Bool) → q.is_proved ≡ p → (b : Bool) → is_signed v ≡ b
          → HasAnswers (cond (p && not b) (at_end failed) (record { answers = as_it_is (part_for q.signed) v ∷ []; made = expanded_names wildcard_name x; next = ends complete }))
      addressed r v k f true e false g = λ i. absurd i
      addressed r v k f true e true g = stands_in r v k f (λ p. g)
      addressed r v k f false e b g = stands_in r v k f (λ p. absurd (true≢false (sym p ∙ e)))

      stood_in : (r : RRset) → set_at m a ANAME ≡ Some r → (w : StandInAnswer) → stand_in_answer q x (kept r) ≡ w → HasAnswers (stood_in_step q.is_proved q.signed wildcard_name x w)
      stood_in r k (addresses v) f = addressed r v k f q.is_proved refl (is_signed v) refl
      stood_in r k no_addresses f = λ i. absurd i
      stood_in r k untold f = λ i. absurd i

      by : NodeOf m a t → HasAnswers (step_at q wildcard_name x a)
      by (has_set r e f) =
          subst (λ n. HasAnswers (at n)) (sym f)
          (only (expanded_names wildcard_name x) (as_it_is (own_part q.signed t) (kept r))
          (found_answer wildcard_name x a here of (chosen_type m a t) r (asked_stands m a t r e) (own_part q.signed t) own_goes_out))
      by (has_alias r e f g) =
          subst (λ n. HasAnswers (at n)) (sym g)
          (only (expanded_names wildcard_name x) (as_it_is (part_for q.signed) (kept r)) (found_answer wildcard_name x a here of CNAME r f (part_for q.signed) (inl refl)))
      by (has_stand_in r e f k g) = subst (λ n. HasAnswers (at n)) (sym g) (stood_in r (aname_stands m a t r k) (stand_in_answer q x (kept r)) refl)
      by (has_nothing e f g) = subst (λ n. HasAnswers (at n)) (sym g) (λ i. absurd i)

  -- below a DNAME
  module _ (before : List RRset) (dnames : AreDnames q before) (x : Name) (v : RRset) (target : Name) (a : IsAboveBy q x v) (call_concludes : dname_target v ≡ Some target) where
    abbrev sets : List RRset
    sets = unless_among before (sent_dname q v)

    dname_answers : (all : List RRset) (s : RRset) → In s sets → IsAnswer q [] all s
    dname_answers all s i = own (part_for q.signed) (inl refl) (record { name = a.name; record_type = DNAME; stored = v; stands = a.stands; sent = in_unless q before (sent_dname q v) s i })

    new_name_answers : (o : Option Name) → unless_long (in_place_of v.owner target x) ≡ o → (s : RRset) → In s (new_name_step q.signed t before x v o).answers
        → IsAnswer q (new_name_step q.signed t before x v o).made (before ++ (new_name_step q.signed t before x v o).answers) s
    new_name_answers None e s i = dname_answers (before ++ sets) s i
    new_name_answers (Some n) e s i = by (In-from_append s sets (synthesized_alias v x n ∷ []) i)
      where
        alias : synthesized_alias v x n ≡ s → IsSynthesizedAlias q (before ++ (sets ++ synthesized_alias v x n ∷ [])) s
        alias same = record {
          dname = sent_dname q v;
          among = In-Contains (sent_dname q v) (before ++ (sets ++ synthesized_alias v x n ∷ [])) (stands_among q zone before (synthesized_alias v x n ∷ []) x v dnames a);
          record_type = sent_type (part_for q.signed) v.ttl v ∙ a.type';
          stands = record { name = a.name; record_type = DNAME; stored = v; stands = a.stands; sent = refl };
          target = target;
          call_concludes = sent_target q v ∙ call_concludes;
          name = x;
          below = subst (λ k. IsAbove k x) (sym (ap lower (sent_owner (part_for q.signed) v.ttl v) ∙ a.owner)) a.above;
          made = sym same ∙ ap (synthesized_alias v x) (short_is (in_place_of v.owner target x) n e) ∙ sent_alias q v x target;
          ttl = ap (λ (r : RRset). r.ttl) (sym same) ∙ sym (sent_ttl (part_for q.signed) v);
        }

        by : In s sets ⊎ In s (synthesized_alias v x n ∷ []) → IsAnswer q [] (before ++ (sets ++ synthesized_alias v x n ∷ [])) s
        by (inl k) = dname_answers (before ++ (sets ++ synthesized_alias v x n ∷ [])) s k
        by (inr (inl same)) = of_dname (alias same)
        by (inr (inr k)) = absurd k

  step_answers : (before : List RRset) → AreDnames q before → (x : Name) (s : RRset) → In s (step q before x).answers → IsAnswer q (step q before x).made (before ++ (step q before x).answers) s
  step_answers before dnames x s = by (step_of q before x)
    where
      HasAnswers : Step → Type 0
      HasAnswers v = In s v.answers → IsAnswer q v.made (before ++ v.answers) s

      of : (v : Step) → step q before x ≡ v → HasAnswers v → HasAnswers (step q before x)
      of v e h = subst HasAnswers (sym e) h

      by : StepOf q before x → HasAnswers (step q before x)
      by (leaves i e) = of (at_end (outside x)) e (λ i. absurd i)
      by (refers r i f e) = of (at_end (referred r)) e (λ i. absurd i)
      by (fails r f g e) = of (at_end failed) e (λ i. absurd i)
      by (new_name v target o f call_concludes g e) = of (new_name_step q.signed t before x v o) e (new_name_answers before dnames x v target (turned_by q zone x v f) call_concludes o g s)
      by (at_name u there e) = of (step_at q None x x) e (λ i. node_answers None x x (λ k. refl) (λ w k. absurd cc) s i (before ++ (step_at q None x x).answers))
      by (no_wildcard_name u absent f e) = of (at_end (missing x None false)) e (λ i. absurd i)
      by (at_wildcard w u absent f g e) =
          of (step_at q (Some w) x w) e
          (λ i. node_answers (Some w) x w (λ k. absurd cc) (λ v k. (same w v k, subst (IsMade q x) (same w v k) (record { unturned = u; absent = absent; wildcard_name = f }))) s i
          (before ++ (step_at q (Some w) x w).answers))
        where
          same : (a b : Name) → Some a ≡ Some b → a ≡ b
          same a b e = cc
      by (wildcard_gone w u absent f g e) = of (at_end (missing x (Some w) false)) e (λ i. absurd i)

  -- ---- the path

  -- the sets of a path answer in the section that they stand in, behind others
  abbrev Answer : List RRset → Path → Type 0
  Answer before p = (s : RRset) → In s p.answers → IsAnswer q p.made (before ++ p.answers) s

  answers_from : (k : ℕ) (seen : List Name) (before : List RRset) → AreDnames q before → (x : Name) → Answer before (path_from q k seen before x)
  answers_from zero seen before dnames x = λ s i. absurd i
  answers_from (suc k) seen before dnames x = by (answers_from k (seen ++ x ∷ []) (before ++ answers)) (list_any (name_eq x) seen)
    where
      answers : List RRset
      answers = (step q before x).answers

      made : List Name
      made = (step q before x).made

      rest : Next → Path
      rest = searched (path_from q k (seen ++ x ∷ []) (before ++ answers))

      From : Type 0
      From = AreDnames q (before ++ answers) → (y : Name) → Answer (before ++ answers) (path_from q k (seen ++ x ∷ []) (before ++ answers) y)

      later : From → (n : Next) → next_behind q before x ≡ n → Answer (before ++ answers) (rest n)
      later from (on y) e = from (dnames_on q zone before dnames x y e) y
      later from (ends e) f = λ s i. absurd i

      either : (p : Path) → Answer (before ++ answers) p → Answer before (behind answers made p)
      either p h s i = subst (λ all. IsAnswer q (made ++ p.made) all s) (append_assoc before answers p.answers) (of (In-from_append s answers p.answers i))
        where
          more_made : (more : List Name) → ((y : Name) → In y more → In y (made ++ p.made)) → IsAnswer q more ((before ++ answers) ++ p.answers) s → IsAnswer q (made ++ p.made) ((before ++ answers) ++ p.answers) s
          more_made more more_of = among_more q more (made ++ p.made) ((before ++ answers) ++ p.answers) s more_of

          of : In s answers ⊎ In s p.answers → IsAnswer q (made ++ p.made) ((before ++ answers) ++ p.answers) s
          of (inl u) = more_made made (λ y. In-append_left y made p.made) (origin_in_longer q (before ++ answers) s (ByWildcardOf q made) p.answers (step_answers before dnames x s u))
          of (inr u) = more_made p.made (λ y. In-append_right y made p.made) (h s u)

      by : From → (b : Bool) → Answer before (cond b (ended unfollowed) (behind answers made (rest (next_behind q before x))))
      by from true = λ s i. absurd i
      by from false = either (rest (next_behind q before x)) (later from (next_behind q before x) refl)

  pub path_answers : (x : Name) (s : RRset) → In s (path q x).answers → IsAnswer q (path q x).made (path q x).answers s
  unfolding path
  path_answers x = answers_from 8 [] [] (λ r i. absurd i) x
