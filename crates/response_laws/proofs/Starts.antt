-- How a search begins: at a zone cut, at a fault, at a name without the set that is asked for, or with a set that answers
use Rattle.std.proofs.Common.{◌≡◌, ◌≢◌, ℕ, suc, arith, Bool, true, false, cond, not, ◌&&◌, List, [], ◌∷◌, ◌++◌, refl, sym, ap, ◌∙◌, subst, true≢false}
use Rattle.std.specs.Prelude.{Option, Some, None, length, ◌==◌}
use Rattle.std.proofs.lemmas.Bool.Decides.{nat_tests}
use Rattle.zone_proto.specs.Names.{Name, is_at_or_above}
use Rattle.zone_proto.specs.Sets.{RRset}
use Rattle.zone_response.specs.Nodes.{AtNode}
use Rattle.zone_response.specs.Paths.{unless_answered, Path, behind, searched, path_from, path}
use Rattle.zone_response.specs.Queries.{Inquiry}
use Rattle.zone_response.specs.Responses.{is_authority}
use Rattle.zone_response.specs.Sections.{is_signed, as_it_is, part_for}
use Rattle.zone_response.specs.Aname.{StandInAnswer, addresses, no_addresses, untold, stand_in_answer}
use Rattle.zone_response.specs.Steps.{End, complete, referred, missing, outside, unfollowed, too_long, failed, ends, Step, at_end, as_found_for, expanded_names, keeps, stood_in_step, node_step, new_name_step, step_at, step}
use Rattle.zone_response.specs.Descent.{diversion}
use Rattle.response_laws.specs.Contents.{is_cut}
use Rattle.response_laws.proofs.Stepped.{NodeOf, has_set, has_alias, has_stand_in, has_nothing, node_of, StepOf, leaves, refers, fails, new_name, at_name, no_wildcard_name, at_wildcard, wildcard_gone, step_of}

some_behind : (before more : List RRset) → before ≢ [] → before ++ more ≢ []
some_behind [] more h e = h refl
some_behind (s ∷ before) more h e = cc

module _ (q : Inquiry) (x : Name) where
  abbrev t : ℕ
  t = q.record_type

  -- the path behind a first step
  abbrev whole : Step → Path
  whole s = behind s.answers s.made (searched (path_from q 7 (x ∷ []) s.answers) (unless_answered t s.answers s.next))

  path_is : path q x ≡ whole (step q [] x)
  unfolding path
  path_is = refl

  -- what a first step gives, unless a zone cut refers at once
  data Begins (s : Step) : Type 0 where
    fails_at_once : s ≡ at_end failed → Begins s
    lacks_at_once : (wildcard_name : Option Name) (there : Bool) → s ≡ at_end (missing x wildcard_name there) → Begins s
    answers_first : s.answers ≢ [] → Begins s

  node_begins : (wildcard_name : Option Name) (a : Name) → Begins (step_at q wildcard_name x a)
  node_begins wildcard_name a = by (node_of q.sets a t)
    where
      at : AtNode → Step
      at = node_step q wildcard_name x

      of : (n : AtNode) → Begins (at n) → (m : AtNode) → m ≡ n → Begins (at m)
      of n h m e = subst (λ n. Begins (at n)) (sym e) h

      addressed : (v : RRset) (b : Bool) → Begins (cond b (at_end failed) (record { answers = as_it_is (part_for q.signed) v ∷ []; made = expanded_names wildcard_name x; next = ends complete }))
      addressed v true = fails_at_once refl
      addressed v false = answers_first (λ e. cc)

      stood_in : (w : StandInAnswer) → Begins (stood_in_step q.is_proved q.signed wildcard_name x w)
      stood_in (addresses v) = addressed v (q.is_proved && not (is_signed v))
      stood_in no_addresses = lacks_at_once wildcard_name true refl
      stood_in untold = fails_at_once refl

      by : NodeOf q.sets a t → Begins (step_at q wildcard_name x a)
      by (has_set s e f) = subst (λ n. Begins (at n)) (sym f) (answers_first (λ e. cc))
      by (has_alias s e f g) = subst (λ n. Begins (at n)) (sym g) (answers_first (λ e. cc))
      by (has_stand_in s e f k g) = subst (λ n. Begins (at n)) (sym g) (stood_in (stand_in_answer q x (as_found_for (keeps q.signed t) wildcard_name x s)))
      by (has_nothing e f g) = subst (λ n. Begins (at n)) (sym g) (lacks_at_once wildcard_name true refl)

  renaming_begins : (s : RRset) (new : Option Name) → Begins (new_name_step q.signed t [] x s new)
  renaming_begins s None = answers_first (λ e. cc)
  renaming_begins s (Some n) = answers_first (λ e. cc)

  -- ---- the whole path

  pub data Start : Type 0 where
    starts_at_cut : (c : RRset) → is_cut (diversion q.origin q.sets x q.record_type) ≡ true → (path q x).end ≡ referred c → (path q x).answers ≡ [] → Start
    starts_at_fault : (path q x).end ≡ failed → Start
    starts_lacking : (wildcard_name : Option Name) (there : Bool) → is_cut (diversion q.origin q.sets x q.record_type) ≡ false → (path q x).end ≡ missing x wildcard_name there → Start
    starts_answering : is_cut (diversion q.origin q.sets x q.record_type) ≡ false → (path q x).answers ≢ [] → Start

  begun : (v : Step) → step q [] x ≡ v → is_cut (diversion q.origin q.sets x t) ≡ false → Begins v → Start
  begun v e uncut (fails_at_once f) = starts_at_fault (ap (λ (p : Path). p.end) (path_is ∙ ap whole (e ∙ f)))
  begun v e uncut (lacks_at_once wildcard_name there f) = starts_lacking wildcard_name there uncut (ap (λ (p : Path). p.end) (path_is ∙ ap whole (e ∙ f)))
  begun v e uncut (answers_first h) =
      starts_answering uncut
      (λ none. some_behind v.answers (searched (path_from q 7 (x ∷ []) v.answers) (unless_answered t v.answers v.next)).answers h
      (sym (ap (λ (p : Path). p.answers) (path_is ∙ ap whole e)) ∙ none))

  pub start : is_at_or_above q.origin x ≡ true → Start
  start inside = by (step_of q [] x)
    where
      by : StepOf q [] x → Start
      by (leaves out e) = absurd (true≢false (sym inside ∙ out))
      by (refers c i f e) =
          let p = path_is ∙ ap whole e in
          starts_at_cut c (ap is_cut f) (ap (λ (p : Path). p.end) p) (ap (λ (p : Path). p.answers) p)
      by (fails s f g e) = starts_at_fault (ap (λ (p : Path). p.end) (path_is ∙ ap whole e))
      by (new_name s target new f call_concludes g e) = begun (new_name_step q.signed t [] x s new) e (ap is_cut f) (renaming_begins s new)
      by (at_name u there e) = begun (step_at q None x x) e (ap is_cut u.unturned) (node_begins None x)
      by (no_wildcard_name u absent f e) = begun (at_end (missing x None false)) e (ap is_cut u.unturned) (lacks_at_once None false refl)
      by (at_wildcard w u absent f g e) = begun (step_at q (Some w) x w) e (ap is_cut u.unturned) (node_begins (Some w) w)
      by (wildcard_gone w u absent f g e) = begun (at_end (missing x (Some w) false)) e (ap is_cut u.unturned) (lacks_at_once (Some w) false refl)

-- ---- what follows

-- an end of which nothing is said
abbrev pub IsAway : End → Type 0
IsAway (outside x) = Unit {0}
IsAway unfollowed = Unit {0}
IsAway too_long = Unit {0}
IsAway _ = ⊥

module _ (q : Inquiry) (x : Name) (inside : is_at_or_above q.origin x ≡ true) where
  -- a search ends so behind a set that answers
  pub away_answers : IsAway (path q x).end → (path q x).answers ≢ []
  away_answers away = by (start q x inside)
    where
      by : Start q x → (path q x).answers ≢ []
      by (starts_at_cut c t f a) = absurd (subst IsAway f away)
      by (starts_at_fault f) = absurd (subst IsAway f away)
      by (starts_lacking wildcard_name there t f) = absurd (subst IsAway f away)
      by (starts_answering t h) = h

  not_empty : (k : ℕ) → (suc k == 0) ≡ false
  not_empty k = grind (arith, nat_tests)

  some_authority : (e : End) (answers : List RRset) → answers ≢ [] → is_authority e answers ≡ true
  some_authority (referred c) [] h = absurd (h refl)
  some_authority (referred c) (s ∷ answers) h = ap not (not_empty (length answers))
  some_authority (missing y wildcard_name there) answers h = refl
  some_authority complete answers h = refl
  some_authority (outside y) answers h = refl
  some_authority unfollowed answers h = refl
  some_authority too_long answers h = refl
  some_authority failed answers h = refl

  -- the server is an authority for the name unless a zone cut refers at once
  pub authority_is : ((path q x).end ≡ failed → ⊥) → is_authority (path q x).end (path q x).answers ≡ not (is_cut (diversion q.origin q.sets x q.record_type))
  authority_is passes = by (start q x inside)
    where
      by : Start q x → is_authority (path q x).end (path q x).answers ≡ not (is_cut (diversion q.origin q.sets x q.record_type))
      by (starts_at_cut c t f a) = (λ i. is_authority (f i) (a i)) ∙ sym (ap not t)
      by (starts_at_fault f) = absurd (passes f)
      by (starts_lacking wildcard_name there t f) = ap (λ e. is_authority e (path q x).answers) f ∙ sym (ap not t)
      by (starts_answering t h) = some_authority (path q x).end (path q x).answers h ∙ sym (ap not t)
