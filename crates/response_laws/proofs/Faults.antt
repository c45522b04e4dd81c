-- A search that fails has come to a fault of the zone
use Rattle.std.proofs.Common.{◌≡◌, ℕ, zero, suc, Bool, true, false, cond, not, ◌&&◌, List, [], ◌∷◌, ◌++◌, refl, sym, ap, ◌∙◌, subst}
use Rattle.std.specs.Prelude.{Option, Some, None}
use Rattle.std.specs.List.{list_any}
use Rattle.zone_proto.specs.Names.{Name, lower, name_eq}
use Rattle.zone_proto.specs.Sets.{RRset}
use Rattle.zone_proto.specs.Types.{ANAME}
use Rattle.zone_map.specs.Chains.{cname_target}
use Rattle.zone_map.specs.Zones.{set_at}
use Rattle.zone_response.specs.Nodes.{AtNode}
use Rattle.zone_response.specs.Paths.{is_sought, unless_answered, next_behind, Path, ended, behind, searched, path_from, path}
use Rattle.zone_response.specs.Queries.{Inquiry}
use Rattle.zone_response.specs.Sections.{is_signed, as_it_is, part_for}
use Rattle.zone_response.specs.Aname.{StandInAnswer, addresses, no_addresses, untold, stand_in_answer}
use Rattle.zone_response.specs.Steps.{End, complete, referred, missing, outside, unfollowed, too_long, failed, Next, on, ends, Step, at_end, as_found_for, expanded_names, after_alias, keeps, stood_in_step, node_step, new_name_step, step_at, step}
use Rattle.zone_response.specs.Descent.{renaming}
use Rattle.response_laws.specs.Failures.{IsFoundAname, Fault, without_target, leads_away, unsigned}
use Rattle.response_laws.specs.Sayings.{asks_alias}
use Rattle.response_laws.proofs.StandIns.{aname_stands}
use Rattle.response_laws.proofs.Stepped.{NodeOf, has_set, has_alias, has_stand_in, has_nothing, node_of, StepOf, leaves, refers, fails, new_name, at_name, no_wildcard_name, at_wildcard, wildcard_gone, step_of}
use Rattle.response_laws.proofs.Turned.{turned_first, renaming_set}

module _ (q : Inquiry) where
  abbrev t : ℕ
  t = q.record_type

  -- where a step fails, there is a fault
  abbrev Faulty : Step → Type 0
  Faulty s = s.next ≡ ends failed → Fault q

  node_fault : (wildcard_name : Option Name) (x a : Name) → Faulty (step_at q wildcard_name x a)
  node_fault wildcard_name x a = by (node_of q.sets a t)
    where
      at : AtNode → Step
      at = node_step q wildcard_name x

      kept : RRset → RRset
      kept = as_found_for (keeps q.signed t) wildcard_name x

      found : (s : RRset) → set_at q.sets a ANAME ≡ Some s → IsFoundAname q x (kept s)
      found s e = record { owner = a; stored = s; stands = e; wildcard_name = wildcard_name; found = refl }

      lacking : ends (missing x wildcard_name true) ≡ ends failed → Fault q
      lacking h = absurd cc

      addressed : (s v : RRset) → set_at q.sets a ANAME ≡ Some s → stand_in_answer q x (kept s) ≡ addresses v → (p : Bool) → q.is_proved ≡ p → (b : Bool) → is_signed v ≡ b
          → Faulty (cond (p && not b) (at_end failed) (record { answers = as_it_is (part_for q.signed) v ∷ []; made = expanded_names wildcard_name x; next = ends complete }))
      addressed s v k f true e false g h = unsigned x (kept s) v (found s k) f e g
      addressed s v k f true e true g h = absurd cc
      addressed s v k f false e b g h = absurd cc

      stood_in : (s : RRset) → set_at q.sets a ANAME ≡ Some s → (w : StandInAnswer) → stand_in_answer q x (kept s) ≡ w → Faulty (stood_in_step q.is_proved q.signed wildcard_name x w)
      stood_in s k (addresses v) f = addressed s v k f q.is_proved refl (is_signed v) refl
      stood_in s k no_addresses f = lacking
      stood_in s k untold f = λ h. leads_away x (kept s) (found s k) f

      goes_on : (o : Option Name) → after_alias o ≡ ends failed → Fault q
      goes_on None h = absurd cc
      goes_on (Some n) h = absurd cc

      answered : ends complete ≡ ends failed → Fault q
      answered h = absurd cc

      by : NodeOf q.sets a t → Faulty (step_at q wildcard_name x a)
      by (has_set s e f) = subst (λ n. Faulty (at n)) (sym f) answered
      by (has_alias s e f g) = subst (λ n. Faulty (at n)) (sym g) (goes_on (cname_target s))
      by (has_stand_in s e f k g) = subst (λ n. Faulty (at n)) (sym g) (stood_in s (aname_stands q.sets a t s k) (stand_in_answer q x (kept s)) refl)
      by (has_nothing e f g) = subst (λ n. Faulty (at n)) (sym g) lacking

  renaming_fault : (before : List RRset) (x : Name) (s : RRset) (new : Option Name) → Faulty (new_name_step q.signed t before x s new)
  renaming_fault before x s None = too_long_is_none
    where
      too_long_is_none : ends too_long ≡ ends failed → Fault q
      too_long_is_none h = absurd cc
  renaming_fault before x s (Some n) = by (asks_alias t)
    where
      by : (b : Bool) → cond b (ends complete) (on (lower n)) ≡ ends failed → Fault q
      by true h = absurd cc
      by false h = absurd cc

  step_fault : (before : List RRset) (x : Name) → Faulty (step q before x)
  step_fault before x = by (step_of q before x)
    where
      of : (v : Step) → step q before x ≡ v → Faulty v → Faulty (step q before x)
      of v e h = subst Faulty (sym e) h

      at : (e : End) → (e ≡ failed → Fault q) → Faulty (at_end e)
      at e h f = h (end_is f)
        where
          end_is : ends e ≡ ends failed → e ≡ failed
          end_is f = cc

      by : StepOf q before x → Faulty (step q before x)
      by (leaves i e) = of (at_end (outside x)) e (at (outside x) (λ f. absurd cc))
      by (refers r i f e) = of (at_end (referred r)) e (at (referred r) (λ f. absurd cc))
      by (fails s f g e) =
          let n = turned_first q.origin q.sets x t (renaming s) f in
          λ h. without_target n.name s (renaming_set q.origin q.sets x t n.name s n.turns).1 g
      by (new_name v target o f call_concludes g e) = of (new_name_step q.signed t before x v o) e (renaming_fault before x v o)
      by (at_name u there e) = of (step_at q None x x) e (node_fault None x x)
      by (no_wildcard_name u absent f e) = of (at_end (missing x None false)) e (at (missing x None false) (λ f. absurd cc))
      by (at_wildcard w u absent f g e) = of (step_at q (Some w) x w) e (node_fault (Some w) x w)
      by (wildcard_gone w u absent f g e) = of (at_end (missing x (Some w) false)) e (at (missing x (Some w) false) (λ f. absurd cc))

  fault_from : (k : ℕ) (seen : List Name) (before : List RRset) (x : Name) → (path_from q k seen before x).end ≡ failed → Fault q
  fault_from zero seen before x = λ e. absurd cc
  fault_from (suc k) seen before x = by (fault_from k (seen ++ x ∷ []) (before ++ answers)) (list_any (name_eq x) seen)
    where
      answers : List RRset
      answers = (step q before x).answers

      rest : Name → Path
      rest = path_from q k (seen ++ x ∷ []) (before ++ answers)

      From : Type 0
      From = (y : Name) → (rest y).end ≡ failed → Fault q

      at_next : From → (n : Next) → (step q before x).next ≡ n → (searched rest (unless_answered t (before ++ answers) n)).end ≡ failed → Fault q
      at_next from (on y) f = call_concludes (list_any (is_sought t y) (before ++ answers))
        where
          call_concludes : (b : Bool) → (searched rest (cond b (ends complete) (on y))).end ≡ failed → Fault q
          call_concludes true e = absurd cc
          call_concludes false e = from y e
      at_next from (ends w) f = λ e. step_fault before x (f ∙ ap ends e)

      by : From → (b : Bool) → (cond b (ended unfollowed) (behind answers (step q before x).made (searched rest (next_behind q before x)))).end ≡ failed → Fault q
      by from true e = absurd cc
      by from false e = at_next from (step q before x).next refl e

  pub fault_of : (x : Name) → (path q x).end ≡ failed → Fault q
  unfolding path
  fault_of x e = fault_from 8 [] [] x e
