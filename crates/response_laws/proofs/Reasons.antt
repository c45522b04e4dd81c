-- Sets of denial are in a response only where something is to be proved
use Rattle.std.proofs.Common.{◌≡◌, ℕ, zero, suc, Bool, true, false, cond, not, ◌&&◌, List, [], ◌∷◌, ◌++◌, refl, sym, ap, ◌∙◌, subst, ◌⊎◌, inl, inr}
use Rattle.std.specs.Prelude.{Option, Some, None}
use Rattle.std.specs.List.{list_any}
use Rattle.zone_proto.specs.Names.{Name, name_eq}
use Rattle.zone_proto.specs.Sets.{RRset}
use Rattle.zone_proto.proofs.Members.{In, In-from_append, In-append_left, In-append_right}
use Rattle.zone_map.specs.Wildcards.{exists}
use Rattle.zone_response.specs.declared.response.Part.{Part}
use Rattle.zone_response.specs.Denials.{proofs}
use Rattle.zone_response.specs.Nodes.{AtNode}
use Rattle.zone_response.specs.Paths.{next_behind, Path, ended, behind, searched, path_from, path}
use Rattle.zone_response.specs.Queries.{Zone, Inquiry}
use Rattle.zone_response.specs.Sections.{is_signed, as_it_is, part_for}
use Rattle.zone_response.specs.Aname.{StandInAnswer, addresses, no_addresses, untold, stand_in_answer}
use Rattle.zone_response.specs.Steps.{End, complete, referred, missing, outside, unfollowed, too_long, failed, Next, on, ends, Step, at_end, as_found_for, expanded_names, keeps, own_part, stood_in_step, node_step, new_name_step, step_at, step}
use Rattle.response_laws.proofs.Leads.{sent_owner}
use Rattle.response_laws.proofs.StandIns.{addresses_of_last}
use Rattle.response_laws.proofs.Stepped.{NodeOf, has_set, has_alias, has_stand_in, has_nothing, node_of, StepOf, leaves, refers, fails, new_name, at_name, no_wildcard_name, at_wildcard, wildcard_gone, step_of}

-- ---- for which end something is to be proved

abbrev pub NeedsProof : Option RRset → End → Type 0
NeedsProof ds (missing x wildcard_name there) = Unit {0}
NeedsProof None (referred c) = Unit {0}
NeedsProof (Some s) (referred c) = ⊥
NeedsProof ds _ = ⊥

-- sets prove something of a name for which a wildcard answered, or of the end
pub proves_what : (z : Zone) (ds : Option RRset) (made : List Name) (e : End) (sets : List RRset) (s : RRset) → proofs z ds made e ≡ sets → In s sets → ((y : Name) × In y made) ⊎ NeedsProof ds e
proves_what z ds (y ∷ made) e sets s is i = inl (y, inl refl)
proves_what z ds [] e sets s is i = inr (by ds e is)
  where
    none : [] ≡ sets → ⊥
    none f = subst (In s) (sym f) i

    by : (ds : Option RRset) (e : End) → proofs z ds [] e ≡ sets → NeedsProof ds e
    by ds (missing x wildcard_name there) f = tt
    by None (referred c) f = tt
    by (Some d) (referred c) f = none f
    by None complete f = none f
    by (Some d) complete f = none f
    by None (outside x) f = none f
    by (Some d) (outside x) f = none f
    by None unfollowed f = none f
    by (Some d) unfollowed f = none f
    by None too_long f = none f
    by (Some d) too_long f = none f
    by None failed f = none f
    by (Some d) failed f = none f

-- ---- the answer of a wildcard

module _ (q : Inquiry) where
  abbrev t : ℕ
  t = q.record_type

  -- a set that answers for a name which doesn't exist
  pub record AnswersAbsent (answers : List RRset) : Type 0 where
    pub set : RRset
    pub among : In set answers
    pub absent : exists q.sets set.owner ≡ false

  abbrev Synthesized : Step → Type 0
  Synthesized s = (y : Name) → In y s.made → AnswersAbsent s.answers

  node_starred : (w x : Name) → exists q.sets x ≡ false → Synthesized (step_at q (Some w) x w)
  node_starred w x absent = by (node_of q.sets w t)
    where
      at : AtNode → Step
      at = node_step q (Some w) x

      kept : RRset → RRset
      kept = as_found_for (keeps q.signed t) (Some w) x

      under : (p : Part) (v : RRset) → v.owner ≡ x → AnswersAbsent (as_it_is p v ∷ [])
      under p v e = record { set = as_it_is p v; among = inl refl; absent = ap (exists q.sets) (sent_owner p v.ttl v ∙ e) ∙ absent }

      addressed : (s v : RRset) → stand_in_answer q x (kept s) ≡ addresses v → (b : Bool) → Synthesized (cond b (at_end failed) (record { answers = as_it_is (part_for q.signed) v ∷ []; made = expanded_names (Some w) x; next = ends complete }))
      addressed s v f true y i = absurd i
      addressed s v f false y i = under (part_for q.signed) v (ap (λ (r : RRset). r.owner) (addresses_of_last q x (kept s) v f).is)

      stood_in : (s : RRset) (a : StandInAnswer) → stand_in_answer q x (kept s) ≡ a → Synthesized (stood_in_step q.is_proved q.signed (Some w) x a)
      stood_in s (addresses v) f = addressed s v f (q.is_proved && not (is_signed v))
      stood_in s no_addresses f = λ y i. absurd i
      stood_in s untold f = λ y i. absurd i

      by : NodeOf q.sets w t → Synthesized (step_at q (Some w) x w)
      by (has_set s e f) = subst (λ n. Synthesized (at n)) (sym f) (λ y i. under (own_part q.signed t) (kept s) refl)
      by (has_alias s e f g) = subst (λ n. Synthesized (at n)) (sym g) (λ y i. under (part_for q.signed) (kept s) refl)
      by (has_stand_in s e f k g) = subst (λ n. Synthesized (at n)) (sym g) (stood_in s (stand_in_answer q x (kept s)) refl)
      by (has_nothing e f g) = subst (λ n. Synthesized (at n)) (sym g) (λ y i. absurd i)

  -- at a name that exists no wildcard answers
  node_own : (x : Name) → Synthesized (step_at q None x x)
  node_own x = by (node_of q.sets x t)
    where
      at : AtNode → Step
      at = node_step q None x

      addressed : (v : RRset) (b : Bool) → Synthesized (cond b (at_end failed) (record { answers = as_it_is (part_for q.signed) v ∷ []; made = expanded_names None x; next = ends complete }))
      addressed v true y i = absurd i
      addressed v false y i = absurd i

      stood_in : (a : StandInAnswer) → Synthesized (stood_in_step q.is_proved q.signed None x a)
      stood_in (addresses v) = addressed v (q.is_proved && not (is_signed v))
      stood_in no_addresses = λ y i. absurd i
      stood_in untold = λ y i. absurd i

      by : NodeOf q.sets x t → Synthesized (step_at q None x x)
      by (has_set s e f) = subst (λ n. Synthesized (at n)) (sym f) (λ y i. absurd i)
      by (has_alias s e f g) = subst (λ n. Synthesized (at n)) (sym g) (λ y i. absurd i)
      by (has_stand_in s e f k g) = subst (λ n. Synthesized (at n)) (sym g) (stood_in (stand_in_answer q x (as_found_for (keeps q.signed t) None x s)))
      by (has_nothing e f g) = subst (λ n. Synthesized (at n)) (sym g) (λ y i. absurd i)

  renamed_plain : (before : List RRset) (x : Name) (s : RRset) (new : Option Name) → Synthesized (new_name_step q.signed t before x s new)
  renamed_plain before x s None = λ y i. absurd i
  renamed_plain before x s (Some n) = λ y i. absurd i

  step_starred : (before : List RRset) (x : Name) → Synthesized (step q before x)
  step_starred before x = by (step_of q before x)
    where
      of : (v : Step) → step q before x ≡ v → Synthesized v → Synthesized (step q before x)
      of v e h = subst Synthesized (sym e) h

      by : StepOf q before x → Synthesized (step q before x)
      by (leaves i e) = of (at_end (outside x)) e (λ y i. absurd i)
      by (refers r i f e) = of (at_end (referred r)) e (λ y i. absurd i)
      by (fails s f g e) = of (at_end failed) e (λ y i. absurd i)
      by (new_name v target o f call_concludes g e) = of (new_name_step q.signed t before x v o) e (renamed_plain before x v o)
      by (at_name u there e) = of (step_at q None x x) e (node_own x)
      by (no_wildcard_name u absent f e) = of (at_end (missing x None false)) e (λ y i. absurd i)
      by (at_wildcard w u absent f g e) = of (step_at q (Some w) x w) e (node_starred w x absent)
      by (wildcard_gone w u absent f g e) = of (at_end (missing x (Some w) false)) e (λ y i. absurd i)

  -- ---- the path

  abbrev SynthesizedPath : Path → Type 0
  SynthesizedPath p = (y : Name) → In y p.made → AnswersAbsent p.answers

  starred_from : (k : ℕ) (seen : List Name) (before : List RRset) (x : Name) → SynthesizedPath (path_from q k seen before x)
  starred_from zero seen before x = λ y i. absurd i
  starred_from (suc k) seen before x = by (starred_from k (seen ++ x ∷ []) (before ++ answers)) (list_any (name_eq x) seen)
    where
      answers : List RRset
      answers = (step q before x).answers

      rest : Name → Path
      rest = path_from q k (seen ++ x ∷ []) (before ++ answers)

      later : ((y : Name) → SynthesizedPath (rest y)) → (n : Next) → SynthesizedPath (searched rest n)
      later from (on y) = from y
      later from (ends e) = λ y i. absurd i

      either : (p : Path) → SynthesizedPath p → SynthesizedPath (behind answers (step q before x).made p)
      either p h y i = of (In-from_append y (step q before x).made p.made i)
        where
          of : In y (step q before x).made ⊎ In y p.made → AnswersAbsent (answers ++ p.answers)
          of (inl u) = let a = step_starred before x y u in record { set = a.set; among = In-append_left a.set answers p.answers a.among; absent = a.absent }
          of (inr u) = let a = h y u in record { set = a.set; among = In-append_right a.set answers p.answers a.among; absent = a.absent }

      by : ((y : Name) → SynthesizedPath (rest y)) → (b : Bool) → SynthesizedPath (cond b (ended unfollowed) (behind answers (step q before x).made (searched rest (next_behind q before x))))
      by from true = λ y i. absurd i
      by from false = either (searched rest (next_behind q before x)) (later from (next_behind q before x))

  pub path_starred : (x y : Name) → In y (path q x).made → AnswersAbsent (path q x).answers
  unfolding path
  path_starred x = starred_from 8 [] [] x
