-- What one step of a search comes to
use Rattle.std.proofs.Common.{◌≡◌, ℕ, Bool, true, false, cond, List, refl, ap, ◌∙◌}
use Rattle.std.specs.Prelude.{Option, Some, None}
use Rattle.zone_proto.specs.Names.{Name, is_at_or_above}
use Rattle.zone_proto.specs.Sets.{RRset}
use Rattle.zone_proto.specs.Types.{CNAME}
use Rattle.zone_map.specs.Wildcards.{exists}
use Rattle.zone_map.specs.Zones.{Sets, set_at}
use Rattle.zone_response.specs.Nodes.{own, alias, stand_in, nothing, asked_set, stand_in_set, first_of, at_node}
use Rattle.zone_response.specs.Queries.{Inquiry}
use Rattle.zone_response.specs.Dname.{dname_target, in_place_of, unless_long}
use Rattle.zone_response.specs.Wildcards.{source_of_synthesis}
use Rattle.zone_response.specs.Steps.{outside, referred, missing, failed, at_end, target_step, new_name_step, step_at, wildcard_step, diverted_step, step}
use Rattle.zone_response.specs.Descent.{Diversion, cut, renaming, diversion}

-- what a name has for a type
pub data NodeOf (m : Sets) (a : Name) (t : ℕ) : Type 0 where
  has_set : (s : RRset) → asked_set m a t ≡ Some s → at_node m a t ≡ own s → NodeOf m a t
  has_alias : (s : RRset) → asked_set m a t ≡ None → set_at m a CNAME ≡ Some s → at_node m a t ≡ alias s → NodeOf m a t
  has_stand_in : (s : RRset) → asked_set m a t ≡ None → set_at m a CNAME ≡ None → stand_in_set m a t ≡ Some s → at_node m a t ≡ stand_in s → NodeOf m a t
  has_nothing : asked_set m a t ≡ None → set_at m a CNAME ≡ None → at_node m a t ≡ nothing → NodeOf m a t

pub node_of : (m : Sets) (a : Name) (t : ℕ) → NodeOf m a t
node_of m a t = by (asked_set m a t) refl (set_at m a CNAME) refl (stand_in_set m a t) refl
  where
    by : (o : Option RRset) → asked_set m a t ≡ o → (c : Option RRset) → set_at m a CNAME ≡ c → (p : Option RRset) → stand_in_set m a t ≡ p → NodeOf m a t
    by (Some s) e c f p g = has_set s e (ap (λ o. first_of o (set_at m a CNAME) (stand_in_set m a t)) e)
    by None e (Some s) f p g = has_alias s e f (λ i. first_of (e i) (f i) (stand_in_set m a t))
    by None e None f (Some s) g = has_stand_in s e f g (λ i. first_of (e i) (f i) (g i))
    by None e None f None g = has_nothing e f (λ i. first_of (e i) (f i) (g i))

-- a name of the zone on the way down to which nothing turns
pub record IsUndiverted (q : Inquiry) (x : Name) : Type 0 where
  pub inside : is_at_or_above q.origin x ≡ true
  pub unturned : diversion q.origin q.sets x q.record_type ≡ None

-- where a name stands, and the step from there
pub data StepOf (q : Inquiry) (before : List RRset) (x : Name) : Type 0 where
  leaves : is_at_or_above q.origin x ≡ false → step q before x ≡ at_end (outside x) → StepOf q before x
  refers : (s : RRset) → is_at_or_above q.origin x ≡ true → diversion q.origin q.sets x q.record_type ≡ Some (cut s) → step q before x ≡ at_end (referred s) → StepOf q before x
  fails : (s : RRset) → diversion q.origin q.sets x q.record_type ≡ Some (renaming s) → dname_target s ≡ None → step q before x ≡ at_end failed → StepOf q before x
  new_name : (s : RRset) (target : Name) (new : Option Name) → diversion q.origin q.sets x q.record_type ≡ Some (renaming s) → dname_target s ≡ Some target → unless_long (in_place_of s.owner target x) ≡ new
      → step q before x ≡ new_name_step q.signed q.record_type before x s new → StepOf q before x
  at_name : IsUndiverted q x → exists q.sets x ≡ true → step q before x ≡ step_at q None x x → StepOf q before x
  no_wildcard_name : IsUndiverted q x → exists q.sets x ≡ false → source_of_synthesis q.sets x ≡ None → step q before x ≡ at_end (missing x None false) → StepOf q before x
  at_wildcard : (wildcard_name : Name) → IsUndiverted q x → exists q.sets x ≡ false → source_of_synthesis q.sets x ≡ Some wildcard_name → exists q.sets wildcard_name ≡ true → step q before x ≡ step_at q (Some wildcard_name) x wildcard_name → StepOf q before x
  wildcard_gone : (wildcard_name : Name) → IsUndiverted q x → exists q.sets x ≡ false → source_of_synthesis q.sets x ≡ Some wildcard_name → exists q.sets wildcard_name ≡ false → step q before x ≡ at_end (missing x (Some wildcard_name) false) → StepOf q before x

module _ (q : Inquiry) (before : List RRset) (x : Name) where
  abbrev the_turn : Option Diversion
  the_turn = diversion q.origin q.sets x q.record_type

  by_wildcard : (inside : is_at_or_above q.origin x ≡ true) → the_turn ≡ None → step q before x ≡ wildcard_step q x (source_of_synthesis q.sets x) → exists q.sets x ≡ false → (o : Option Name) → source_of_synthesis q.sets x ≡ o → StepOf q before x
  by_wildcard inside e step_is absent None f = no_wildcard_name (record { inside = inside; unturned = e }) absent f (step_is ∙ ap (wildcard_step q x) f)
  by_wildcard inside e step_is absent (Some wildcard_name) f = by (exists q.sets wildcard_name) refl
    where
      by : (b : Bool) → exists q.sets wildcard_name ≡ b → StepOf q before x
      by true g =
          at_wildcard wildcard_name (record { inside = inside; unturned = e }) absent f g
          (step_is ∙ ap (wildcard_step q x) f ∙ ap (λ b. cond b (step_at q (Some wildcard_name) x wildcard_name) (at_end (missing x (Some wildcard_name) false))) g)
      by false g =
          wildcard_gone wildcard_name (record { inside = inside; unturned = e }) absent f g
          (step_is ∙ ap (wildcard_step q x) f ∙ ap (λ b. cond b (step_at q (Some wildcard_name) x wildcard_name) (at_end (missing x (Some wildcard_name) false))) g)

  by_turn : (inside : is_at_or_above q.origin x ≡ true) → step q before x ≡ diverted_step q before x the_turn → (o : Option Diversion) → the_turn ≡ o → StepOf q before x
  by_turn inside step_is (Some (cut s)) e = refers s inside e (step_is ∙ ap (diverted_step q before x) e)
  by_turn inside step_is (Some (renaming s)) e = by (dname_target s) refl
    where
      by : (o : Option Name) → dname_target s ≡ o → StepOf q before x
      by (Some target) f =
          new_name s target (unless_long (in_place_of s.owner target x)) e f refl
          (step_is ∙ ap (diverted_step q before x) e ∙ ap (target_step q.signed q.record_type before x s) f)
      by None f = fails s e f (step_is ∙ ap (diverted_step q before x) e ∙ ap (target_step q.signed q.record_type before x s) f)
  by_turn inside step_is None e = by (exists q.sets x) refl
    where
      by : (b : Bool) → exists q.sets x ≡ b → StepOf q before x
      by true f = at_name (record { inside = inside; unturned = e }) f (step_is ∙ ap (diverted_step q before x) e ∙ ap (λ b. cond b (step_at q None x x) (wildcard_step q x (source_of_synthesis q.sets x))) f)
      by false f = by_wildcard inside e (step_is ∙ ap (diverted_step q before x) e ∙ ap (λ b. cond b (step_at q None x x) (wildcard_step q x (source_of_synthesis q.sets x))) f) f (source_of_synthesis q.sets x) refl

  pub step_of : StepOf q before x
  step_of = by (is_at_or_above q.origin x) refl
    where
      by : (b : Bool) → is_at_or_above q.origin x ≡ b → StepOf q before x
      by true e = by_turn e (ap (λ b. cond b (diverted_step q before x the_turn) (at_end (outside x))) e) the_turn refl
      by false e = leaves e (ap (λ b. cond b (diverted_step q before x the_turn) (at_end (outside x))) e)
