-- Which step a name gives, case by case
use Rattle.std.proofs.Common.{◌≡◌, true, false, cond, List, sym, ap, ◌∙◌, subst}
use Rattle.std.specs.Prelude.{Option, Some, None, Result, IfOk}
use Rattle.std.proofs.lemmas.List.{append-nil}
use Rattle.zone_proto.specs.Names.{Name, is_at_or_above}
use Rattle.zone_proto.specs.Sets.{RRset}
use Rattle.zone_map.specs.Wildcards.{exists}
use Rattle.zone_response.specs.declared.steps.Next.{Next as KeptNext}
use Rattle.zone_response.specs.declared.steps.SoFar.{SoFar}
use Rattle.zone_response.specs.Nodes.{AtNode, at_node}
use Rattle.zone_response.specs.Queries.{Inquiry}
use Rattle.zone_response.specs.Sections.{sent_sets}
use Rattle.zone_response.specs.Wildcards.{source_of_synthesis}
use Rattle.zone_response.specs.Steps.{End, missing, outside, ends, Step, at_end, node_step, step_at, wildcard_step, name_step, diverted_step, step, next_of, Takes}
use Rattle.zone_response.specs.Descent.{Diversion, diversion}

-- ---- what is taken of a step

-- an end adds nothing
pub at_its_end : (s : Step) (e : End) (before : SoFar) (came : KeptNext) → s ≡ at_end e → next_of came ≡ ends e → Takes s before before came
at_its_end s e before came is next =
    subst (λ u. Takes u before before came) (sym is)
    (record { answers = sym (append-nil (sent_sets before.answers)); made = sym (append-nil before.made.items); next = next })

pub same_step : {E : Type 0} (result : Result KeptNext E) (before after : SoFar) (s t : Step) → s ≡ t → IfOk result (λ next. Takes t before after next) → IfOk result (λ next. Takes s before after next)
same_step result before after s t e h = subst (λ u. IfOk result (λ next. Takes u before after next)) (sym e) h

-- ---- the step of a name

module _ (q : Inquiry) (x : Name) where
  module _ (before : List RRset) where
    pub outside_step : is_at_or_above q.origin x ≡ false → step q before x ≡ at_end (outside x)
    outside_step h = ap (λ b. cond b (diverted_step q before x (diversion q.origin q.sets x q.record_type)) (at_end (outside x))) h

    pub inside_step : (o : Option Diversion) → is_at_or_above q.origin x ≡ true → o ≡ diversion q.origin q.sets x q.record_type → step q before x ≡ diverted_step q before x o
    inside_step o h e =
        ap (λ b. cond b (diverted_step q before x (diversion q.origin q.sets x q.record_type)) (at_end (outside x))) h
        ∙ ap (diverted_step q before x) (sym e)

  at_a : (wildcard_name : Option Name) (a : Name) (node : AtNode) → node ≡ at_node q.sets a q.record_type → step_at q wildcard_name x a ≡ node_step q wildcard_name x node
  at_a wildcard_name a node e = ap (node_step q wildcard_name x) (sym e)

  pub own_step : (node : AtNode) → exists q.sets x ≡ true → node ≡ at_node q.sets x q.record_type → name_step q x ≡ node_step q None x node
  own_step node h e = ap (λ b. cond b (step_at q None x x) (wildcard_step q x (source_of_synthesis q.sets x))) h ∙ at_a None x node e

  pub absent_step : (wildcard_name : Option Name) → exists q.sets x ≡ false → wildcard_name ≡ source_of_synthesis q.sets x → name_step q x ≡ wildcard_step q x wildcard_name
  absent_step wildcard_name h e = ap (λ b. cond b (step_at q None x x) (wildcard_step q x (source_of_synthesis q.sets x))) h ∙ ap (wildcard_step q x) (sym e)

  pub starred_step : (wildcard_name : Name) (node : AtNode) → exists q.sets wildcard_name ≡ true → node ≡ at_node q.sets wildcard_name q.record_type
      → wildcard_step q x (Some wildcard_name) ≡ node_step q (Some wildcard_name) x node
  starred_step wildcard_name node h e = ap (λ b. cond b (step_at q (Some wildcard_name) x wildcard_name) (at_end (missing x (Some wildcard_name) false))) h ∙ at_a (Some wildcard_name) wildcard_name node e

  pub starless_step : (wildcard_name : Name) → exists q.sets wildcard_name ≡ false → wildcard_step q x (Some wildcard_name) ≡ at_end (missing x (Some wildcard_name) false)
  starless_step wildcard_name h = ap (λ b. cond b (step_at q (Some wildcard_name) x wildcard_name) (at_end (missing x (Some wildcard_name) false))) h
