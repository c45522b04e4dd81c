-- How names one label below the origin are denied that don't exist
use Rattle.std.proofs.Common.{◌≡◌, ℕ, ◌≤◌, ◌&&◌, ◌||◌, Bool, true, false, true≢false, cond, not, [], ◌∷◌, ◌==◌, length, refl, sym, ap, ◌∙◌, subst, arith}
use Rattle.std.specs.Option.{option_map_or}
use Rattle.std.specs.Prelude.{Option, Some, None, is_some}
use Rattle.zone_proto.specs.Names.{Name, wildcard_of, is_at_or_above, name_eq}
use Rattle.zone_proto.specs.Sets.{RRset}
use Rattle.zone_proto.specs.Types.{IN, NS, DS, SOA}
use Rattle.zone_proto.specs.declared.response_code.ResponseCode.{ResponseCode}
use Rattle.zone_proto.specs.declared.response_code.ResponseCode.TheVariants as code
use Rattle.zone_proto.proofs.Names.NameTree.{is_at_or_above_complete}
use Rattle.zone_map.proofs.ExistingNames.{owner_exists}
use Rattle.zone_map.specs.Wildcards.{exists}
use Rattle.zone_map.specs.Zones.{Sets, set_at}
use Rattle.zone_response.specs.ApexDenials.{child_denial, missing_child, HasPlainApex, IsMissingChild, MissingChildrenAreDenied}
use Rattle.zone_response.specs.Descent.{cut_at, diversion, diversion_above, diversion_by}
use Rattle.zone_response.specs.Paths.{ended, behind, path, path_from, searched, unless_answered}
use Rattle.zone_response.specs.Queries.{Zone, Query, Inquiry, inquiry}
use Rattle.zone_response.specs.QueryTypes.{is_no_data}
use Rattle.zone_response.specs.Responses.{answered, authority_sets, lacks_proofs, outcome, outcome_along, outcome_of, outcome_proven, refusal, refused, unprovable, without_soa, Outcome, IsResponse, IsResponseTo}
use Rattle.zone_response.specs.Steps.{at_end, step, Step}
use Rattle.zone_response.specs.Wildcards.{IsUnderApex}
use Rattle.zone_response.proofs.PathSteps.{unseen}
use Rattle.zone_response.proofs.StepCases.{absent_step, inside_step, starless_step}
use Rattle.zone_response.proofs.TurnWalk.{at_origin, of_itself, or_none, own_turn}
use Rattle.zone_response.proofs.UnderApex.{longer_by_one, none_longer, source_under_apex}

-- a name that doesn't exist owns no NS set
no_cut : (m : Sets) (x : Name) → exists m x ≡ false → set_at m x NS ≡ None
no_cut m x absent = by (set_at m x NS) refl
  where
    by : (o : Option RRset) → set_at m x NS ≡ o → o ≡ None
    by None e = refl
    by (Some s) e = absurd (true≢false (sym (owner_exists m x NS (ap is_some e) refl) ∙ absent))

no_cut_at : (m : Sets) (origin x : Name) (t : ℕ) → set_at m x NS ≡ None → None ≡ cut_at origin m x t x
no_cut_at m origin x t none = sym (ap (cond (name_eq x origin || (name_eq x x && (t == DS))) None) none ∙ by (name_eq x origin || (name_eq x x && (t == DS))))
  where
    by : (b : Bool) → cond {A = Option RRset} b None None ≡ None
    by true = refl
    by false = refl

module _ (m : Sets) (origin x : Name) (soa : RRset) (t : ℕ) (apex : HasPlainApex m origin soa) (gone : IsMissingChild m origin x) where
  pub inside : is_at_or_above origin x ≡ true
  inside = is_at_or_above_complete origin x (gone.child.0 ∷ [], gone.child.1)

  pub under : IsUnderApex m origin x
  under = record { child = gone.child; there = owner_exists m origin SOA (ap is_some apex.soa_is) refl }

  not_turned : None ≡ diversion origin m x t
  not_turned =
      let short : length x ≤ length x = omega arith in
      let above : None ≡ diversion_above origin m x t x =
      at_origin origin m x t x None None None inside (longer_by_one m origin x under) short (none_longer m origin x under)
      (sym (ap (diversion_by None) apex.dname)) refl
      ∙ or_none (diversion_above origin m x t x) in
      own_turn origin m x t None inside (no_cut_at m origin x t (no_cut m x gone.absent)) ∙ of_itself origin m x t above

module _ (z : Zone) (q : Query) (soa : RRset) (apex : HasPlainApex z.sets z.origin soa) (gone : IsMissingChild z.sets z.origin q.name) where
  abbrev i : Inquiry
  i = inquiry z q

  step_is : step i [] q.name ≡ at_end (missing_child q.name)
  step_is =
      let star : exists z.sets (wildcard_of q.name) ≡ false = ap (λ (n : Name). exists z.sets (wildcard_of n)) gone.child.1 ∙ apex.wildcard in
      inside_step i q.name [] None (inside z.sets z.origin q.name soa q.record_type apex gone)
      (not_turned z.sets z.origin q.name soa q.record_type apex gone)
      ∙ absent_step i q.name (Some (wildcard_of q.name)) gone.absent
      (source_under_apex z.sets z.origin q.name (under z.sets z.origin q.name soa q.record_type apex gone))
      ∙ starless_step i q.name (wildcard_of q.name) star

  path_is : path i q.name ≡ ended (missing_child q.name)
  unfolding path
  path_is =
      unseen i 8 7 [] [] q.name refl refl
      ∙ ap (λ (s : Step). behind s.answers s.made (searched (path_from i 7 (q.name ∷ []) s.answers) (unless_answered q.record_type s.answers s.next))) step_is

  searched_for : q.class ≡ IN → is_no_data q.record_type ≡ false → refusal z.origin q ≡ None
  searched_for class is_data =
      (λ j. cond (not (class j == IN) || not (inside z.sets z.origin q.name soa q.record_type apex gone j)) (Some code.Refused)
      (cond (is_data j) (Some code.NotImp) None))

  proven : lacks_proofs z q.signed [] (missing_child q.name) ≡ false
      → outcome_proven z q.signed soa (ended (missing_child q.name)) ≡ answered (ended (missing_child q.name)) (authority_sets z q.signed soa [] (missing_child q.name))
  proven lacks = ap (λ b. cond b unprovable (answered (ended (missing_child q.name)) (authority_sets z q.signed soa [] (missing_child q.name)))) lacks

  pub denied : q.class ≡ IN → is_no_data q.record_type ≡ false → lacks_proofs z q.signed [] (missing_child q.name) ≡ false
      → IsResponse z q (child_denial z soa q.signed q.name)
  denied class is_data provable =
      let come : outcome z q ≡ answered (ended (missing_child q.name)) (authority_sets z q.signed soa [] (missing_child q.name)) =
      ap (λ (o : Option ResponseCode). option_map_or refused o (outcome_of z i q.name)) (searched_for class is_data)
      ∙ ap (λ (o : Option RRset). option_map_or (λ s. outcome_along z q.signed s (path i q.name)) o without_soa) apex.soa_is
      ∙ ap (outcome_along z q.signed soa) path_is
      ∙ proven provable in
      subst (λ (o : Outcome). IsResponseTo i o (child_denial z soa q.signed q.name)) (sym come)
      (record { code = refl; authoritative = refl; answers = refl; authorities = refl; additionals = refl; glue = refl; left_at = refl })

pub missing_children_are_denied : MissingChildrenAreDenied
missing_children_are_denied z q soa apex gone class is_data provable = denied z q soa apex gone class is_data provable
