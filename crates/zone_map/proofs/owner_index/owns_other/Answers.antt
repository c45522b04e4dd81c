use Rattle.std.proofs.Common.{◌≡◌, not, true, false, refl, sym, ap, ◌∙◌}
use Rattle.std.specs.List.{list_any}
use Rattle.std.specs.Ordering.{eq_by_cmp}
use Rattle.zone_proto.specs.Names.{name_cmp}
use Rattle.zone_map.specs.Upserts.{is_denial_type}
use Rattle.zone_map.proofs.Neighbours.{not_false, not_true, front_types, front_noted, front_over, front_is_whole}
use Rattle.zone_map.proofs.owner_index.owns_other.Goals as goal

pub loop-key-preserved : goal.loop-key-preserved
loop-key-preserved c =
    let same : eq_by_cmp name_cmp c.in-Some.key.now.name c.args.least.now.name ≡ true = not_false _ (sym c.ne.ensures ∙ c.if-ne.false) in
    front_noted (λ t. not (is_denial_type t)) c.args.least.now.name _ c.next.new.self (c.in-Some.key.now, c.in-Some.field-0-1.now) c.in-Some.ensures.steps false false _
    same (sym (ap not (sym c.is_denial_type.ensures ∙ c.if-not-is_denial_type.false))) c.loop-key.invariant

pub returns-then-not-is_denial_type : goal.returns-then-not-is_denial_type
returns-then-not-is_denial_type c =
    let same : eq_by_cmp name_cmp c.in-Some.key.now.name c.args.least.now.name ≡ true = not_false _ (sym c.ne.ensures ∙ c.if-ne.false) in
    front_noted (λ t. not (is_denial_type t)) c.args.least.now.name _ c.next.new.self (c.in-Some.key.now, c.in-Some.field-0-1.now) c.in-Some.ensures.steps false true _
    same (sym (ap not (sym c.is_denial_type.ensures ∙ c.if-not-is_denial_type.true))) c.loop-key.invariant
    ∙ front_is_whole (λ t. not (is_denial_type t)) c.args.least.now c.args.sets.now c.args.sets.now c.requires c.from-key-items.ensures.ordered refl

pub returns-then-ne : goal.returns-then-ne
returns-then-ne c =
    let other : eq_by_cmp name_cmp c.in-Some.key.now.name c.args.least.now.name ≡ false = not_true _ (sym c.ne.ensures ∙ c.if-ne.true) in
    sym (front_over (λ t. not (is_denial_type t)) c.args.least.now.name _ c.next.new.self (c.in-Some.key.now, c.in-Some.field-0-1.now) c.in-Some.ensures.steps other)
    ∙ c.loop-key.invariant
    ∙ front_is_whole (λ t. not (is_denial_type t)) c.args.least.now c.args.sets.now c.args.sets.now c.requires c.from-key-items.ensures.ordered refl

pub returns-in-None : goal.returns-in-None
returns-in-None c =
    sym (ap (λ es. list_any (λ t. not (is_denial_type t)) (front_types c.args.least.now.name es)) c.in-None.ensures.steps.0)
    ∙ c.loop-key.invariant
    ∙ front_is_whole (λ t. not (is_denial_type t)) c.args.least.now c.args.sets.now c.args.sets.now c.requires c.from-key-items.ensures.ordered refl
