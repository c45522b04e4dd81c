use Rattle.std.proofs.Common.{◌≡◌, true, false, refl, sym, ap, ◌∙◌}
use Rattle.std.specs.Prelude.{Option, Some, None, option_map, is_some}
use Rattle.std.specs.Ordering.{eq_by_cmp}
use Rattle.zone_proto.specs.declared.record_type.RecordType.{RecordType}
use Rattle.zone_proto.specs.Names.{name_cmp}
use Rattle.zone_map.proofs.AnyTypes.{chosen_end, chosen_over, chosen_here, chosen_first, chosen_later, chosen_whole, first_number}
use Rattle.zone_map.proofs.Neighbours.{not_false, not_true, front_types}
use Rattle.zone_map.proofs.record_map.RecordMap.any_type.Goals as goal
use Rattle.zone_map.proofs.record_map.RecordMap.any_type.Goals.{in-None, in-Some+then-ne}

none_passed : (first : Option RecordType) → is_some first ≡ false → option_map (λ (t : RecordType). t.0) first ≡ None
none_passed None h = refl
none_passed (Some t) h = cc

one_passed : (first : Option RecordType) → is_some first ≡ true → is_some (option_map (λ (t : RecordType). t.0) first) ≡ true
one_passed None h = cc
one_passed (Some t) h = refl

pub returns-then-is_preferred : goal.returns-then-is_preferred
returns-then-is_preferred c =
    let same : eq_by_cmp name_cmp c.in-Some.key.now.name c.args.least.now.name ≡ true = not_false _ (sym c.ne.ensures ∙ c.if-ne.false) in
    sym (chosen_here c.args.least.now.name _ c.next.new.self (c.in-Some.key.now, c.in-Some.field-0-1.now) c.in-Some.ensures.steps (option_map (λ (t : RecordType). t.0) c.loop-key.first) same (sym c.if-is_preferred.ensures))
    ∙ c.loop-key.invariant
    ∙ chosen_whole c.args.least.now c.args.self.now c.self.inside.sets c.requires c.from-key-items.ensures.ordered c.self.view_is

pub loop-key-preserved-then-is_none : goal.loop-key-preserved-then-is_none
loop-key-preserved-then-is_none c =
    let same : eq_by_cmp name_cmp c.in-Some.key.now.name c.args.least.now.name ≡ true = not_false _ (sym c.ne.ensures ∙ c.if-ne.false) in
    chosen_first c.args.least.now.name _ c.next.new.self (c.in-Some.key.now, c.in-Some.field-0-1.now) c.in-Some.ensures.steps (option_map (λ (t : RecordType). t.0) c.loop-key.first) (none_passed c.loop-key.first c.if-is_none.ensures) same (sym c.if-is_preferred.ensures)
    ∙ c.loop-key.invariant

pub loop-key-preserved : goal.loop-key-preserved
loop-key-preserved c =
    let same : eq_by_cmp name_cmp c.in-Some.key.now.name c.args.least.now.name ≡ true = not_false _ (sym c.ne.ensures ∙ c.if-ne.false) in
    chosen_later c.args.least.now.name _ c.next.new.self (c.in-Some.key.now, c.in-Some.field-0-1.now) c.in-Some.ensures.steps (option_map (λ (t : RecordType). t.0) c.loop-key.first) (one_passed c.loop-key.first c.if-is_none.ensures) same (sym c.if-is_preferred.ensures)
    ∙ c.loop-key.invariant

pub returns : goal.returns
returns c =
    let whole = chosen_whole c.args.least.now c.args.self.now c.self.inside.sets c.requires c.from-key-items.ensures.ordered c.self.view_is in
    let first = option_map (λ (t : RecordType). t.0) c.loop-key.first in
    ap (λ (t : RecordType). t.0) c.unwrap_or.ensures ∙ first_number c.loop-key.first ∙ elim c.match-next.branch [
      | in-None w ↦ sym (chosen_end first (front_types c.args.least.now.name c.loop-key.key-iterator) (ap (front_types c.args.least.now.name) w.in-None.ensures.steps.0)) ∙ c.loop-key.invariant ∙ whole
      | in-Some+then-ne w ↦
          let other : eq_by_cmp name_cmp w.in-Some.key.now.name c.args.least.now.name ≡ false = not_true _ (sym w.ne.ensures ∙ w.if-ne.true) in
          sym (chosen_over c.args.least.now.name _ c.next.new.self (w.in-Some.key.now, w.in-Some.field-0-1.now) w.in-Some.ensures.steps first other) ∙ c.loop-key.invariant ∙ whole
    ]
