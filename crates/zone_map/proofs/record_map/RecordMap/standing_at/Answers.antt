use Rattle.std.proofs.Common.{◌≡◌, ◌==◌, ◌||◌, Bool, true, false, refl, sym, ap, ◌∙◌, subst, true≢false}
use Rattle.std.specs.List.{list_any}
use Rattle.std.specs.Ordering.{eq_by_cmp}
use Rattle.zone_proto.specs.Names.{name_cmp}
use Rattle.zone_map.specs.Upserts.{clash}
use Rattle.zone_map.proofs.AnyTypes.{Ascends}
use Rattle.zone_map.proofs.AtName.{type_listed, rest_ascends, none_noted, whole_ascends}
use Rattle.zone_map.proofs.Neighbours.{not_false, not_true, from_key, front_types, front_over, front_noted, all_noted, front_is_whole}
use Rattle.zone_map.proofs.record_map.RecordMap.standing_at.Goals as goal
use Rattle.zone_map.proofs.record_map.RecordMap.standing_at.Goals.{then-clashes-via-then-clashes, then-clashes-via-else-clashes+then-none_clashes_after}

pub loop-key-init : goal.loop-key-init
loop-key-init c =
    let first : c.into_iter-key-iterator.result ≡ from_key c.args.least.now c.args.self.now =
    c.into_iter-key-iterator.ensures.into_iter_gives ∙ c.from-key-items.ensures.sets ∙ ap (from_key c.args.least.now) c.self.view_is in
    record {
      clashes = ap (λ es. list_any (clash c.args.record_type.0) (front_types c.args.least.now.name es)) first;
      there = ap (λ es. list_any (λ u. c.args.record_type.0 == u) (front_types c.args.least.now.name es)) first;
      ascend =
          subst (λ es. Ascends (front_types c.args.least.now.name es)) (sym first)
          (whole_ascends c.args.least.now c.args.self.now c.self.inside.sets c.requires c.from-key-items.ensures.ordered c.self.view_is);
    }

pub loop-key-preserved : goal.loop-key-preserved
loop-key-preserved c =
    let same : eq_by_cmp name_cmp c.in-Some.key.now.name c.args.least.now.name ≡ true = not_false _ (sym c.ne.ensures ∙ c.if-ne.false) in
    record {
      clashes =
          front_noted (clash c.args.record_type.0) c.args.least.now.name _ c.next.new.self (c.in-Some.key.now, c.in-Some.field-0-1.now) c.in-Some.ensures.steps false false _
          same (sym c.if-clashes.false ∙ c.clash-clashes.ensures) c.loop-key.invariant.clashes;
      there =
          front_noted (λ u. c.args.record_type.0 == u) c.args.least.now.name _ c.next.new.self (c.in-Some.key.now, c.in-Some.field-0-1.now) c.in-Some.ensures.steps c.loop-key.is_there _ _
          same (ap (λ b. c.loop-key.is_there || b) c.eq-is_there.ensures) c.loop-key.invariant.there;
      ascend = rest_ascends c.args.least.now.name _ c.next.new.self (c.in-Some.key.now, c.in-Some.field-0-1.now) c.in-Some.ensures.steps same c.loop-key.invariant.ascend;
    }

-- where what was noted decides, or nothing that is left does, it is the whole
enough : (b rest whole : Bool) → (b ≡ false → rest ≡ false) → b || rest ≡ whole → b ≡ whole
enough true rest whole e h = h
enough false rest whole e h = sym (e refl) ∙ h

pub returns-then-clashes-clause-clashes : goal.returns-then-clashes-clause-clashes
returns-then-clashes-clause-clashes c =
    let same : eq_by_cmp name_cmp c.in-Some.key.now.name c.args.least.now.name ≡ true = not_false _ (sym c.ne.ensures ∙ c.if-ne.false) in
    enough c.clash-clashes.result (list_any (clash c.args.record_type.0) (front_types c.args.least.now.name c.next.new.self)) _
    (elim c.then-clashes.branch [
      | then-clashes-via-then-clashes w ↦ λ other. absurd (true≢false (sym w.if-clashes.true ∙ other))
      | then-clashes-via-else-clashes+then-none_clashes_after w ↦
          λ other. none_noted c.args.least.now.name _ c.next.new.self (c.in-Some.key.now, c.in-Some.field-0-1.now) c.in-Some.ensures.steps same c.loop-key.invariant.ascend
          (clash c.args.record_type.0) (w.none_clashes_after.ensures w.if-none_clashes_after.true)
    ])
    (front_noted (clash c.args.record_type.0) c.args.least.now.name _ c.next.new.self (c.in-Some.key.now, c.in-Some.field-0-1.now) c.in-Some.ensures.steps false c.clash-clashes.result _
    same c.clash-clashes.ensures c.loop-key.invariant.clashes)
    ∙ front_is_whole (clash c.args.record_type.0) c.args.least.now c.args.self.now c.self.inside.sets c.requires c.from-key-items.ensures.ordered c.self.view_is

pub returns-in-None-clause-clashes : goal.returns-in-None-clause-clashes
returns-in-None-clause-clashes c =
    sym (ap (λ es. list_any (clash c.args.record_type.0) (front_types c.args.least.now.name es)) c.in-None.ensures.steps.0)
    ∙ c.loop-key.invariant.clashes
    ∙ front_is_whole (clash c.args.record_type.0) c.args.least.now c.args.self.now c.self.inside.sets c.requires c.from-key-items.ensures.ordered c.self.view_is

pub returns-in-None-clause-absent : goal.returns-in-None-clause-absent
returns-in-None-clause-absent c h =
    sym (all_noted c.loop-key.is_there _ _ (ap (λ es. list_any (λ u. c.args.record_type.0 == u) (front_types c.args.least.now.name es)) c.in-None.ensures.steps.0) c.loop-key.invariant.there
    ∙ front_is_whole (λ u. c.args.record_type.0 == u) c.args.least.now c.args.self.now c.self.inside.sets c.requires c.from-key-items.ensures.ordered c.self.view_is
    ∙ type_listed c.args.self.now c.args.least.now.name c.args.record_type.0)
    ∙ h

pub returns-then-ne-clause-clashes : goal.returns-then-ne-clause-clashes
returns-then-ne-clause-clashes c =
    let other : eq_by_cmp name_cmp c.in-Some.key.now.name c.args.least.now.name ≡ false = not_true _ (sym c.ne.ensures ∙ c.if-ne.true) in
    sym (front_over (clash c.args.record_type.0) c.args.least.now.name _ c.next.new.self (c.in-Some.key.now, c.in-Some.field-0-1.now) c.in-Some.ensures.steps other)
    ∙ c.loop-key.invariant.clashes
    ∙ front_is_whole (clash c.args.record_type.0) c.args.least.now c.args.self.now c.self.inside.sets c.requires c.from-key-items.ensures.ordered c.self.view_is

pub returns-then-ne-clause-absent : goal.returns-then-ne-clause-absent
returns-then-ne-clause-absent c h =
    let other : eq_by_cmp name_cmp c.in-Some.key.now.name c.args.least.now.name ≡ false = not_true _ (sym c.ne.ensures ∙ c.if-ne.true) in
    sym (all_noted c.loop-key.is_there _ _
    (front_over (λ u. c.args.record_type.0 == u) c.args.least.now.name _ c.next.new.self (c.in-Some.key.now, c.in-Some.field-0-1.now) c.in-Some.ensures.steps other) c.loop-key.invariant.there
    ∙ front_is_whole (λ u. c.args.record_type.0 == u) c.args.least.now c.args.self.now c.self.inside.sets c.requires c.from-key-items.ensures.ordered c.self.view_is
    ∙ type_listed c.args.self.now c.args.least.now.name c.args.record_type.0)
    ∙ h
