use Rattle.std.proofs.Common.{List, sym, ◌∙◌, subst}
use Rattle.std.specs.List.{Contains}
use Rattle.zone_proto.specs.Names.{Name}
use Rattle.zone_map.proofs.OtherOwners.{denial_left, known_left, all_left}
use Rattle.zone_map.proofs.owner_index.other_names.Goals as goal
use Rattle.zone_map.proofs.owner_index.other_names.Goals.{else-not-is_denial_type-via-then-not-is_denial_type+else-not-is_last, else-not-is_denial_type-via-else-not-is_denial_type}

pub loop-key-preserved : goal.loop-key-preserved
loop-key-preserved c = elim c.else-not-is_denial_type.branch [
  | else-not-is_denial_type-via-then-not-is_denial_type+else-not-is_last w ↦ known_left c.loop-key.names.items c.loop-key.key-iterator c.next.new.self c.args.sets.now (c.in-Some.key.now, c.in-Some.field-0-1.now) c.in-Some.ensures.steps c.loop-key.invariant
      (subst (λ (ns : List Name). Contains ns c.in-Some.key.now.name) w.deref.ensures.value (w.is_last.ensures w.if-not-is_last.false))
  | else-not-is_denial_type-via-else-not-is_denial_type w ↦
      denial_left c.loop-key.names.items c.loop-key.key-iterator c.next.new.self c.args.sets.now (c.in-Some.key.now, c.in-Some.field-0-1.now) c.in-Some.ensures.steps c.loop-key.invariant (sym c.is_denial_type.ensures ∙ w.if-not-is_denial_type.false)
]

pub returns-clause-names : goal.returns-clause-names
returns-clause-names c = all_left c.loop-key.names.items c.loop-key.key-iterator c.args.sets.now c.loop-key.invariant c.in-None.ensures.steps.0
