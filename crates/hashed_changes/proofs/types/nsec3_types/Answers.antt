use Rattle.std.proofs.Common.{sym, ap, ◌∙◌}
use Rattle.zone_denial.proofs.Sets.TypesJoined.{numbers}
use Rattle.hashed_changes.proofs.Listed.{none_listed, some_listed, at_origin}
use Rattle.hashed_changes.proofs.types.nsec3_types.Goals as goal
use Rattle.hashed_changes.proofs.types.nsec3_types.Goals.{then-not-is_empty+in_ok-join-3, else-not-is_empty}

pub returns-then-eq-clause-ok : goal.returns-then-eq-clause-ok
returns-then-eq-clause-ok c =
    at_origin c.args.origin.now c.args.zone.now c.args.name.now c.in_ok-types.ensures.zone
    (numbers c.from_vec.result) (numbers c.join.new.types.items) (numbers c.in_ok-types.types.items)
    (sym c.eq.ensures ∙ c.if-eq.true) (ap numbers c.from_vec.ensures ∙ c.in_ok-join-2.ensures.ok) c.in_ok-join.ensures.ok c.in_ok-types.ensures.ok

pub returns-clause-ok : goal.returns-clause-ok
returns-clause-ok c =
    let other = sym c.eq.ensures ∙ c.if-eq.false in
    let made = ap numbers c.from_vec-2.ensures in
    elim c.if-not-is_empty.branch [
      | then-not-is_empty+in_ok-join-3 w ↦
          some_listed c.args.origin.now c.args.zone.now c.args.name.now c.in_ok-types.ensures.zone
          c.in_ok-types.types.items (numbers c.from_vec-2.result) c.in_ok-types.types.len other c.in_ok-types.ensures.ok c.in_ok-types.types.ok.0
          (sym c.is_empty.ensures ∙ w.if-not-is_empty.true) (made ∙ ap (λ v. numbers v.items) w.types-is ∙ w.in_ok-join-3.ensures.ok)
      | else-not-is_empty w ↦
          made
          ∙ ap (λ v. numbers v.items) w.types-is
          ∙ none_listed c.args.origin.now c.args.zone.now c.args.name.now c.in_ok-types.ensures.zone
          c.in_ok-types.types.items c.in_ok-types.types.len other c.in_ok-types.ensures.ok c.in_ok-types.types.ok.0
          (sym c.is_empty.ensures ∙ w.if-not-is_empty.false)
    ]
