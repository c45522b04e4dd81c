use Rattle.std.proofs.Common.{sym, ap, ◌∙◌}
use Rattle.zone_denial.proofs.Sets.TypesJoined.{place_of, kept_by, put_by, put_past}
use Rattle.hashed_changes.proofs.types.join.Goals as goal
use Rattle.hashed_changes.proofs.types.join.Goals.{else-place-len-via-then-place-len+else-eq, else-place-len-via-else-place-len}

pub returns-then-eq-clause-ok : goal.returns-then-eq-clause-ok
returns-then-eq-clause-ok c =
    kept_by c.args.record_type c.index.result.now c.args.types.now.items c.count_below-place.result c.len.result
    (c.count_below-place.ensures.value ∙ ap (place_of c.args.record_type) c.as_slice.ensures.value) (c.len.ensures ∙ c.args.types.now.ok.0)
    c.if-place-len.true c.index.ensures (sym c.eq.ensures ∙ c.if-eq.true)

pub returns-clause-ok : goal.returns-clause-ok
returns-clause-ok c =
    let t = c.args.record_type in
    let us = c.args.types.now.items in
    let place = c.count_below-place.ensures.value ∙ ap (place_of t) c.as_slice.ensures.value in
    let len = c.len.ensures ∙ c.args.types.now.ok.0 in
    elim c.else-place-len.branch [
      | else-place-len-via-then-place-len+else-eq w ↦
          put_by t w.index.result.now us c.insert.new.self.items c.count_below-place.result c.len.result place len w.if-place-len.true w.index.ensures
          (sym w.eq.ensures ∙ w.if-eq.false) c.in_ok-insert.ensures.items
      | else-place-len-via-else-place-len w ↦
          put_past t us c.insert.new.self.items c.count_below-place.result c.len.result place len w.if-place-len.false c.in_ok-insert.ensures.items
    ]
