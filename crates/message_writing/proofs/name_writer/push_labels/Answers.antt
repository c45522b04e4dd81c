use Rattle.std.proofs.Common.{ap, subst, ◌∙◌, ◌++◌, ◌≡◌, ◌-◌, ◌+◌, sym}
use Rattle.std.specs.List.{AllByRecursion}
use Rattle.zone_proto.specs.Names.{IsLabel, Name}
use Rattle.message_writing.specs.KnownNames.{labels_text}
use Rattle.message_writing.proofs.CutTexts.{push_more, push_none}
use Rattle.message_writing.proofs.name_writer.push_labels.Goals as goal
use Rattle.message_writing.proofs.name_writer.push_labels.Goals.{in-Some+in_ok-push_label-in-Some, in-None}

pub loop-preserved : goal.loop-preserved
loop-preserved c =
    let total = c.args.count in
    let i = c.loop.counter in
    let out = c.loop.out.items in
    let left = c.next.new.self in
    let text = c.args.out.now.items ++ labels_text total c.args.name in
    elim c.match-next.branch [
      | in-Some+in_ok-push_label-in-Some w ↦
          let l = w.in-Some.label.now in
          let step = w.in-Some.ensures.steps in
          let more = push_more out text total i l left c.loop-test.true (subst (λ (n : Name). out ++ labels_text (total - i) n ≡ text) step c.loop.invariant.written) in
          record {
            written = ap (λ o. o ++ labels_text (total - (i + 1)) left) (ap (λ o. o.items) w.out-is ∙ w.in_ok-push_label-in-Some.ensures) ∙ more;
            valid = (subst (AllByRecursion IsLabel) step c.loop.invariant.valid).1;
          }
      | in-None w ↦
          let step = w.in-None.ensures.steps in
          let same = push_none out text total i (subst (λ (n : Name). out ++ labels_text (total - i) n ≡ text) step.0 c.loop.invariant.written) in
          record {
            written = ap (λ o. o.items ++ labels_text (total - (i + 1)) left) w.out-is ∙ ap (λ (n : Name). out ++ labels_text (total - (i + 1)) n) step.1 ∙ same;
            valid = subst (AllByRecursion IsLabel) (sym step.1) tt;
          }
    ]
