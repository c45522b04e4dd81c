use Rattle.std.proofs.Common.{◌∙◌, arith}
use Rattle.zone_texts.specs.Generation.{Template}
use Rattle.zone_texts.proofs.Generated.{next_record}
use Rattle.zone_texts.proofs.generate.put_all.Goals as goal

pub loop-left-preserved : goal.loop-left-preserved
loop-left-preserved c =
    let t : Template = record { owner = c.args.template.now.owner.now; middle = c.args.template.now.middle.now; data_word = c.args.template.now.data_word.now } in
    let next = next_record c.args.context.now c.args.place t c.args.numbers.step c.loop-left.left c.loop-left.number c.in-Some.next c.loop-left.records.items c.push.new.self.items _
    (omega arith) (omega arith) (c.in_ok-given.ensures c.args.place) c.in_ok-push.ensures.items in
    c.loop-left.invariant ∙ next
