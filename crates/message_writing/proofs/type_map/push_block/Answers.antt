use Rattle.std.proofs.Common.{◌++◌, ap, ◌∙◌}
use Rattle.std.proofs.lemmas.Result.{on_ok_weaker}
use Rattle.message_writing.proofs.MapWriting.{block_is}
use Rattle.message_writing.proofs.type_map.push_block.Goals as goal

pub returns : goal.returns
returns c =
    let is = block_is c.in-Some.first.now c.in-Some-split_last.last.now c.args.types.now c.in-Some.field-0-1.now c.in-Some-split_last.field-0-1.now
    c.in-Some.ensures.cases.0 c.in-Some-split_last.ensures.cases.0 in
    on_ok_weaker c.push_window.result (λ e. e ∙ ap (λ s. c.args.out.now.items ++ s) is) c.push_window.ensures
