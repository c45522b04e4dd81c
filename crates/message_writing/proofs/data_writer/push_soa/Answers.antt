use Rattle.std.proofs.Common.{◌++◌, ap, ◌∙◌}
use Rattle.message_writing.specs.DataText.{name_text, timers_text}
use Rattle.message_writing.proofs.Fields.{three}
use Rattle.message_writing.proofs.data_writer.push_soa.Goals as goal

pub returns-clause-text : goal.returns-clause-text
returns-clause-text c =
    let s = c.args.soa.now in
    let cuts = c.args.cuts in
    three c.args.out.now.items c.push_cut.new.out.items c.push_cut-2.new.out.items c.push_timers.new.out.items (name_text cuts.first s.mname)
    (name_text cuts.second s.rname) (timers_text s)
    (c.in_ok-push_cut.ensures ∙ ap (λ n. c.args.out.now.items ++ name_text cuts.first n) c.labels.ensures.value)
    (c.in_ok-push_cut-2.ensures ∙ ap (λ n. c.push_cut.new.out.items ++ name_text cuts.second n) c.labels-2.ensures.value) c.in_ok-push_timers.ensures.text
