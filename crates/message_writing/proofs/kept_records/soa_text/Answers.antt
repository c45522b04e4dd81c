use Rattle.std.proofs.Common.{refl}
use Rattle.message_writing.specs.declared.kept_records.PointedText.{PointedText}
use Rattle.message_writing.proofs.KeptBack.{soa_data}
use Rattle.message_writing.proofs.kept_records.soa_text.Goals as goal

pub returns-clause-text : goal.returns-clause-text
returns-clause-text c =
    let here = c.in_ok-text-2.text in
    let after : PointedText = record { fronts = here.fronts; tail = c.push_timers.new.out } in
    soa_data c.args.origin.now c.new.result c.in_ok-text.text here after c.args.soa.now c.new.ensures c.in_ok-text.ensures c.in_ok-text-2.ensures
    refl c.in_ok-push_timers.ensures.text
