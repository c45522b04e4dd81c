use Rattle.std.proofs.Common.{◌++◌, ap, ◌∙◌}
use Rattle.zone_proto.specs.Names.{wire_form}
use Rattle.message_writing.proofs.OptBack.{question_written, question_octets}
use Rattle.message_writing.proofs.message_parts.push_question.Goals as goal

pub returns-clause-read : goal.returns-clause-read
returns-clause-read c =
    let q = c.args.question.now in
    question_written c.args.out.now.items c.push_wire.new.out.items c.push_short.new.out.items c.push_short-2.new.out.items q.name q.query_type.0
    q.query_class.0 c.labels.ensures.valid
    (c.in_ok-push_wire.ensures ∙ ap (λ n. c.args.out.now.items ++ wire_form n) c.labels.ensures.value) c.in_ok-push_short.ensures
    c.in_ok-push_short-2.ensures

pub returns-clause-length : goal.returns-clause-length
returns-clause-length c =
    let q = c.args.question.now in
    question_octets c.args.out.now.items c.push_wire.new.out.items c.push_short.new.out.items c.push_short-2.new.out.items q.name q.query_type.0
    q.query_class.0 (c.in_ok-push_wire.ensures ∙ ap (λ n. c.args.out.now.items ++ wire_form n) c.labels.ensures.value) c.in_ok-push_short.ensures
    c.in_ok-push_short-2.ensures
