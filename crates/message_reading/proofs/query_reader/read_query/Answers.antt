use Rattle.std.proofs.Common.{sym, ap, ◌∙◌}
use Rattle.message_reading.specs.Queries.{if_formed}
use Rattle.message_reading.proofs.Queries.{query_none, query_response, query_opcode, query_rest, reads_same}
use Rattle.message_reading.proofs.query_reader.read_query.Goals as goal

pub returns-in_default : goal.returns-in_default
returns-in_default c = query_none c.args.message.now c.in_default.ensures

pub returns-then-header : goal.returns-then-header
returns-then-header c = query_response c.args.message.now c.in-Some.header c.in-Some.rest.now c.in-Some.ensures c.if-header.true

pub returns-then-header-ne0 : goal.returns-then-header-ne0
returns-then-header-ne0 c =
    query_opcode c.args.message.now c.in-Some.header c.in-Some.rest.now c.in-Some.ensures c.if-header.false c.if-header-ne0.true

pub returns-in-None : goal.returns-in-None
returns-in-None c =
    query_rest c.args.message.now c.in-Some.header c.in-Some.rest.now c.in-Some.ensures c.if-header.false c.if-header-ne0.false
    ∙ ap (if_formed c.in-Some.header) (sym (rw c.in-None.is at c.in_ok-body_of.ensures))

pub returns-in-Some-2 : goal.returns-in-Some-2
returns-in-Some-2 c =
    reads_same _ _
    (c.if_version.ensures ∙ ap (if_formed c.in-Some.header) (rw c.in-Some-2.is at c.in_ok-body_of.ensures)
    ∙ sym (query_rest c.args.message.now c.in-Some.header c.in-Some.rest.now c.in-Some.ensures c.if-header.false c.if-header-ne0.false))
