use Rattle.std.proofs.Common.{refl}
use Rattle.message_writing.specs.declared.response_writer.ResponseWriter.{ResponseWriter}
use Rattle.message_writing.proofs.MoreGroups.{goes_on, puts_group, puts_left}
use Rattle.message_writing.proofs.response_writer.ResponseWriter.put.Goals as goal

pub returns-then-self-clause-put : goal.returns-then-self-clause-put
returns-then-self-clause-put c = puts_left c.args.section c.args.group.now c.args.self.now c.args.out.now.items c.if-self.true

pub returns-clause-put : goal.returns-clause-put
returns-clause-put c =
    let after : ResponseWriter = record c.args.self.now { hints = c.write_group.new.hints; counts = c.counts_with-self.result } in
    puts_group c.args.section c.args.group.now c.args.self.now after c.args.out.now.items c.write_group.new.out.items c.in_ok-written.written
    c.count_if-count.result c.if-self.false refl refl c.counts_with-self.ensures c.in_ok-written.ensures.ok
    (record { put = c.count_if-count.ensures.written; over = c.count_if-count.ensures.none })

pub returns-clause-going : goal.returns-clause-going
returns-clause-going c =
    let after : ResponseWriter = record c.args.self.now { hints = c.write_group.new.hints; counts = c.counts_with-self.result } in
    goes_on c.args.section c.args.group.now c.args.self.now after c.args.out.now.items c.write_group.new.out.items c.in_ok-written.written
    c.count_if-count.result refl refl c.counts_with-self.ensures c.in_ok-written.ensures.ok
    (record { put = c.count_if-count.ensures.written; over = c.count_if-count.ensures.none }) c.in_ok-written.ensures.within
    c.in_ok-written.ensures.asked c.requires
