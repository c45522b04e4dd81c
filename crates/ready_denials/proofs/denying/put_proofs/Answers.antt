use Rattle.std.proofs.Common.{arith}
use Rattle.message_writing.specs.declared.response.Section.TheVariants.{Authorities}
use Rattle.zone_response.specs.Sections.{sent_set}
use Rattle.zone_server.proofs.GroupFacts.{puts_none}
use Rattle.ready_denials.proofs.DenialFacts.{proofs_all, proofs_more}
use Rattle.ready_denials.proofs.denying.put_proofs.Goals as goal

pub loop-set-init : goal.loop-set-init
loop-set-init c = record { put = puts_none Authorities c.args.writer.now c.args.out.now.items; going = c.requires }

pub loop-set-preserved : goal.loop-set-preserved
loop-set-preserved c = record {
  put = proofs_more c.args.ttl c.args.sets.now c.loop-set.set-index c.set-item.result (sent_set c.proof_of.result) c.args.writer.now c.loop-set.writer c.put_set.new.writer
      c.args.out.now.items c.loop-set.out.items c.put_set.new.out.items c.loop-set-test.true c.set-item.is c.proof_of.ensures c.loop-set.invariant.put c.in_ok-put_set.ensures.put;
  going = c.in_ok-put_set.ensures.going;
}

pub returns-clause-put : goal.returns-clause-put
returns-clause-put c =
    proofs_all c.args.ttl c.args.sets.now c.loop-set.set-index c.args.writer.now c.loop-set.writer c.args.out.now.items c.loop-set.out.items
    (omega (arith, c.loop-set-test.false)) c.loop-set.invariant.put
