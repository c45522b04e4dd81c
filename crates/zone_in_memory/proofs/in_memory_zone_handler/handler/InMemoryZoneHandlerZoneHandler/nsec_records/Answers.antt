use Rattle.zone_handler.specs.declared.control_flow.LookupControlFlow.TheVariants.{Continue}
use Rattle.zone_in_memory.proofs.CircleAgreement.{answer_proves, wildcard_proves, answer_accepted}
use Rattle.zone_in_memory.proofs.ValidatorAgreement.{none_below_cut, none_outside}
use Rattle.zone_in_memory.proofs.in_memory_zone_handler.handler.InMemoryZoneHandlerZoneHandler.nsec_records.Goals as goal

pub returns-clause-proof : goal.returns-clause-proof
returns-clause-proof g c circle inside = answer_proves c.args.self.now.origin c.args.self.now.inner.records circle c.args.lookup_options c.args.name.now (Continue c.nsec_answer.result) inside c.nsec_answer.ensures

pub returns-clause-enclosed_wildcard : goal.returns-clause-enclosed_wildcard
returns-clause-enclosed_wildcard g c circle inside off = wildcard_proves c.args.self.now.origin c.args.self.now.inner.records circle c.args.lookup_options c.args.name.now (Continue c.nsec_answer.result) inside off c.nsec_answer.ensures

pub returns-clause-accepted : goal.returns-clause-accepted
returns-clause-accepted g c judged = answer_accepted c.args.self.now.origin c.args.self.now.inner.records c.args.lookup_options c.args.name.now (Continue c.nsec_answer.result) judged c.nsec_answer.ensures

pub returns-clause-below_cut : goal.returns-clause-below_cut
returns-clause-below_cut g c = none_below_cut c.args.self.now c.args.name.now c.args.lookup_options (Continue c.nsec_answer.result) c.nsec_answer.ensures

pub returns-clause-outside : goal.returns-clause-outside
returns-clause-outside g c = none_outside c.args.self.now c.args.name.now c.args.lookup_options (Continue c.nsec_answer.result) c.nsec_answer.ensures
