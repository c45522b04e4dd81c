use Rattle.zone_handler.specs.declared.control_flow.LookupControlFlow.TheVariants.{Continue}
use Rattle.zone_in_memory.proofs.Nsec3Agreement.{nsec3_answer_proves, nsec3_wildcard_proves, nsec3_answer_accepted, nsec3_asked_wildcard_proves}
use Rattle.zone_in_memory.proofs.Nsec3Closers.{nsec3_closer_covered}
use Rattle.zone_in_memory.proofs.ValidatorAgreement.{nsec3_none_below_cut, nsec3_finds_parameters, nsec3_opt_out_proves}
use Rattle.zone_in_memory.proofs.in_memory_zone_handler.handler.InMemoryZoneHandlerZoneHandler.nsec3_records.Goals as goal

pub returns-clause-proof : goal.returns-clause-proof
returns-clause-proof g c = nsec3_answer_proves g.H.Nsec3Hash.digest_of c.args.self.now c.args.info c.args.lookup_options (Continue c.nsec3_answer.result) c.nsec3_answer.ensures

pub returns-clause-enclosed_wildcard : goal.returns-clause-enclosed_wildcard
returns-clause-enclosed_wildcard g c = nsec3_wildcard_proves g.H.Nsec3Hash.digest_of c.args.self.now c.args.info c.args.lookup_options (Continue c.nsec3_answer.result) c.nsec3_answer.ensures

pub returns-clause-closer : goal.returns-clause-closer
returns-clause-closer g c = nsec3_closer_covered g.H.Nsec3Hash.digest_of c.args.self.now c.args.info c.args.lookup_options (Continue c.nsec3_answer.result) c.nsec3_answer.ensures

pub returns-clause-accepted : goal.returns-clause-accepted
returns-clause-accepted g c = nsec3_answer_accepted g.H.Nsec3Hash.digest_of c.args.self.now c.args.info c.args.lookup_options (Continue c.nsec3_answer.result) c.nsec3_answer.ensures

pub returns-clause-wildcard : goal.returns-clause-wildcard
returns-clause-wildcard g c = nsec3_asked_wildcard_proves g.H.Nsec3Hash.digest_of c.args.self.now c.args.info c.args.lookup_options (Continue c.nsec3_answer.result) c.nsec3_answer.ensures

pub returns-clause-below_cut : goal.returns-clause-below_cut
returns-clause-below_cut g c = nsec3_none_below_cut g.H.Nsec3Hash.digest_of c.args.self.now c.args.info c.args.lookup_options (Continue c.nsec3_answer.result) c.nsec3_answer.ensures

pub returns-clause-parameters : goal.returns-clause-parameters
returns-clause-parameters g c = nsec3_finds_parameters g.H.Nsec3Hash.digest_of c.args.self.now c.args.info c.args.lookup_options (Continue c.nsec3_answer.result) c.nsec3_answer.ensures

pub returns-clause-opt_out : goal.returns-clause-opt_out
returns-clause-opt_out g c = nsec3_opt_out_proves g.H.Nsec3Hash.digest_of c.args.self.now c.args.info c.args.lookup_options (Continue c.nsec3_answer.result) c.nsec3_answer.ensures
