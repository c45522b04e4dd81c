use Rattle.zone_handler.specs.declared.control_flow.LookupControlFlow.TheVariants.{Continue}
use Rattle.zone_signing.specs.Signatures.{answer_signatures}
use Rattle.zone_in_memory.proofs.CircleAgreement.{lookup_agrees, absent_wildcard_agrees, transfer_agrees, wildcard_never_denied}
use Rattle.zone_in_memory.proofs.Nsec3Agreement.{nsec3_lookup_agrees, nsec3_absent_wildcard_agrees, nsec3_transfer_agrees}
use Rattle.zone_in_memory.proofs.Lookups.{owned_is_answered}
use Rattle.zone_in_memory.proofs.ValidatorAgreement.{proofs_agree, nsec3_proofs_agree}
use Rattle.zone_in_memory.proofs.in_memory_zone_handler.handler.InMemoryZoneHandlerZoneHandler.lookup.Goals as goal

pub returns-clause-owned_is_answered : goal.returns-clause-owned_is_answered
returns-clause-owned_is_answered g c owned no_transfer =
    owned_is_answered (answer_signatures g.S.Signer.signature_of c.args.now c.args.lookup_options.dnssec_ok c.args.self.now.inner.signers) c.args.self.now.inner.records c.args.name.now c.args.record_type.0 c.args.lookup_options
    c.args.self.now.origin (Continue c.answer.result) owned c.answer.ensures

pub returns-clause-existing_wildcard : goal.returns-clause-existing_wildcard
returns-clause-existing_wildcard g c there denied =
    wildcard_never_denied (answer_signatures g.S.Signer.signature_of c.args.now c.args.lookup_options.dnssec_ok c.args.self.now.inner.signers) c.args.self.now.origin c.args.self.now.inner.records c.args.lookup_options c.args.name.now
    c.args.record_type.0 (Continue c.answer.result) there c.answer.ensures denied

pub returns-then-eq-clause-existing_wildcard : goal.returns-then-eq-clause-existing_wildcard
returns-then-eq-clause-existing_wildcard g c there denied = absurd cc

pub returns-clause-circle : goal.returns-clause-circle
returns-clause-circle g c circle =
    lookup_agrees c.args.self.now.origin c.args.self.now.inner.records circle (answer_signatures g.S.Signer.signature_of c.args.now c.args.lookup_options.dnssec_ok c.args.self.now.inner.signers) c.args.lookup_options c.args.name.now
    c.args.record_type.0 (Continue c.answer.result) c.answer.ensures

pub returns-then-eq-clause-circle : goal.returns-then-eq-clause-circle
returns-then-eq-clause-circle g c circle = transfer_agrees c.args.self.now.origin c.args.self.now.inner.records circle c.args.name.now c.args.record_type.0 _

pub returns-clause-nsec3_circle : goal.returns-clause-nsec3_circle
returns-clause-nsec3_circle g c hash parameters circle =
    nsec3_lookup_agrees c.args.self.now.origin c.args.self.now.inner.records hash parameters circle (answer_signatures g.S.Signer.signature_of c.args.now c.args.lookup_options.dnssec_ok c.args.self.now.inner.signers) c.args.lookup_options
    c.args.name.now c.args.record_type.0 (Continue c.answer.result) c.answer.ensures

pub returns-then-eq-clause-nsec3_circle : goal.returns-then-eq-clause-nsec3_circle
returns-then-eq-clause-nsec3_circle g c hash parameters circle = nsec3_transfer_agrees c.args.self.now.origin c.args.self.now.inner.records hash parameters circle c.args.name.now c.args.record_type.0 _

pub returns-clause-absent_wildcard : goal.returns-clause-absent_wildcard
returns-clause-absent_wildcard g c circle none plain denied =
    absent_wildcard_agrees c.args.self.now.origin c.args.self.now.inner.records circle (answer_signatures g.S.Signer.signature_of c.args.now c.args.lookup_options.dnssec_ok c.args.self.now.inner.signers) c.args.lookup_options c.args.name.now
    c.args.record_type.0 (Continue c.answer.result) none plain c.answer.ensures denied

pub returns-then-eq-clause-absent_wildcard : goal.returns-then-eq-clause-absent_wildcard
returns-then-eq-clause-absent_wildcard g c circle none plain denied = absurd cc

pub returns-clause-nsec3_absent_wildcard : goal.returns-clause-nsec3_absent_wildcard
returns-clause-nsec3_absent_wildcard g c hash parameters circle all_in none apart plain denied =
    nsec3_absent_wildcard_agrees c.args.self.now.origin c.args.self.now.inner.records hash parameters circle (answer_signatures g.S.Signer.signature_of c.args.now c.args.lookup_options.dnssec_ok c.args.self.now.inner.signers) c.args.lookup_options
    c.args.name.now c.args.record_type.0 (Continue c.answer.result) all_in none apart plain c.answer.ensures denied

pub returns-then-eq-clause-nsec3_absent_wildcard : goal.returns-then-eq-clause-nsec3_absent_wildcard
returns-then-eq-clause-nsec3_absent_wildcard g c hash parameters circle all_in none apart plain denied = absurd cc

pub returns-clause-proofs : goal.returns-clause-proofs
returns-clause-proofs g c no_transfer judged =
    proofs_agree (answer_signatures g.S.Signer.signature_of c.args.now c.args.lookup_options.dnssec_ok c.args.self.now.inner.signers) c.args.self.now.origin c.args.self.now.inner.records c.args.lookup_options c.args.name.now
    c.args.record_type.0 (Continue c.answer.result) c.answer.ensures judged

pub returns-clause-nsec3_proofs : goal.returns-clause-nsec3_proofs
returns-clause-nsec3_proofs g c no_transfer hash parameters judged =
    nsec3_proofs_agree (answer_signatures g.S.Signer.signature_of c.args.now c.args.lookup_options.dnssec_ok c.args.self.now.inner.signers) c.args.self.now.origin c.args.self.now.inner.records c.args.lookup_options c.args.name.now
    c.args.record_type.0 (Continue c.answer.result) c.answer.ensures hash parameters judged
