use Rattle.response_laws.proofs.Agreement.{responses_agree}
use Rattle.response_laws.proofs.AgreementProofs.{provable_by_owners}
use Rattle.response_laws.proofs.laws.responses_agree_with_lookups.Goals as goal

pub returns-clause-agreement : goal.returns-clause-agreement
returns-clause-agreement c = responses_agree

pub returns-clause-provable : goal.returns-clause-provable
returns-clause-provable c = provable_by_owners
