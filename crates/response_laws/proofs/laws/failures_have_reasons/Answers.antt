use Rattle.response_laws.proofs.Failing.{failure_has_reason, answerable_is_answered, failure_is_told}
use Rattle.response_laws.proofs.laws.failures_have_reasons.Goals as goal

pub returns-clause-reason : goal.returns-clause-reason
returns-clause-reason c = failure_has_reason

pub returns-clause-answered : goal.returns-clause-answered
returns-clause-answered c = answerable_is_answered

pub returns-clause-call_concludes : goal.returns-clause-call_concludes
returns-clause-call_concludes c = failure_is_told
