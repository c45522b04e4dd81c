use Rattle.zone_response.proofs.NewNames.{read, told_in, replaced}
use Rattle.std.proofs.Common.{sym}
use Rattle.response_laws.proofs.laws.targets_are_read.Goals as goal

pub returns-clause-targets : goal.returns-clause-targets
returns-clause-targets c = λ octets n. (told_in octets n, λ h. sym (read octets n h.0 h.1))

pub returns-clause-owners : goal.returns-clause-owners
returns-clause-owners c = replaced
