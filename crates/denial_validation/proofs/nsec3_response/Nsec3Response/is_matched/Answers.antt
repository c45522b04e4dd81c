use Rattle.std.proofs.Common.{rules, tests}
use Rattle.std.proofs.lemmas.Iterator.Consumers.{YieldsList-from_first}
use Rattle.std.proofs.lemmas.Iterator.Search.{any_from_yields_List}
use Rattle.std.specs.Prelude.{option_copied}
use Rattle.denial_validation.specs.Nsec3Proofs.{has_owner}
use Rattle.denial_validation.proofs.nsec3_response.Nsec3Response.is_matched.Goals as goal

pub returns : goal.returns
returns g c =
    any_from_yields_List (λ r. has_owner r (option_copied c.args.hashed)) _ _ _ c.any.ensures.ran
    (YieldsList-from_first (λ x. x) (λ s. s) _ c.records.ensures) (λ x b q k. search (rules, tests))
