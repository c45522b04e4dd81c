use Rattle.std.proofs.Common.{rules, tests}
use Rattle.std.proofs.lemmas.Iterator.Consumers.{YieldsList-from_first}
use Rattle.std.proofs.lemmas.Iterator.Search.{any_from_yields_List}
use Rattle.denial_validation.specs.NsecProofs.{denies_type}
use Rattle.denial_validation.proofs.nsec.proves_no_data.Goals as goal

pub returns : goal.returns
returns c =
    any_from_yields_List (λ r. denies_type c.args.apex.now r c.args.name.now c.args.record_type.0) _ _ _ c.any.ensures.ran
    (YieldsList-from_first (λ x. x) (λ s. s) _ c.among.ensures) (λ x b q k. search (rules, tests))
