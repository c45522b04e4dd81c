use Rattle.std.proofs.Common.{rules, tests, ap, ◌∙◌, ◌&&◌}
use Rattle.std.proofs.lemmas.Iterator.Consumers.{YieldsList-from_first}
use Rattle.std.proofs.lemmas.Iterator.Search.{any_from_yields_List}
use Rattle.denial_validation.specs.NsecProofs.{denies_name, is_bare, wildcard_is, proves_wildcard_no_data}
use Rattle.denial_validation.specs.NsecRecords.{lent_nsec}
use Rattle.denial_validation.proofs.nsec.proves_wildcard_no_data.Goals as goal

pub returns : goal.returns
returns c =
    any_from_yields_List (λ r. denies_name c.of-apex.result r c.args.name.now && wildcard_is (is_bare c.of-apex.result (lent_nsec c.args.records.now) c.args.record_type.0) r c.args.name.now) _ _ _ c.any.ensures.ran
    (YieldsList-from_first (λ x. x) (λ s. s) _ c.among.ensures) (λ x b q k. search (rules, tests))
    ∙ ap (λ apex. proves_wildcard_no_data apex (lent_nsec c.args.records.now) c.args.name.now c.args.record_type.0) c.of-apex.ensures
