use Rattle.std.proofs.Common.{rules, tests, false, ◌||◌, ap, ◌∙◌}
use Rattle.std.proofs.lemmas.Iterator.Consumers.{YieldsList-from_first}
use Rattle.std.proofs.lemmas.Iterator.Search.{any_from_yields_List}
use Rattle.std.specs.Option.{option_map_or}
use Rattle.zone_proto.specs.Names.{Name, wildcard_under}
use Rattle.denial_validation.specs.NsecProofs.{denies_type, shows_empty, is_bare}
use Rattle.denial_validation.specs.NsecRecords.{lent_nsec}
use Rattle.denial_validation.proofs.nsec.wildcard_is_bare.Goals as goal

pub returns-in-Some : goal.returns-in-Some
returns-in-Some c =
    any_from_yields_List (λ r. denies_type c.args.apex.now r c.wildcard_under-wildcard.result c.args.record_type.0 || shows_empty c.args.apex.now r c.wildcard_under-wildcard.result) _ _ _ c.any.ensures.ran
    (YieldsList-from_first (λ x. x) (λ s. s) _ c.among.ensures) (λ x b q k. search (rules, tests))
    ∙ ap (is_bare c.args.apex.now (lent_nsec c.args.records.now) c.args.record_type.0) c.wildcard_under-wildcard.ensures
    ∙ ap (λ encloser. option_map_or (λ (e : Name). is_bare c.args.apex.now (lent_nsec c.args.records.now) c.args.record_type.0 (wildcard_under e)) encloser false) c.in-Some.ensures
