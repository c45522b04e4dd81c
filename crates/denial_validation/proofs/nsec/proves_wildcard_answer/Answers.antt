use Rattle.std.proofs.Common.{rules, tests, ◌==◌, ◌&&◌, false, length, ◌∙◌}
use Rattle.std.proofs.lemmas.Iterator.Consumers.{YieldsList-from_first}
use Rattle.std.proofs.lemmas.Iterator.Search.{any_from_yields_List}
use Rattle.std.specs.Option.{option_map_or}
use Rattle.denial_validation.specs.NsecProofs.{denies_name, shown_encloser}
use Rattle.denial_validation.specs.NsecRecords.{lent_nsec}
use Rattle.denial_validation.proofs.EncloserLabels.{answer_by_labels}
use Rattle.denial_validation.proofs.nsec.proves_wildcard_answer.Goals as goal

pub returns : goal.returns
returns c =
    any_from_yields_List (λ r. denies_name c.args.apex.now r c.args.name.now && option_map_or (λ e. length e == c.args.encloser_labels) (shown_encloser r c.args.name.now) false) _ _ _ c.any.ensures.ran
    (YieldsList-from_first (λ x. x) (λ s. s) _ c.among.ensures) (λ x b q k. search (rules, tests))
    ∙ answer_by_labels c.args.apex.now (lent_nsec c.args.records.now) c.args.name.now c.args.encloser_labels
