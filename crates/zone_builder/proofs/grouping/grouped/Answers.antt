use Rattle.std.proofs.Common.{◌∙◌, filter}
use Rattle.std.proofs.lemmas.Result.{IfOk-weaker}
use Rattle.zone_builder.specs.declared.groups.Group.{Group}
use Rattle.zone_builder.specs.Records.{is_data_of, is_signature_of}
use Rattle.zone_builder.proofs.Joining.{only_in}
use Rattle.zone_builder.proofs.grouping.grouped.Goals as goal

pub returns-clause-records : goal.returns-clause-records
returns-clause-records c =
    only_in (λ (g : Group). g.records.items) (λ groups. groups.items) (λ k. filter (is_data_of c.args.origin.now k) c.args.records.items) c.ordered.result c.ordered.ensures.ordered
    (IfOk-weaker c.ordered.result _ _ (λ _ made k. made k ∙ c.in_ok-groups.ensures.records k) c.ordered.ensures.records)

pub returns-clause-signatures : goal.returns-clause-signatures
returns-clause-signatures c =
    only_in (λ (g : Group). g.signatures.items) (λ groups. groups.items) (λ k. filter (is_signature_of c.args.origin.now k) c.args.records.items) c.ordered.result c.ordered.ensures.ordered
    (IfOk-weaker c.ordered.result _ _ (λ _ made k. made k ∙ c.in_ok-groups.ensures.signatures k) c.ordered.ensures.signatures)
