use Rattle.std.proofs.Common.{◌++◌, sym, ap, ◌∙◌}
use Rattle.std.proofs.lemmas.Result.{on_ok_weaker}
use Rattle.zone_builder.specs.Groups.{all_records_in, all_signatures_in}
use Rattle.zone_builder.proofs.RecordsGrouped.{append_nil, data_here, signature_here, no_data, no_signature}
use Rattle.zone_builder.proofs.grouping.take.Goals as goal

pub returns-then-not-is_within-clause-records : goal.returns-then-not-is_within-clause-records
returns-then-not-is_within-clause-records c = λ k.
    sym (append_nil (all_records_in c.args.groups.now.items k))
    ∙ ap (λ xs. all_records_in c.args.groups.now.items k ++ xs) (no_data c.args.origin.now k c.in_ok-key.key c.args.given c.in_ok-key.ensures.ok (sym c.is_within.ensures ∙ c.if-not-is_within.true))

pub returns-then-not-is_within-clause-signatures : goal.returns-then-not-is_within-clause-signatures
returns-then-not-is_within-clause-signatures c = λ k.
    sym (append_nil (all_signatures_in c.args.groups.now.items k))
    ∙ ap (λ xs. all_signatures_in c.args.groups.now.items k ++ xs) (no_signature c.args.origin.now k c.in_ok-key.key c.args.given c.in_ok-key.ensures.ok (sym c.is_within.ensures ∙ c.if-not-is_within.true))

pub returns-clause-records : goal.returns-clause-records
returns-clause-records c =
    on_ok_weaker c.put_record.result
    (λ put k. put k ∙ ap (λ xs. all_records_in c.args.groups.now.items k ++ xs) (data_here c.args.origin.now k c.in_ok-key.key c.args.given c.in_ok-key.ensures.ok (sym c.is_within.ensures ∙ c.if-not-is_within.false)))
    c.put_record.ensures.records

pub returns-clause-signatures : goal.returns-clause-signatures
returns-clause-signatures c =
    on_ok_weaker c.put_record.result
    (λ put k. put k ∙ ap (λ xs. all_signatures_in c.args.groups.now.items k ++ xs) (signature_here c.args.origin.now k c.in_ok-key.key c.args.given c.in_ok-key.ensures.ok (sym c.is_within.ensures ∙ c.if-not-is_within.false)))
    c.put_record.ensures.signatures
