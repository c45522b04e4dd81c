use Rattle.std.proofs.Common.{◌++◌, [], not, ap, ◌∙◌, cond}
use Rattle.std.proofs.lemmas.Result.{on_ok_weaker}
use Rattle.zone_proto.specs.Keys.{key_eq}
use Rattle.zone_builder.specs.Groups.{all_records_in, all_signatures_in}
use Rattle.zone_builder.specs.Records.{is_signature}
use Rattle.zone_builder.proofs.RecordsGrouped.{passing_under}
use Rattle.zone_builder.proofs.grouping.put_record.Goals as goal

pub returns-clause-records : goal.returns-clause-records
returns-clause-records c =
    on_ok_weaker c.put_behind.result
    (λ put k. put k ∙ ap (λ xs. all_records_in c.args.groups.now.items k ++ xs)
    (ap (λ xs. cond (key_eq c.args.key k) xs []) c.in_ok-group.ensures.records ∙ passing_under (not (is_signature c.args.given.record.rdata)) (key_eq c.args.key k) c.args.given))
    c.put_behind.ensures.records

pub returns-clause-signatures : goal.returns-clause-signatures
returns-clause-signatures c =
    on_ok_weaker c.put_behind.result
    (λ put k. put k ∙ ap (λ xs. all_signatures_in c.args.groups.now.items k ++ xs)
    (ap (λ xs. cond (key_eq c.args.key k) xs []) c.in_ok-group.ensures.signatures ∙ passing_under (is_signature c.args.given.record.rdata) (key_eq c.args.key k) c.args.given))
    c.put_behind.ensures.signatures
