use Rattle.std.proofs.Common.{◌∙◌, ap}
use Rattle.std.proofs.lemmas.List.{append-nil}
use Rattle.zone_proto.specs.Sets.{RRset}
use Rattle.zone_proto.proofs.record_set.RecordSet.records_without_rrsigs.Goals as goal

pub returns-clause-lent : goal.returns-clause-lent
returns-clause-lent c =
    c.new.ensures ∙ append-nil c.as_slice.result.now ∙ c.as_slice.ensures.value ∙ ap (λ (s : RRset). s.records) c.self.view_is
