use Rattle.std.proofs.Common.{ap, ◌∙◌}
use Rattle.std.specs.Prelude.{map}
use Rattle.zone_proto.specs.Sets.{RRset}
use Rattle.zone_builder.specs.Records.{records_of}
use Rattle.zone_builder.specs.Sets.{with_ttl}
use Rattle.zone_builder.proofs.FirstTaken.{all_unsigned}
use Rattle.zone_builder.proofs.sets.set_of.Goals as goal

pub sign-requires-clause-unsigned : goal.sign-requires-clause-unsigned
sign-requires-clause-unsigned c =
    ap (λ (s : RRset). s.signatures) c.in_ok-fill.ensures.ok
    ∙ all_unsigned c.args.serial (map (with_ttl c.least_ttl-ttl.result) (records_of c.args.group.records.items)) c.new-set.result (ap (λ (s : RRset). s.signatures) c.new-set.ensures)
