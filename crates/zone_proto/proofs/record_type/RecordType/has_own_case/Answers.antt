use Rattle.std.proofs.Common.{◌==◌, ◌&&◌, rules, tests}
use Rattle.std.proofs.lemmas.Iterator.{YieldsList-from_slice}
use Rattle.std.proofs.lemmas.Iterator.Search.{any_from_yields_List}
use Rattle.zone_proto.proofs.record_type.RecordType.has_own_case.Goals as goal

pub returns : goal.returns
returns c =
    any_from_yields_List (λ named. named.2 && (c.args.self.0 == named.0.0)) _ _ c.any.result c.any.ensures.ran
    (YieldsList-from_slice _ c.iter.ensures.rest) (λ x b q k. search (rules, tests))
