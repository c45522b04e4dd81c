use Rattle.std.proofs.Common.{◌++◌, ◌∷◌, [], sym, ap, ◌∙◌}
use Rattle.zone_proto.specs.declared.rr_key.RrKey.{RrKey}
use Rattle.zone_proto.specs.Sets.{RRset}
use Rattle.zone_proto.proofs.Ordering.KeyOrder.{key_same}
use Rattle.zone_denial.proofs.Sets.CirclesMade.{ends_is}
use Rattle.zone_denial.proofs.nsec3_sets.ends_with.Goals as goal

pub returns-in-Some : goal.returns-in-Some
returns-in-Some c = λ same.
    let e : RrKey × RRset = c.in-Some.field-0.now in
    let ends = ends_is e c.args.entries.now (sym c.in-Some.ensures.value) in
    let own = key_same e.0 c.args.key.now (sym c.same_as.ensures ∙ same) in
    (ends.0, e.1, ends.1 ∙ ap (λ (k : RrKey). ends.0 ++ (k, e.1) ∷ []) own)
