use Rattle.std.proofs.Common.{ap, sym, ◌∙◌}
use Rattle.std.specs.Prelude.{Some}
use Rattle.zone_proto.specs.declared.rr_key.RrKey.{RrKey}
use Rattle.zone_map.proofs.ExistingNames.{wildcard_unreferred}
use Rattle.zone_map.proofs.wildcard.wildcard.Goals as goal

pub at_wildcard-here-requires-clause-unreferred : goal.at_wildcard-here-requires-clause-unreferred
at_wildcard-here-requires-clause-unreferred c =
    wildcard_unreferred c.args.records.now c.args.name.now c.new-wildcard_name.result.name c.args.record_type.0 c.requires.none
    (c.requires.wildcard_name ∙ ap Some (sym c.into_wildcard.ensures) ∙ ap (λ (k : RrKey). Some k.name) (sym c.new-wildcard_name.ensures.value))
