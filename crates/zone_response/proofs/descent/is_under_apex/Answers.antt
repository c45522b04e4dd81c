use Rattle.std.proofs.Common.{refl, sym, ap, ◌∙◌}
use Rattle.std.specs.Prelude.{option_copied, is_some}
use Rattle.zone_proto.specs.Types.{SOA}
use Rattle.zone_map.proofs.ExistingNames.{owner_exists}
use Rattle.zone_response.proofs.descent.is_under_apex.Goals as goal

pub returns-in-Some : goal.returns-in-Some
returns-in-Some c = λ m stands t. record {
  child = c.is_child.ensures t;
  there = owner_exists m c.args.origin.now SOA (ap is_some (sym (ap option_copied (sym c.in-Some.is) ∙ stands.first_asked))) refl;
}
