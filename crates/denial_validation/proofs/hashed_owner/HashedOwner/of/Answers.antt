use Rattle.std.proofs.Common.{sym, ap, ◌∙◌}
use Rattle.zone_proto.specs.Names.{lower_label}
use Rattle.zone_proto.proofs.Ordering.Base32Facts.{lower_text}
use Rattle.denial_validation.proofs.hashed_owner.HashedOwner.of.Goals as goal

pub invariant_of-result : goal.invariant_of-result
invariant_of-result c =
    let text = c.in_ok-label.ensures.ok in
    ap lower_label text ∙ lower_text c.args.digest.now ∙ sym text
