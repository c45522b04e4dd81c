use Rattle.std.proofs.Common.{◌+◌, arith, ◌∙◌, ap, set}
use Rattle.std.specs.Char.{to_ascii_lowercase}
use Rattle.zone_proto.proofs.Names.Lower.{written, written_more}
use Rattle.zone_proto.proofs.letter_case.lower_octets.Goals as goal

pub loop-octet-preserved : goal.loop-octet-preserved
loop-octet-preserved c =
    ap (λ y. written to_ascii_lowercase (set c.loop-octet.octets c.loop-octet.octet-index y) (c.loop-octet.octet-index + 1)) c.make_ascii_lowercase.ensures.after
    ∙ written_more to_ascii_lowercase c.loop-octet.octets c.loop-octet.octet-index 0 (omega arith)
    ∙ c.loop-octet.invariant
