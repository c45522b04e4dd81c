use Rattle.std.proofs.Common.{arith}
use Rattle.std.proofs.lemmas.List.{ext_get_or}
use Rattle.message_writing.proofs.known_names.are_same.Goals as goal

pub returns : goal.returns
returns c = λ _. ext_get_or 0 c.args.octets.now c.args.others.now c.requires (λ i h. c.loop-place.invariant i (omega (arith, h, c.loop-place-test.false)))
