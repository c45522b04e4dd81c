use Rattle.std.proofs.Common.{◌≡◌, ap, ◌∙◌, arith, drop}
use Rattle.zone_proto.specs.Octets.{written}
use Rattle.zone_proto.specs.Packing.{packing}
use Rattle.zone_proto.specs.Vectors.{octets_of}
use Rattle.zone_proto.proofs.Names.Packings.{is_packing, is_name_of}
use Rattle.zone_proto.proofs.packed.pack.Goals as goal

pub returns-clause-packing : goal.returns-clause-packing
returns-clause-packing c =
    let none : c.loop-i.i ≡ 0 = omega (arith, c.loop-i-test.false) in
    is_packing (written c.loop-i.octets) (octets_of c.args.labels.now) c.requires
    (c.loop-i.invariant.packed ∙ ap (λ k. packing (octets_of (drop k c.args.labels.now))) none)

pub returns-clause-name : goal.returns-clause-name
returns-clause-name c =
    let none : c.loop-i.i ≡ 0 = omega (arith, c.loop-i-test.false) in
    is_name_of (written c.loop-i.octets) (octets_of c.args.labels.now) c.requires
    (c.loop-i.invariant.packed ∙ ap (λ k. packing (octets_of (drop k c.args.labels.now))) none)
