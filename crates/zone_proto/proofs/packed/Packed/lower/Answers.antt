use Rattle.std.proofs.Common.{◌≡◌, map, ap, ◌∙◌}
use Rattle.std.specs.Char.{to_ascii_lowercase}
use Rattle.zone_proto.specs.Names.{Name, lower}
use Rattle.zone_proto.specs.Packing.{packing, name_of}
use Rattle.zone_proto.proofs.Names.Packings.{is_packing, is_name_of, packable_lower, packing_lower}
use Rattle.zone_proto.proofs.packed.Packed.lower.Goals as goal

pub invariant_of-self : goal.invariant_of-self
invariant_of-self g c =
    let n : Name = name_of (g.S.Storage.octets_in c.self.inside.octets) in
    let low : g.S.Storage.octets_in c.lower.new.self ≡ packing (lower n) =
    c.lower.ensures ∙ ap (map to_ascii_lowercase) c.self.invariant.octets ∙ packing_lower n in
    is_packing (g.S.Storage.octets_in c.lower.new.self) (lower n) (packable_lower n c.self.invariant.packable) low

pub returns : goal.returns
returns g c =
    let n : Name = name_of (g.S.Storage.octets_in c.self.inside.octets) in
    let low : g.S.Storage.octets_in c.lower.new.self ≡ packing (lower n) =
    c.lower.ensures ∙ ap (map to_ascii_lowercase) c.self.invariant.octets ∙ packing_lower n in
    is_name_of (g.S.Storage.octets_in c.lower.new.self) (lower n) (packable_lower n c.self.invariant.packable) low ∙ ap lower c.self.view_is
