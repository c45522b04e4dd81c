use Rattle.std.proofs.Common.{◌≡◌, map, drop, fold}
use Rattle.std.specs.List.{flat_map}
use Rattle.std.specs.Char.{to_ascii_lowercase}
use Rattle.std.specs.Hash as fed
use Rattle.zone_proto.proofs.name_hash.hash_caseless.Given as goal

abbrev pub invariant-loop-octet : goal.invariant-loop-octet
invariant-loop-octet g l =
    fold g.H.Hasher.write l.state (flat_map fed.u8 (map to_ascii_lowercase (drop l.octet-index l.label)))
    ≡ fold g.H.Hasher.write l.fn.state (fed.slice fed.u8 (map to_ascii_lowercase l.label))
