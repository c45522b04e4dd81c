use Rattle.std.proofs.Common.{◌≡◌, fold}
use Rattle.std.specs.List.{flat_map}
use Rattle.std.specs.Hash as fed
use Rattle.zone_proto.specs.Names.{lower}
use Rattle.zone_proto.proofs.name_hash.hash_labels.Given as goal

abbrev pub invariant-loop-label : goal.invariant-loop-label
invariant-loop-label g l =
    fold g.H.Hasher.write l.state (flat_map (fed.slice fed.u8) (lower l.label-iterator))
    ≡ fold g.H.Hasher.write l.fn.state (fed.slice (fed.slice fed.u8) (lower l.fn.labels))
