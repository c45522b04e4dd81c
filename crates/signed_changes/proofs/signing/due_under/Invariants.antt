use Rattle.std.proofs.Common.{◌≡◌, ℕ, take}
use Rattle.std.specs.Prelude.{None, if◌then◌else◌}
use Rattle.std.specs.List.{list_any}
use Rattle.zone_proto.specs.Keys.{key, key_eq}
use Rattle.zone_proto.specs.Names.{Name}
use Rattle.zone_map.specs.Zones.{set_at}
use Rattle.signed_changes.specs.Signing.{due_at}
use Rattle.signed_changes.proofs.signing.due_under.Given as goal

-- those so far are those under the keys so far
abbrev pub invariant-loop-key : goal.invariant-loop-key
invariant-loop-key l =
    (n : Name) (t : ℕ) → set_at l.due n t ≡ (if list_any (key_eq (key n t)) (take l.key-index l.keys) then due_at l.origin l.zone l.inception l.signers n t else None)
