use Rattle.std.proofs.Common.{◌≡◌, Bool}
use Rattle.std.specs.Prelude.{not, filter}
use Rattle.std.specs.Map.{keys_of}
use Rattle.zone_proto.specs.declared.rr_key.RrKey.{RrKey}
use Rattle.zone_map.proofs.Parting.{AreParted}
use Rattle.zone_map.proofs.record_map.puts.separate.Given as goal

-- the keys that are left are those of the fresh ones among the sets that are left
abbrev pub invariant-loop-key : goal.invariant-loop-key
invariant-loop-key l =
    (stands : RrKey → Bool) → l.fn.added ≡ filter (λ k. not (stands k)) (keys_of l.fn.more.entries) → AreParted stands l.fn.more.entries l.key-iterator l.left l.common.items l.fresh.items
