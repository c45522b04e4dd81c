use Rattle.std.proofs.Common.{◌≡◌, vec_len}
use Rattle.std.specs.Prelude.{option_map}
use Rattle.zone_map.specs.Puts.{with_before, without_added}
use Rattle.zone_map.proofs.record_map.puts.put_back.Given as goal

-- with what is left to be done the sets become those that they are to be
abbrev pub invariant-loop-key : goal.invariant-loop-key
invariant-loop-key l = with_before l.sets l.exchanged.items ≡ with_before (without_added l.fn.sets (option_map (λ keys. keys.items) l.fn.added)) l.fn.exchanged.items

abbrev pub decreases-loop-key : goal.decreases-loop-key
decreases-loop-key l = vec_len l.exchanged
