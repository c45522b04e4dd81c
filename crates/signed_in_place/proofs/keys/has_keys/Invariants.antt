use Rattle.std.proofs.Common.{◌≡◌, drop}
use Rattle.std.specs.List.{list_all}
use Rattle.signed_in_place.specs.InPlace.{has_key}
use Rattle.signed_in_place.proofs.keys.has_keys.Given as goal

-- those that are left stand there just where all do
abbrev pub invariant-loop-key : goal.invariant-loop-key
invariant-loop-key l = list_all (has_key l.origin l.zone) (drop l.key-index l.keys) ≡ list_all (has_key l.origin l.zone) l.keys
