use Rattle.std.proofs.Common.{◌≡◌, ◌++◌}
use Rattle.std.specs.Prelude.{option_map}
use Rattle.std.specs.List.{AllByRecursion, list_any}
use Rattle.std.specs.List.Sorted.{IsStrictlySortedBy}
use Rattle.std.specs.Map.{keys_of}
use Rattle.zone_proto.specs.Keys.{key_cmp, key_eq}
use Rattle.zone_signing.specs.Secured.{gone}
use Rattle.zone_signing.proofs.securing.list_gone.Given as goal

-- the keys that are left ascend, and the pass over the new denials still has each of them that is there; the keys that go so far
-- and those among the entries that are left are all
abbrev pub invariant-loop-key : goal.invariant-loop-key
invariant-loop-key l =
    let d = option_map (λ t. t.0) l.denials in
    record {
      ordered : IsStrictlySortedBy key_cmp (keys_of l.key-iterator);
      seen : AllByRecursion (λ q. list_any (key_eq q) l.ahead ≡ list_any (key_eq q) (keys_of l.new_denials)) (keys_of l.key-iterator);
      gone : l.keys.items ++ gone d l.new_denials l.key-iterator ≡ gone d l.new_denials l.zone;
    }
