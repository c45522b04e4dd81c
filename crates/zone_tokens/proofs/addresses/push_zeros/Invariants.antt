use Rattle.std.proofs.Common.{◌≡◌, ◌-◌}
use Rattle.zone_tokens.specs.Addresses.{with_zeros}
use Rattle.zone_tokens.proofs.addresses.push_zeros.Given as goal

abbrev pub invariant-loop : goal.invariant-loop
invariant-loop l = with_zeros (l.count - l.counter) l.text.items ≡ with_zeros l.count l.fn.text.items
