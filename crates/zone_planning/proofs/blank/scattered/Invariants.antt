use Rattle.std.proofs.Common.{◌≡◌, ◌+◌, ◌*◌, ◌%◌, ◌^◌, ◌<◌, fold, drop}
use Rattle.zone_planning.specs.Blank.{scattered}
use Rattle.zone_planning.proofs.blank.scattered.Given as goal

abbrev pub invariant-loop-octet : goal.invariant-loop-octet
invariant-loop-octet l = record {
  value : fold (λ sum octet. (sum * 31 + octet) % 2 ^ 32) l.sum (drop l.octet-index l.octets) ≡ scattered l.octets;
  bound : l.sum < 2 ^ 32;
}
