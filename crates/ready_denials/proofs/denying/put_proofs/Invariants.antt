use Rattle.std.proofs.Common.{map, take}
use Rattle.message_writing.specs.Writers.{CanGoOn}
use Rattle.ready_denials.proofs.DenialFacts.{proof_at}
use Rattle.ready_denials.specs.Denials.{Puts}
use Rattle.ready_denials.proofs.denying.put_proofs.Given as goal

-- the sets so far
abbrev pub invariant-loop-set : goal.invariant-loop-set
invariant-loop-set l = record {
  put : Puts (map (proof_at l.ttl) (take l.set-index l.sets)) l.fn.writer l.fn.out.items l.writer l.out.items;
  going : CanGoOn l.writer l.out.items;
}
