use Rattle.std.proofs.Common.{ℕ, List, take}
use Rattle.zone_proto.specs.Names.{Name}
use Rattle.zone_proto.specs.Sets.{RRset}
use Rattle.message_writing.specs.KnownNames.{IsKnown}
use Rattle.message_writing.specs.Writers.{CanGoOn}
use Rattle.zone_server.specs.Sending.{PutsSets}
use Rattle.ready_referrals.specs.Referrals.{AreSetsKept}
use Rattle.ready_referrals.proofs.kept_sets.put_kept_sets.Given as goal

-- the sets so far
abbrev pub invariant-loop-records : goal.invariant-loop-records
invariant-loop-records l = record {
  put : (cut : Name) (ss : List RRset) → IsKnown l.fn.out.items l.place cut → AreSetsKept cut ss l.kept
      → PutsSets l.section (take l.records-index ss) l.fn.writer l.fn.out.items l.writer l.out.items;
  going : CanGoOn l.writer l.out.items;
  known : (p : ℕ) (n : Name) → IsKnown l.fn.out.items p n → IsKnown l.out.items p n;
}
