use Rattle.std.proofs.Common.{map, take}
use Rattle.zone_response.specs.Sections.{sent_set}
use Rattle.message_writing.specs.Writers.{CanGoOn}
use Rattle.zone_server.specs.Sending.{PutsSets}
use Rattle.zone_server.proofs.groups.put_sets.Given as goal

-- the sets so far
abbrev pub invariant-loop-sent : goal.invariant-loop-sent
invariant-loop-sent l = record {
  put : PutsSets l.section (map sent_set (take l.sent-index l.sets)) l.fn.writer l.fn.out.items l.writer l.out.items;
  going : CanGoOn l.writer l.out.items;
}
