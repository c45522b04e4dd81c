use Rattle.std.proofs.Common.{take}
use Rattle.message_writing.specs.Writers.{CanGoOn, PutsGroups}
use Rattle.message_writing.proofs.whole_response.put_groups.Given as goal

-- the groups so far
abbrev pub invariant-loop-group : goal.invariant-loop-group
invariant-loop-group l = record {
  put : PutsGroups l.section (take l.group-index l.groups) l.fn.writer l.fn.out.items l.writer l.out.items;
  going : CanGoOn l.writer l.out.items;
}
