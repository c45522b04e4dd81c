use Rattle.std.proofs.Common.{◌≤◌, length, arith}
use Rattle.zone_texts.proofs.Generated.{one_entry}
use Rattle.zone_texts.proofs.generate.only_entry.Goals as goal

pub returns-in_ok-end_line-in-Ok-default-Some : goal.returns-in_ok-end_line-in-Ok-default-Some
returns-in_ok-end_line-in-Ok-default-Some c =
    one_entry c.args.line.now c.new-entries.result c.take_entry.new.self c.in-Ok-default-Some.count c.in-Ok-default-Some.entry
    c.new-entries.ensures
    (rw c.in-Ok-default-Some.field-0-1-is at c.in-Ok-default-Some.ensures.ok)
    (omega arith)
    c.in_ok-end_line-in-Ok-default-Some.ensures
