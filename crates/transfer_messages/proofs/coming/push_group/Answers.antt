use Rattle.message_writing.specs.Responses.{with_ttl}
use Rattle.transfer_messages.proofs.Gathered.{gathered_both}
use Rattle.transfer_messages.proofs.coming.push_group.Goals as goal

pub returns-clause-taken : goal.returns-clause-taken
returns-clause-taken c =
    gathered_both c.args.groups.now.items c.push_records.new.groups.items c.push_records-2.new.groups.items (with_ttl c.args.group.ttl) c.args.group.records.now
    c.args.group.signatures.now c.args.skip c.in_ok-behind.behind c.in_ok-behind.ensures.taken c.in_ok-behind-2.ensures.taken c.in_ok-behind.ensures.behind
