use Rattle.zone_response.specs.Sections.{sent_set}
use Rattle.message_writing.specs.declared.response.Group.{Group}
use Rattle.zone_server.proofs.GroupFacts.{group_sent}
use Rattle.zone_server.proofs.groups.group_of.Goals as goal

pub returns : goal.returns
returns c =
    let g : Group = record { records = c.records_out.result; signatures = c.args.signatures; ttl = c.args.sent.now.ttl } in
    group_sent g (sent_set c.args.sent.now) c.records_out.ensures c.requires
