use Rattle.message_writing.proofs.MoreGroups.{finishes}
use Rattle.message_writing.proofs.response_writer.ResponseWriter.finish.Goals as goal

pub returns : goal.returns
returns c = λ limit r u.
    finishes limit r c.without_groups-response.result c.args.self c.args.out.now.items c.push_opt.new.out.items c.put_header.new.out.items
    c.opt_count.result u c.requires c.without_groups-response.ensures.head c.in_ok-push_opt.ensures.read c.in_ok-push_opt.ensures.length
    c.opt_count.ensures.value c.put_header.ensures
