use Rattle.message_writing.proofs.OptBack.{opt_written, opt_octets}
use Rattle.message_writing.proofs.message_parts.push_extension.Goals as goal

pub returns-clause-read : goal.returns-clause-read
returns-clause-read c =
    opt_written c.args.out.now.items c.push.new.self.items c.push_short.new.out.items c.push_short-2.new.out.items c.push_long.new.out.items
    c.push_short-3.new.out.items c.args.size c.args.code c.opt_ttl-ttl.result c.args.extension c.opt_ttl-ttl.ensures c.in_ok-push.ensures.items
    c.in_ok-push_short.ensures c.in_ok-push_short-2.ensures c.in_ok-push_long.ensures c.in_ok-push_short-3.ensures

pub returns-clause-length : goal.returns-clause-length
returns-clause-length c =
    opt_octets c.args.out.now.items c.push.new.self.items c.push_short.new.out.items c.push_short-2.new.out.items c.push_long.new.out.items
    c.push_short-3.new.out.items c.args.size c.opt_ttl-ttl.result c.in_ok-push.ensures.items c.in_ok-push_short.ensures
    c.in_ok-push_short-2.ensures c.in_ok-push_long.ensures c.in_ok-push_short-3.ensures
