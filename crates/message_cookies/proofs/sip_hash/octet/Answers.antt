use Rattle.std.proofs.Common.{arith, sym}
use Rattle.message_cookies.proofs.Padding.{octet_of_count, octet_of_first, octet_of_none, octet_of_second}
use Rattle.message_cookies.proofs.sip_hash.octet.Goals as goal

pub returns-then-i-first : goal.returns-then-i-first
returns-then-i-first c = sym (octet_of_first c.args.first.now c.args.second.now c.args.i c.if-i-first.true)

pub returns-then-i-size : goal.returns-then-i-size
returns-then-i-size c =
    sym (octet_of_second c.args.first.now c.args.second.now c.args.i (omega arith) (omega arith))

pub returns-then-i-eq7 : goal.returns-then-i-eq7
returns-then-i-eq7 c =
    sym (octet_of_count c.args.first.now c.args.second.now c.args.i (omega arith) (omega arith) (omega arith))

pub returns-else-i-eq7 : goal.returns-else-i-eq7
returns-else-i-eq7 c =
    sym (octet_of_none c.args.first.now c.args.second.now c.args.i (omega arith) (omega arith) (omega arith))
