use Rattle.message_reading.proofs.TypeBlocks.{eight_more}
use Rattle.message_reading.proofs.type_map.push_octet.Goals as goal

pub returns : goal.returns
returns c =
    eight_more c.args.number c.args.octet c.args.types.now.items c.push_bit.new.types.items c.push_bit-2.new.types.items c.push_bit-3.new.types.items
    c.push_bit-4.new.types.items c.push_bit-5.new.types.items c.push_bit-6.new.types.items c.push_bit-7.new.types.items c.push_bit-8.new.types.items
    c.in_ok-push_bit.ensures c.in_ok-push_bit-2.ensures c.in_ok-push_bit-3.ensures c.in_ok-push_bit-4.ensures c.in_ok-push_bit-5.ensures
    c.in_ok-push_bit-6.ensures c.in_ok-push_bit-7.ensures c.in_ok-push_bit-8.ensures
