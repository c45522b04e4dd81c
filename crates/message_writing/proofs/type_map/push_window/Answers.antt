use Rattle.std.proofs.Common.{◌+◌, ◌/◌, ◌%◌, ◌++◌, arith}
use Rattle.message_writing.specs.TypeMapText.{numbers, window_text}
use Rattle.message_writing.proofs.MapWriting.{window_begins, block_more, block_ends}
use Rattle.message_writing.proofs.type_map.push_window.Goals as goal

pub loop-init : goal.loop-init
loop-init c = record {
  written = window_begins c.args.out.now.items c.push.new.self.items c.push-2.new.self.items (c.args.lowest / 256) c.from-number.result
      (c.args.highest % 256 / 8 + 1) _ (numbers c.args.types.now) c.in_ok-push.ensures.items c.in_ok-push-2.ensures.items c.from-number.ensures (omega arith);
  placed = omega (arith, c.from-number.ensures);
  within = omega (arith, c.ranges.lowest);
}

pub loop-preserved : goal.loop-preserved
loop-preserved c = record {
  written = block_more c.loop.out.items c.push-in-loop.new.self.items
      (c.args.out.now.items ++ window_text c.args.lowest c.args.highest (numbers c.args.types.now)) _ c.loop.counter c.loop.number
      c.octet_taken-octet.result.0 (numbers c.loop.left.now) (numbers c.octet_taken-octet.result.1.now) c.loop-test.true
      c.octet_taken-octet.ensures.octet c.octet_taken-octet.ensures.rest c.in_ok-push-3.ensures.items c.loop.invariant.written;
  placed = omega (arith, c.loop.invariant.placed);
  within = c.loop.invariant.within;
}

pub returns : goal.returns
returns c =
    block_ends c.loop.out.items (c.args.out.now.items ++ window_text c.args.lowest c.args.highest (numbers c.args.types.now)) _ c.loop.number
    (numbers c.loop.left.now) (omega (arith, c.loop-test.false)) c.loop.invariant.written
