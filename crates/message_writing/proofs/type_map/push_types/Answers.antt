use Rattle.std.proofs.Common.{◌++◌, ◌-◌}
use Rattle.std.proofs.lemmas.List.{nil_from_length}
use Rattle.message_writing.specs.TypeMapText.{map_text, numbers}
use Rattle.message_writing.proofs.MapWriting.{map_empty, map_more}
use Rattle.message_writing.proofs.type_map.push_types.Goals as goal

pub returns-in_default : goal.returns-in_default
returns-in_default c =
    map_empty c.loop.out.items (c.args.out.now.items ++ map_text 256 (numbers c.args.types.now)) (256 - c.loop.counter) c.loop.left.now
    (nil_from_length _ c.in_default.ensures.cases) c.loop.invariant

pub loop-preserved : goal.loop-preserved
loop-preserved c =
    map_more c.loop.out.items c.push_block.new.out.items (c.args.out.now.items ++ map_text 256 (numbers c.args.types.now)) 256 c.loop.counter
    c.run_length-count.result c.in-Some.first.now c.loop.left.now c.in-Some.others.now c.split_at.result.0.now c.split_at.result.1.now c.loop-test.true
    c.in-Some.ensures.cases.0 c.run_length-count.ensures.value c.split_at.ensures.front c.split_at.ensures.back c.in_ok-push_block.ensures
    c.loop.invariant
