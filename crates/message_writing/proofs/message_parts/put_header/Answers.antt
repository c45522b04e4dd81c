use Rattle.std.proofs.Common.{◌∷◌, ◌++◌, take, drop, ◌∙◌}
use Rattle.message_writing.proofs.HeaderPlaced.{header_placed}
use Rattle.message_writing.proofs.message_parts.put_header.Goals as goal

pub returns : goal.returns
returns c =
    header_placed c.args.out.now.items c.put_short.new.out.items c.put_octets.new.out.items c.put_short-2.new.out.items c.put_short-3.new.out.items
    c.put_short-4.new.out.items c.put_short-5.new.out.items _ _ _ _ _ _ c.put_short.ensures
    (c.put_octets.ensures
    ∙ λ i. take 2 c.put_short.new.out.items ++ (c.high_flags.ensures i ∷ c.low_flags.ensures i ∷ drop 4 c.put_short.new.out.items)) c.put_short-2.ensures
    c.put_short-3.ensures c.put_short-4.ensures c.put_short-5.ensures
