use Rattle.std.proofs.Common.{string_bytes}
use Rattle.zonectl_commands.proofs.ServedLines.{more_behind, moved_all, moved_then, nothing_behind, on_false}
use Rattle.zonectl_commands.proofs.serving.next_line.Goals as goal

pub returns-in-Some-clause-lines : goal.returns-in-Some-clause-lines
returns-in-Some-clause-lines g c = λ octets u.
    let so_far = c.loop.invariant.read octets u in
    (so_far.0, so_far.1, c.in-Some.ensures.taken _ so_far.2)

pub returns-in-Ok-false-clause-lines : goal.returns-in-Ok-false-clause-lines
returns-in-Ok-false-clause-lines g c = λ octets u.
    let so_far = c.loop.invariant.read octets u in
    let none = c.in_default.ensures.none _ so_far.2 in
    let end = on_false _ c.in-Ok-false.field-0 c.in-Ok-false.field-0-test c.in-Ok-false.ensures.end in
    nothing_behind c.take.new.self c.fill.new.self octets so_far.0 _ _ _ none.0 none.1 c.in_default.ensures.used_up c.in-Ok-false.ensures.kept end.0 so_far.1 c.in-Ok-false.ensures.read end.1

pub loop-preserved : goal.loop-preserved
loop-preserved g c = record {
  read = λ octets u.
      let so_far = c.loop.invariant.read octets u in
      let none = c.in_default.ensures.none _ so_far.2 in
      more_behind c.take.new.self c.fill.new.self octets so_far.0 _ _ _ none.0 c.in_default.ensures.used_up c.in-Ok-true.ensures.kept so_far.1 c.in-Ok-true.ensures.read;
  moved = moved_then _ (string_bytes c.loop.answers) _ _ _ _ c.loop.invariant.moved (moved_all (string_bytes c.loop.answers) _ _ _ c.in_ok-write_out.ensures.0 c.in_ok-write_out.ensures.1);
}
