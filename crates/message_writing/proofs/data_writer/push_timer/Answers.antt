use Rattle.std.proofs.Common.{◌++◌, ap, ◌∙◌}
use Rattle.std.proofs.Math.Facts.{of_z-to_z, Fits-of_z}
use Rattle.message_writing.specs.DataText.{long_text}
use Rattle.message_writing.proofs.data_writer.push_timer.Goals as goal

pub returns : goal.returns
returns c =
    c.in_ok-push_long.ensures
    ∙ ap (λ n. c.args.out.now.items ++ long_text n) (c.cast_unsigned.ensures ∙ of_z-to_z (Fits-of_z c.ranges.timer))
