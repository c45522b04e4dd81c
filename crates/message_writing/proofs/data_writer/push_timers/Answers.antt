use Rattle.std.proofs.Common.{◌≡◌, ◌++◌, List, ℕ, ℤ, ap, ◌∙◌, rules}
use Rattle.std.proofs.Math.Facts.{of_z-to_z, Fits-of_z}
use Rattle.std.specs.Int.{w32, cast_unsigned, cast_signed}
use Rattle.std.specs.Int.RustNames.{FitsSigned}
use Rattle.message_writing.specs.DataText.{long_text}
use Rattle.message_writing.proofs.Fields.{five}
use Rattle.message_writing.proofs.data_writer.push_timers.Goals as goal

-- a number that was passed as its bits is itself
passed : (old new : List ℕ) (z : ℤ) → FitsSigned w32 z → new ≡ old ++ long_text (cast_unsigned w32 (cast_signed w32 (cast_unsigned w32 z)))
    → new ≡ old ++ long_text (cast_unsigned w32 z)
passed old new z fits e = e ∙ ap (λ n. old ++ long_text n) (of_z-to_z (Fits-of_z fits))

pub returns-clause-text : goal.returns-clause-text
returns-clause-text c =
    let s = c.args.soa.now in
    let refresh : FitsSigned w32 s.refresh = search rules in
    let retry : FitsSigned w32 s.retry = search rules in
    let expire : FitsSigned w32 s.expire = search rules in
    five c.args.out.now.items c.push_long.new.out.items c.push_timer.new.out.items c.push_timer-2.new.out.items c.push_timer-3.new.out.items
    c.push_long-2.new.out.items (long_text s.serial) (long_text (cast_unsigned w32 s.refresh)) (long_text (cast_unsigned w32 s.retry))
    (long_text (cast_unsigned w32 s.expire)) (long_text s.minimum) c.in_ok-push_long.ensures
    (passed c.push_long.new.out.items c.push_timer.new.out.items s.refresh refresh c.in_ok-push_timer.ensures)
    (passed c.push_timer.new.out.items c.push_timer-2.new.out.items s.retry retry c.in_ok-push_timer-2.ensures)
    (passed c.push_timer-2.new.out.items c.push_timer-3.new.out.items s.expire expire c.in_ok-push_timer-3.ensures) c.in_ok-push_long-2.ensures
