use Rattle.std.proofs.Common.{◌≡◌, ◌<◌, sym, subst, ℕ}
use Rattle.update_answers.proofs.Codes.{code_short}
use Rattle.update_answers.proofs.answering.refuse.Goals as goal

pub write-requires : goal.write-requires
write-requires c = subst (λ (k : ℕ). k < 16) (sym c.code.ensures) (code_short c.args.refusal)
