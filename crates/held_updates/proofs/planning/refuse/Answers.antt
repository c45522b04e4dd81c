use Rattle.std.proofs.Common.{◌<◌, sym, subst, ℕ}
use Rattle.update_answers.proofs.Codes.{code_short}
use Rattle.held_updates.proofs.planning.refuse.Goals as goal

pub respond-requires : goal.respond-requires
respond-requires c = subst (λ (k : ℕ). k < 16) (sym c.code.ensures) (code_short c.args.refusal)
