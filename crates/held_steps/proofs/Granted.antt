-- Steps go out only for those who may have the zone
use Rattle.std.proofs.Common.{sym, subst}
use Rattle.held_transfers.specs.Laws.{IsEntitled, TransfersAreGranted}
use Rattle.held_steps.specs.declared.held_answer.HeldAnswer.{HeldAnswer}
use Rattle.held_steps.specs.GrantLaws.{StepsAreGranted}

pub steps_are_granted : TransfersAreGranted → StepsAreGranted
steps_are_granted granted access zs now t message h octets s a answers (texts, whole, gives, is) =
    subst (λ (x : HeldAnswer). IsEntitled access now message x.transfer) (sym is) (granted access zs now t message h octets answers)
