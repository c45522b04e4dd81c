-- Which messages are given, by the steps that are lacked
use Rattle.std.proofs.Common.{◌≡◌, ◌∙◌, ℕ, List, refl, sym, ap, subst}
use Rattle.std.specs.Prelude.{Option, Some, None, Vec}
use Rattle.std.specs.declared.alloc.Global.{Global}
use Rattle.std.specs.Arc.{arc_value}
use Rattle.zone_proto.specs.Sets.{RRset}
use Rattle.zone_database.specs.declared.zone.Zone.{Zone}
use Rattle.zone_server.specs.Limits.{datagram_size}
use Rattle.transfer_messages.specs.Sending.{room}
use Rattle.shown_zones.specs.declared.step.ZoneStep.{ZoneStep}
use Rattle.held_transfers.specs.declared.held_transfer.HeldTransfer.{HeldTransfer}
use Rattle.held_transfers.specs.Holding.{soa_held}
use Rattle.condensed_answers.specs.Answers.{GivesCondensed}
use Rattle.held_steps.specs.declared.histories.HeldSteps.{HeldSteps}
use Rattle.held_steps.specs.Lacking.{lacked, GivesAny, GivesLacked, GivesSteps, GivesTo}

module _ (h : HeldTransfer) (r : Option (Vec (Vec ℕ Global) Global)) where
  -- with the SOA of the zone
  pub gives_to : (soa : RRset) (ss : List ZoneStep) (z : Zone) → soa_held h ≡ Some soa → z ≡ arc_value h.zone
      → GivesCondensed h.transfer.query z.origin soa ss datagram_size room r → GivesLacked h ss r
  gives_to soa ss z is same gives =
      subst (λ (o : Option RRset). GivesTo o h ss r) (sym is) (subst (λ (y : Zone). GivesCondensed h.transfer.query y.origin soa ss datagram_size room r) same gives)

  pub gives_steps : (s : HeldSteps) (message : List ℕ) (ss : List ZoneStep) → Some ss ≡ lacked s h message → GivesLacked h ss r → GivesSteps s h message r
  gives_steps s message ss is gives = subst (λ (o : Option (List ZoneStep)). GivesAny h o r) is gives

  pub gives_nothing : (s : HeldSteps) (message : List ℕ) → None ≡ lacked s h message → r ≡ None → GivesSteps s h message r
  gives_nothing s message is none = subst (λ (o : Option (List ZoneStep)). GivesAny h o r) is none

-- there is no SOA
pub gives_without : (h : HeldTransfer) (ss : List ZoneStep) → soa_held h ≡ None → GivesLacked h ss None
gives_without h ss is = subst (λ (o : Option RRset). GivesTo o h ss None) (sym is) refl
