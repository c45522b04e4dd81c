-- Which messages are given
use Rattle.std.proofs.Common.{◌≡◌, ℕ, ◌<◌, ◌≤◌, List, [], ◌∷◌, length, map, refl, subst, arith}
use Rattle.std.specs.Prelude.{Option, Some, None, Vec}
use Rattle.std.specs.declared.alloc.Global.{Global}
use Rattle.zone_proto.specs.Names.{Name}
use Rattle.zone_proto.specs.Sets.{RRset}
use Rattle.message_reading.specs.declared.query.Query.{Query}
use Rattle.shown_zones.specs.Steps.{step_of}
use Rattle.shown_zones.specs.declared.step.ZoneStep.{ZoneStep}
use Rattle.condensed_steps.specs.Condensing.{IsCondensedIfAny}
use Rattle.step_answers.specs.Answers.{GivesMessages}
use Rattle.condensed_answers.specs.Answers.{GivesCondensed, IsInPlace}

pub none_in_place : (origin : Name) (ss : List ZoneStep) → length ss < 2 → IsInPlace origin ss None
none_in_place origin [] h = refl
none_in_place origin (s ∷ []) h = refl
none_in_place origin (s ∷ t ∷ ss) h = absurd (omega (arith, h))

pub one_in_place : (origin : Name) (ss : List ZoneStep) (one : Option ZoneStep) → 2 ≤ length ss → IsCondensedIfAny origin (map step_of ss) one → IsInPlace origin ss one
one_in_place origin [] one h is = absurd (omega (arith, h))
one_in_place origin (s ∷ []) one h is = absurd (omega (arith, h))
one_in_place origin (s ∷ t ∷ ss) one h is = is

module _ (q : Query) (origin : Name) (soa : RRset) (ss : List ZoneStep) (size limit : ℕ) (r : Option (Vec (Vec ℕ Global) Global)) where
  pub gives_one : (s : ZoneStep) (gs : List ZoneStep) → IsInPlace origin ss (Some s) → gs ≡ s ∷ [] → GivesMessages q soa gs size limit r → GivesCondensed q origin soa ss size limit r
  gives_one s gs place is gives = record { one = Some s; in_place = place; gives = subst (λ (xs : List ZoneStep). GivesMessages q soa xs size limit r) is gives }

  pub gives_all : IsInPlace origin ss None → GivesMessages q soa ss size limit r → GivesCondensed q origin soa ss size limit r
  gives_all place gives = record { one = None; in_place = place; gives = gives }
