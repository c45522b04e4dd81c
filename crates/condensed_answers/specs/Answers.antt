-- All messages of an answer, of one step in place of several (RFC 1995 section 5)
use Rattle.std.specs.Prelude.{◌≡◌, ℕ, List, [], ◌∷◌, map, Option, Some, None, Vec}
use Rattle.std.specs.declared.alloc.Global.{Global}
use Rattle.zone_proto.specs.Names.{Name}
use Rattle.zone_proto.specs.Sets.{RRset}
use Rattle.message_reading.specs.declared.query.Query.{Query}
use Rattle.shown_zones.specs.Steps.{step_of}
use Rattle.shown_zones.specs.declared.step.ZoneStep.{ZoneStep}
use Rattle.condensed_steps.specs.Condensing.{IsCondensedIfAny}
use Rattle.step_answers.specs.Answers.{GivesMessages}

-- the step that goes out in place of two or more, if they are condensed into one
abbrev pub IsInPlace : Name → List ZoneStep → Option ZoneStep → Type 0
IsInPlace origin [] one = one ≡ None
IsInPlace origin (s ∷ []) one = one ≡ None
IsInPlace origin (s ∷ t ∷ ss) one = IsCondensedIfAny origin (map step_of (s ∷ t ∷ ss)) one

-- the steps that go out
abbrev pub sent_for : Option ZoneStep → List ZoneStep → List ZoneStep
sent_for None ss = ss
sent_for (Some s) ss = s ∷ []

-- the messages of the one step in place of others, or of these where there is none; or one of the records can't be sent
pub record GivesCondensed (q : Query) (origin : Name) (soa : RRset) (ss : List ZoneStep) (size limit : ℕ) (r : Option (Vec (Vec ℕ Global) Global)) : Type 0 where
  pub one : Option ZoneStep
  pub in_place : IsInPlace origin ss one
  pub gives : GivesMessages q soa (sent_for one ss) size limit r
