-- What is handed out of a plan to be signed, and what is given
use Rattle.std.specs.Prelude.{◌≡◌, ◌<◌, ◌++◌, ℕ, List, [], ◌∷◌, length, drop, slice_get, Option, Some, None}
use Rattle.zone_planning.specs.Frames.{Asked}
use Rattle.call_handles.specs.Rooms.{IsUntouched, StandsIn}
use Rattle.held_plans.specs.PlanStates.{PlanState}
use Rattle.plan_calls.specs.declared.outcome.PlanOutcome.{PlanOutcome}
use Rattle.plan_calls.specs.declared.outcome.PlanOutcome.TheVariants.{Done, NoMemory, NoRoom, NoMore}

-- what a call tells: a number, how many octets it wrote, and the room before and after it
pub record Told : Type 0 where
  pub number_before : ℕ
  pub number : ℕ
  pub written : ℕ
  pub before : List ℕ
  pub after : List ℕ

-- nothing is told
abbrev pub IsSilent : Told → Type 0
IsSilent t = (t.number ≡ t.number_before) × IsUntouched t.written t.before t.after

-- octets are written, with a number
abbrev pub Tells : ℕ → List ℕ → Told → Type 0
Tells number octets t = (t.number ≡ number) × (t.written ≡ length octets) × StandsIn octets t.before t.after

-- octets are longer than the room, and nothing but their length is told
abbrev pub LacksRoom : List ℕ → Told → Type 0
LacksRoom octets t = (length t.before < length octets) × (t.number ≡ t.number_before) × (t.written ≡ length octets) × (t.after ≡ t.before)

-- the next that is to be signed is told, with the number of its key, and isn't handed out again; or its length alone, where it is longer than the room; or there is none
abbrev pub GivesAsked : PlanState → Option Asked → PlanOutcome → Told → PlanState → Type 0
GivesAsked p None NoMore t new = IsSilent t × (new ≡ p)
GivesAsked p (Some a) Done t new = Tells a.number a.octets t × (new ≡ record p { asked = drop 1 p.asked })
GivesAsked p (Some a) NoRoom t new = LacksRoom a.octets t × (new ≡ p)
GivesAsked p next outcome t new = ⊥

abbrev pub GivesNext : PlanState → PlanOutcome → Told → PlanState → Type 0
GivesNext p outcome t new = GivesAsked p (slice_get p.asked 0) outcome t new

-- a signature is behind those before it; or no memory was found, and nothing changes
abbrev pub TakesSignature : PlanState → List ℕ → PlanOutcome → PlanState → Type 0
TakesSignature p signature Done new = new ≡ record p { signatures = p.signatures ++ signature ∷ [] }
TakesSignature p signature NoMemory new = new ≡ p
TakesSignature p signature outcome new = ⊥
