-- The sets of a signed zone that have other signatures than they are to have
use Rattle.std.specs.Prelude.{◌≡◌, ℕ, ◌==◌, Bool, if◌then◌else◌, List, [], length, Option, Some, None, option_and_then}
use Rattle.zone_proto.specs.declared.rr_key.RrKey.{RrKey}
use Rattle.zone_proto.specs.Keys.{key}
use Rattle.zone_proto.specs.Names.{Name}
use Rattle.zone_proto.specs.Sets.{RRset}
use Rattle.zone_map.specs.Zones.{Sets, set_at}
use Rattle.zone_signing.specs.Secured.{SetsBy, bare, signed}
use Rattle.update_in_place.specs.Parts.{is_among}
use Rattle.zone_planning.specs.declared.signer.PlanSigner.{PlanSigner}
use Rattle.zone_planning.specs.Answering.{plans}
use Rattle.zone_planner.specs.declared.keys.PlannedKey.{PlannedKey}
use Rattle.zone_planner.specs.declared.request.Request.{Request}
use Rattle.zone_planner.specs.Plans.{AreSignersOf}
use Rattle.zone_planner.specs.Zones.{is_left_out}

-- a set has no signatures
abbrev pub is_unsigned : RRset → Bool
is_unsigned s = length s.signatures == 0

-- A set as it is to be, if it has other signatures than it is to have: without signatures where nobody signs it (RFC 4035 section 2.2) and it has some, and with blank ones
-- where it is signed and has none.
abbrev pub due_set : Name → Sets → ℕ → List PlanSigner → RrKey → RRset → Option RRset
due_set origin m now signers k s =
    if is_left_out origin m k then (if is_unsigned s then None else Some (bare s)) else (if is_unsigned s then Some (signed plans now signers s) else None)

-- these sets by name and type
abbrev pub due_at : Name → Sets → ℕ → List PlanSigner → SetsBy
due_at origin m now signers n t = option_and_then (due_set origin m now signers (key n t)) (set_at m n t)

-- Sets of some names as they are to be, if they have other signatures than they are to have: with those that a planning signer of each key plans.
pub record IsDue (origin : Name) (keys : List PlannedKey) (request : Request) (names : List Name) (zone due : Sets) : Type 0 where
  pub signers : List PlanSigner
  pub of_keys : AreSignersOf origin keys request [] signers
  pub each : (n : Name) (t : ℕ) → set_at due n t ≡ (if is_among names n then due_at origin zone request.inception signers n t else None)
