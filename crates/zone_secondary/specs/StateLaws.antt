-- Laws of the states of a secondary zone
use Rattle.std.specs.Prelude.{◌≡◌, ℕ, ◌+◌, ◌<◌, ◌≤◌, ◌^◌, true, false, Option, option_map}
use Rattle.zone_secondary.specs.declared.secondary.Held.{Held}
use Rattle.zone_secondary.specs.declared.version.Version.{Version}
use Rattle.zone_secondary.specs.States.{asked, confirmed, failed_by, is_served_in, notified, polled, State}
use Rattle.zone_secondary.specs.Waits.{later}

-- the version that is held, if one is
abbrev pub version_of : Option Held → Option Version
version_of held = option_map (λ h. h.version) held

-- the version that is held after each of these events is the one before it
pub record KeepsVersion : Type 0 where
  pub ask : (s : State) (now : ℕ) → version_of (asked s now).held ≡ version_of s.held
  pub notify : (s : State) (hint : Option ℕ) (now : ℕ) → version_of (notified s hint now).held ≡ version_of s.held
  pub poll : (s : State) (serial now : ℕ) → version_of (polled s s.held serial now).held ≡ version_of s.held
  pub fail : (s : State) (now : ℕ) → version_of (failed_by s s.due.question now).held ≡ version_of s.held

-- a version that was the primary's now is served at each moment before its expire interval is over, and at none from then on
pub record IsServedUntilExpiry : Type 0 where
  pub before : (version : Version) (now at : ℕ) → at < later now version.expire → is_served_in (confirmed version now).held at ≡ true
  pub after : (version : Version) (now at : ℕ) → later now version.expire ≤ at → is_served_in (confirmed version now).held at ≡ false

-- at each moment but the last one, the question that went out is due after it
abbrev pub WaitsASecond : Type 0
WaitsASecond = (s : State) (now : ℕ) → now + 1 < 2 ^ 64 → now < (asked s now).due.from
