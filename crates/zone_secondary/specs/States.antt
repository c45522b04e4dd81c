-- The state of a secondary zone, and what each event makes of it (RFC 1034 section 4.3.5)
use Rattle.std.specs.Prelude.{ℕ, ◌==◌, not, Bool, false, Option, Some, None, nat_le, min, if◌then◌else◌}
use Rattle.zone_secondary.specs.declared.secondary.Due.{Due}
use Rattle.zone_secondary.specs.declared.secondary.Held.{Held}
use Rattle.zone_secondary.specs.declared.secondary.Poll.{Poll}
use Rattle.zone_secondary.specs.declared.secondary.Poll.TheVariants.{Newer, Same, Older}
use Rattle.zone_secondary.specs.declared.secondary.Question.{Question}
use Rattle.zone_secondary.specs.declared.secondary.Question.TheVariants.{Soa, Changes, Zone}
use Rattle.zone_secondary.specs.declared.version.Version.{Version}
use Rattle.zone_proto.specs.Serials.{is_newer}
use Rattle.zone_secondary.specs.Waits.{first_wait, later, refresh_wait, retry_wait}

-- the version that is held, with the moment at which it last was the primary's, if one is; and the question that goes out next, with the
-- moment at which it does
pub record State : Type 0 where
  pub held : Option Held
  pub due : Due

-- ---- which question, when

-- a secondary that holds a zone asks for the SOA record, and another for the zone
abbrev pub first_question : Option Held → Question
first_question None = Zone
first_question (Some h) = Soa

-- how long it waits where a question failed
abbrev pub wait_to_retry : Option Held → ℕ
wait_to_retry None = first_wait
wait_to_retry (Some h) = retry_wait h.version

-- the question, now
abbrev pub at_once : State → Question → ℕ → State
at_once s question now = record s { due = record { question = question; from = now } }

-- from the first question again, when the retry interval is over
abbrev pub again_later : State → ℕ → State
again_later s now = record s { due = record { question = first_question s.held; from = later now (wait_to_retry s.held) } }

-- this version is the primary's, now: the first question goes out when the refresh interval is over
abbrev pub confirmed : Version → ℕ → State
confirmed version now = record {
  held = Some (record { version = version; confirmed = now });
  due = record { question = Soa; from = later now (refresh_wait version) };
}

-- ---- events

-- no zone is held
abbrev pub empty : ℕ → State
empty now = record { held = None; due = record { question = Zone; from = now } }

-- a zone is held that was the primary's at a moment, as from a disk
abbrev pub kept : Version → ℕ → ℕ → State
kept version at now = record {
  held = Some (record { version = version; confirmed = at });
  due = record { question = Soa; from = now };
}

-- the question that was due went out: unless something comes of it, it goes out again when the retry interval is over
abbrev pub asked : State → ℕ → State
asked s now = record s { due = record s.due { from = later now (wait_to_retry s.held) } }

-- a NOTIFY came (RFC 1996 sections 3.7 and 4.3): the first question goes out now, unless its hint is the serial of the version that is held
abbrev pub is_known : Option Held → Option ℕ → Bool
is_known None hint = false
is_known (Some h) None = false
is_known (Some h) (Some serial) = serial == h.version.serial

abbrev pub notified : State → Option ℕ → ℕ → State
notified s hint now =
    if is_known s.held hint then s else at_once s (first_question s.held) (min s.due.from now)

-- what a serial of the primary says of a version that is held
abbrev pub poll_of : ℕ → Version → Poll
poll_of serial version =
    if serial == version.serial then Same else (if is_newer serial version.serial then Newer else Older)

-- The primary has a serial. A newer one is asked for, by the changes since the one that is held; the same confirms the zone; an older one is
-- as if the question had failed, since serials don't go back.
abbrev pub polled_by : State → Held → Poll → ℕ → State
polled_by s h Newer now = at_once s (Changes h.version.serial) now
polled_by s h Same now = confirmed h.version now
polled_by s h Older now = again_later s now

abbrev pub polled : State → Option Held → ℕ → ℕ → State
polled s None serial now = at_once s Zone now
polled s (Some h) serial now = polled_by s h (poll_of serial h.version) now

-- what the serial says; where no zone is held, any is newer
abbrev pub poll_in : Option Held → ℕ → Poll
poll_in None serial = Newer
poll_in (Some h) serial = poll_of serial h.version

-- A question failed. Where the changes were asked for, the whole zone is asked for now (RFC 1995 section 4); otherwise the first question goes
-- out again when the retry interval is over.
abbrev pub failed_by : State → Question → ℕ → State
failed_by s (Changes serial) now = at_once s Zone now
failed_by s Soa now = again_later s now
failed_by s Zone now = again_later s now

-- ---- expiry

-- a version was the primary's for the last time so long ago as its expire interval says
abbrev pub is_over : Held → ℕ → Bool
is_over h now = nat_le (later h.confirmed h.version.expire) now

abbrev pub is_expired_in : Option Held → ℕ → Bool
is_expired_in None now = false
is_expired_in (Some h) now = is_over h now

-- a zone may be served where it is held and hasn't expired
abbrev pub is_served_in : Option Held → ℕ → Bool
is_served_in None now = false
is_served_in (Some h) now = not (is_over h now)

-- an expired zone is let go, and asked for as if none had been held; the question goes out when it would have
abbrev pub expired : State → ℕ → State
expired s now =
    if is_expired_in s.held now then record { held = None; due = record { question = Zone; from = s.due.from } } else s
