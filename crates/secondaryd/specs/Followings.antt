-- The secondary of a zone, and what each event makes of it (RFC 1034 section 4.3.5)
use Rattle.std.specs.Prelude.{◌≡◌, ℕ, ◌<◌, ◌≤◌, Bool, true, false, if◌then◌else◌, List, [], Option, Some, None, Result, Ok, Err, Vec}
use Rattle.std.specs.Ordering.{eq_by_cmp}
use Rattle.zone_proto.specs.Keys.{key}
use Rattle.zone_proto.specs.Names.{lower, name_cmp, Name}
use Rattle.zone_proto.specs.Types.{SOA}
use Rattle.zone_map.specs.Zones.{Sets}
use Rattle.message_notify.specs.Texts.{response_text}
use Rattle.message_notify.specs.declared.notify.Notify.{Notify}
use Rattle.message_notify.specs.declared.notify.NotifyOutcome.{NotifyOutcome}
use Rattle.message_notify.specs.declared.notify.NotifyOutcome.TheVariants as outcomes
use Rattle.message_tsig.specs.declared.key.Key.{Key}
use Rattle.signed_transfers.specs.declared.fault.SignedFault.{SignedFault}
use Rattle.transfer_reading.specs.Outcomes.{said, serial, Said}
use Rattle.transfer_reading.specs.Transfers.{Course}
use Rattle.transfer_reading.specs.declared.asked.Asked.{Asked}
use Rattle.transfer_reading.specs.declared.fault.OutcomeFault.{OutcomeFault}
use Rattle.transfer_reading.specs.declared.stage.Stage.{Stage}
use Rattle.transferred_zones.specs.HeldRecords.{records_in}
use Rattle.transferred_zones.specs.Taking.{IsTaken, IsTakeFault}
use Rattle.transferred_zones.specs.declared.taking.Taken.TheVariants as taken
use Rattle.zone_secondary.specs.States.{asked, confirmed, empty, expired, failed_by, is_expired_in, kept, notified, poll_in, polled, State}
use Rattle.zone_secondary.specs.declared.version.Version.{Version}
use Rattle.secondaryd.specs.Channels.{behind, channel_of, closed, is_end, is_open, opened, sent, stage_of, whole, IsWrong}
use Rattle.secondaryd.specs.Versions.{version_in}
use Rattle.secondaryd.specs.declared.channel.Channel.{Channel}
use Rattle.secondaryd.specs.declared.events.Progress.{Progress}
use Rattle.secondaryd.specs.declared.events.Progress.TheVariants.{Unasked, More, Taken, Serial, Wrong, Unsigned, NotTaken}
use Rattle.secondaryd.specs.declared.following.Following.{Following}

-- no zone is held, and nothing was asked
abbrev pub nothing : Name → Option Key → Following
nothing origin k = record { apex = key origin SOA; channel = channel_of k; state = empty 0; held = [] }

-- a zone is held that was the primary's at a moment for the last time
abbrev pub kept_by : Option Version → ℕ → State → State
kept_by None at s = s
kept_by (Some v) at s = kept v at at

abbrev pub keeping : Following → Sets → ℕ → Following
keeping f m at = record f { held = m; state = kept_by (version_in m f.apex) at f.state }

-- it is let go where it has expired
abbrev pub lapsed : Following → ℕ → Following
lapsed f now = record f { held = if is_expired_in f.state.held now then [] else f.held; state = expired f.state now }

-- ---- questions

-- what is asked next
abbrev pub asked_by : Following → ℕ → Asked
asked_by f id = record { id = id; origin = f.apex.name; question = f.state.due.question }

abbrev pub asking : Following → ℕ → ℕ → Following
asking f id now = record f { channel = opened f.channel (asked_by f id) now; state = asked f.state now }

-- what is sent goes out when it is due, and not before
abbrev pub Asks : {A : Type 0} → Following → ℕ → ℕ → Following → Option (Vec ℕ A) → Type 0
Asks f id now g None = (now < f.state.due.from) × (g ≡ f)
Asks f id now g (Some octets) =
    (f.state.due.from ≤ now) × (octets.items ≡ sent f.channel (asked_by f id) now) × (g ≡ asking f id now)

-- ---- answers

-- no answer is waited for any more
abbrev pub closing : Following → Following
closing f = record f { channel = closed f.channel }

-- and nothing comes of the question
abbrev pub failed : Following → ℕ → Following
failed f now = record f { channel = closed f.channel; state = failed_by f.state f.state.due.question now }

-- a zone is held from now on, and is the primary's now
abbrev pub taken_by : Option Version → ℕ → State → State
taken_by None now s = s
taken_by (Some v) now s = confirmed v now

abbrev pub holding : Following → Sets → ℕ → Following
holding f m now = record f { held = m; state = taken_by (version_in m f.apex) now f.state }

-- the primary has the version of a serial
abbrev pub knowing : Following → ℕ → ℕ → Following
knowing f n now = record f { state = polled f.state f.state.held n now }

-- what an answer says of the zone, beside that which is held
abbrev pub said_to : Following → Course → Result Said OutcomeFault
said_to f t = said t (records_in f.held)

-- What comes of an answer at its end: the zone that it says is held, all of it; or its serial is known; or it says nothing, and what was held is.
abbrev pub Ends : Following → Course → ℕ → Progress → Following → Type 0
Ends f t now Taken g = IsTaken (lower f.apex.name) (said_to f t) (taken.Zone g.held) × (g ≡ holding (closing f) g.held now)
Ends f t now (Serial n poll) g = (said_to f t ≡ Ok (serial n)) × (poll ≡ poll_in f.state.held n) × (g ≡ knowing (closing f) n now)
Ends f t now (NotTaken e) g = IsTakeFault (lower f.apex.name) (said_to f t) e × (g ≡ failed f now)
Ends f t now _ g = ⊥

-- An answer to a signed question whose last message isn't signed says nothing.
abbrev pub Finishes : Following → Option Course → ℕ → Progress → Following → Type 0
Finishes f None now p g = (p ≡ Unsigned) × (g ≡ failed f now)
Finishes f (Some t) now p g = Ends f t now p g

abbrev pub has_ended : Option Stage → Bool
has_ended None = false
has_ended (Some stage) = is_end stage

-- what comes of a message of the answer, where the channel is behind it
abbrev pub GoesOn : Following → ℕ → Progress → Following → Type 0
GoesOn f now More g = (has_ended (stage_of f.channel) ≡ false) × (g ≡ f)
GoesOn f now p g = (has_ended (stage_of f.channel) ≡ true) × Finishes f (whole f.channel) now p g

-- what comes of a message, of which this is made
abbrev pub Follows : Following → Option (Result Channel SignedFault) → ℕ → Progress → Following → Type 0
Follows f made now Unasked g = (made ≡ None) × (g ≡ f)
Follows f made now (Wrong e) g = IsWrong e made × (g ≡ failed f now)
Follows f made now p g = (c : Channel) × (made ≡ Some (Ok c)) × GoesOn (record f { channel = c }) now p g

-- ---- NOTIFY

-- a NOTIFY is taken that is for the zone, the case of letters aside
abbrev pub is_for : Following → Notify → Bool
is_for f n = eq_by_cmp name_cmp (lower n.origin) f.apex.name

abbrev pub outcome_for : Following → Notify → NotifyOutcome
outcome_for f n = if is_for f n then outcomes.Taken else outcomes.NotAuthoritative

abbrev pub noticing : Following → Notify → ℕ → Following
noticing f n now = if is_for f n then record f { state = notified f.state n.serial now } else f

-- the response to a NOTIFY, and what it makes of the secondary; other octets have no response
abbrev pub Notices : {A : Type 0} → Following → Option Notify → ℕ → Following → Option (Vec ℕ A) → Type 0
Notices f None now g None = g ≡ f
Notices f (Some n) now g (Some octets) = (octets.items ≡ response_text n (outcome_for f n)) × (g ≡ noticing f n now)
Notices f _ now g _ = ⊥
