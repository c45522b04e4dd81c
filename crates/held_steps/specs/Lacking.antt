-- The steps that the one lacks who asks for what changed in a zone (RFC 1995 section 4)
use Rattle.std.specs.Prelude.{◌≡◌, ℕ, ◌==◌, List, Option, Some, None, if◌then◌else◌, Vec}
use Rattle.std.specs.Arc.{arc_value}
use Rattle.std.specs.declared.alloc.Global.{Global}
use Rattle.zone_proto.specs.Sets.{RRset, first_serial}
use Rattle.zone_proto.specs.Types.{SOA}
use Rattle.zone_map.specs.Zones.{set_at}
use Rattle.zone_server.specs.Limits.{datagram_size}
use Rattle.zone_proto.specs.Types.{IXFR}
use Rattle.zone_server.specs.Transfers.{client_serial}
use Rattle.zone_database.specs.declared.zone.Zone.{Zone}
use Rattle.transfer_messages.specs.Sending.{room}
use Rattle.shown_zones.specs.declared.step.ZoneStep.{ZoneStep}
use Rattle.kept_steps.specs.Giving.{steps_from}
use Rattle.held_transfers.specs.declared.held_transfer.HeldTransfer.{HeldTransfer}
use Rattle.held_transfers.specs.Holding.{soa_held}
use Rattle.condensed_answers.specs.Answers.{GivesCondensed}
use Rattle.held_steps.specs.declared.histories.HeldSteps.{HeldSteps}
use Rattle.held_steps.specs.declared.history.ZoneHistory.{ZoneHistory}
use Rattle.held_steps.specs.Histories.{history_of, sets_in}

-- ---- serials

abbrev pub serial_if : Option RRset → Option ℕ
serial_if None = None
serial_if (Some soa) = first_serial soa.records

-- the serial of the SOA of a zone
abbrev pub serial_in : Zone → Option ℕ
serial_in z = serial_if (set_at (sets_in z) z.origin SOA)

-- ---- steps

-- the steps from the version of a serial to the one that is sent: none where that hasn't the serial of the version to which the steps lead
abbrev pub steps_to : ℕ → Option ℕ → Option ℕ → List ZoneStep → Option (List ZoneStep)
steps_to held (Some newest) (Some sent) ss = if newest == sent then steps_from held newest ss else None
steps_to held (Some newest) None ss = None
steps_to held None sent ss = None

-- by what is kept of the zone that is sent
abbrev pub lacked_by : ℕ → Option ZoneHistory → Zone → Option (List ZoneStep)
lacked_by held None z = None
lacked_by held (Some h) z = steps_to held (serial_in (arc_value h.newest)) (serial_in z) h.steps.steps

-- from the version of the serial that the one has who asks
abbrev pub lacked_since : Option ℕ → Option ZoneHistory → Zone → Option (List ZoneStep)
lacked_since None h z = None
lacked_since (Some held) h z = lacked_by held h z

-- where the zone is being sent to one who asked for what changed, by this message
abbrev pub lacked : HeldSteps → HeldTransfer → List ℕ → Option (List ZoneStep)
lacked s h message =
    if h.transfer.query.question.query_type.0 == IXFR then lacked_since (client_serial message) (history_of s (arc_value h.zone).origin) (arc_value h.zone) else None

-- ---- their messages

-- Messages as they are before they are signed, which leave room for that, of one step in place of two or more (RFC 1995 section 5); none where a record
-- can't be sent.
abbrev pub GivesTo : Option RRset → HeldTransfer → List ZoneStep → Option (Vec (Vec ℕ Global) Global) → Type 0
GivesTo None h ss r = r ≡ None
GivesTo (Some soa) h ss r = GivesCondensed h.transfer.query (arc_value h.zone).origin soa ss datagram_size room r

abbrev pub GivesLacked : HeldTransfer → List ZoneStep → Option (Vec (Vec ℕ Global) Global) → Type 0
GivesLacked h ss r = GivesTo (soa_held h) h ss r

abbrev pub GivesAny : HeldTransfer → Option (List ZoneStep) → Option (Vec (Vec ℕ Global) Global) → Type 0
GivesAny h None r = r ≡ None
GivesAny h (Some ss) r = GivesLacked h ss r

-- the messages of the steps that the one who asks lacks
abbrev pub GivesSteps : HeldSteps → HeldTransfer → List ℕ → Option (Vec (Vec ℕ Global) Global) → Type 0
GivesSteps s h message r = GivesAny h (lacked s h message) r
