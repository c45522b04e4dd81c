-- What the calls about NOTIFY messages do for a program that isn't written in Rattle
use Rattle.std.specs.Prelude.{◌≡◌, ◌%◌, ℕ, List, Option, Some, None, Ok}
use Rattle.call_handles.specs.Rooms.{IsUntouched}
use Rattle.zone_proto.specs.Names.{Name}
use Rattle.message_notify.specs.declared.notify.NotifyResponse.{NotifyResponse}
use Rattle.message_notify.specs.Texts.{notify_text}
use Rattle.zone_database.specs.declared.outcome.Outcome.{Outcome}
use Rattle.zone_database.specs.declared.outcome.Outcome.TheVariants.{Done, Ignored}
use Rattle.zone_database.specs.Calls.{IsGiven, WithName, origin_of}

-- octets are the NOTIFY for the zone of an origin, with the lowest 16 bits of a number as its identifier
abbrev pub IsNotifyFor : ℕ → List ℕ → List ℕ → Type 0
IsNotifyFor id origin octets = (name : Name) × (origin_of origin ≡ Ok name) × (octets ≡ notify_text (id % 65536) name)

-- that is given in the room; or the origin is no name, or no memory was found
abbrev pub WritesNotify : ℕ → List ℕ → Outcome → ℕ → List ℕ → List ℕ → Type 0
WritesNotify id origin outcome written before after =
    WithName (origin_of origin) (λ name. IsGiven (notify_text (id % 65536) name) outcome written before after) (λ end. (outcome ≡ end) × IsUntouched written before after)

-- a message is the response to a NOTIFY, whose identifier and code are written; or it is none, and both stay
abbrev pub ReadsResponse : Option NotifyResponse → Outcome → ℕ → ℕ → ℕ → ℕ → Type 0
ReadsResponse (Some response) outcome id_before id code_before code = (outcome ≡ Done) × (id ≡ response.id) × (code ≡ response.response_code)
ReadsResponse None outcome id_before id code_before code = (outcome ≡ Ignored) × (id ≡ id_before) × (code ≡ code_before)
