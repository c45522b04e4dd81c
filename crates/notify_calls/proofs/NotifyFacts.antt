-- What the calls about NOTIFY messages do, from what is written and read of them
use Rattle.std.proofs.Common.{◌≡◌, ◌⊎◌, ℕ, List, true≢false, inl, inr, refl, sym, subst, Ok, Err, Result}
use Rattle.std.specs.Prelude.{◌%◌, Option, Some, None, IsErr}
use Rattle.call_handles.specs.Rooms.{IsUntouched}
use Rattle.zone_proto.specs.declared.error.ProtoError.{ProtoError}
use Rattle.zone_proto.specs.Names.{Name}
use Rattle.message_notify.specs.declared.notify.NotifyResponse.{NotifyResponse}
use Rattle.message_notify.specs.Texts.{notify_text}
use Rattle.zone_database.specs.declared.outcome.Outcome.{Outcome}
use Rattle.zone_database.specs.declared.outcome.Outcome.TheVariants.{Done, Ignored, BadName, NoMemory}
use Rattle.zone_database.specs.Calls.{IsGiven, WithName, origin_of}
use Rattle.notify_calls.specs.NotifyCalls.{IsNotifyFor, ReadsResponse, WritesNotify}

-- what is done by the name that is read, and what is done where none is
abbrev by_name : ℕ → Outcome → ℕ → List ℕ → List ℕ → Result Name ProtoError → Type 0
by_name id o written before after read =
    WithName read (λ name. IsGiven (notify_text (id % 65536) name) o written before after) (λ end. (o ≡ end) × IsUntouched written before after)

pub given : (id : ℕ) (origin octets : List ℕ) (o : Outcome) (written : ℕ) (before after : List ℕ) → IsNotifyFor id origin octets → IsGiven octets o written before after
    → WritesNotify id origin o written before after
given id origin octets o written before after (name, is, text) there =
    subst (by_name id o written before after) (sym is) (inl (subst (λ (t : List ℕ). IsGiven t o written before after) text there))

refused_by : (id : ℕ) (o : Outcome) (room : List ℕ) (read : Result Name ProtoError) → (o ≡ NoMemory) ⊎ ((o ≡ BadName) × IsErr read) → by_name id o 0 room room read
refused_by id o room (Ok name) (inl e) = inr (e, (refl, refl))
refused_by id o room (Ok name) (inr w) = absurd (true≢false (sym w.1))
refused_by id o room (Err e) (inl e') = inr (e', (refl, refl))
refused_by id o room (Err e) (inr w) = inl (w.0, (refl, refl))

pub refused : (id : ℕ) (origin room : List ℕ) (o : Outcome) → (o ≡ NoMemory) ⊎ ((o ≡ BadName) × IsErr (origin_of origin)) → WritesNotify id origin o 0 room room
refused id origin room o why = refused_by id o room (origin_of origin) why

pub read : (is : Option NotifyResponse) (response : NotifyResponse) (id code : ℕ) → is ≡ Some response → ReadsResponse is Done id response.id code response.response_code
read is response id code e = subst (λ (r : Option NotifyResponse). ReadsResponse r Done id response.id code response.response_code) (sym e) (refl, refl, refl)

pub unread : (is : Option NotifyResponse) (id code : ℕ) → is ≡ None → ReadsResponse is Ignored id id code code
unread is id code e = subst (λ (r : Option NotifyResponse). ReadsResponse r Ignored id id code code) (sym e) (refl, refl, refl)
