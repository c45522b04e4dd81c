-- A zone that is sent in messages one behind the other
use Rattle.std.proofs.Common.{◌≡◌, ℕ, Bool, true, false, List, [], ◌∷◌, ◌++◌, refl, sym, ap, subst, ◌∙◌, append_assoc, append-nil}
use Rattle.std.specs.Prelude.{Option, Ok}
use Rattle.std.specs.Io.KnownBytes.{Appends}
use Rattle.std.proofs.KnownBytes.{Appends-nil, Appends-trans}
use Rattle.zone_server.specs.Frames.{framed}
use Rattle.held_transfers.specs.declared.held_transfer.HeldTransfer.{HeldTransfer}
use Rattle.held_transfers.specs.Holding.{GoesOnHeld}
use Rattle.keyed_frames.specs.Sending.{AreSent, IsSentWhole, Sent, text_of}
use Rattle.keyed_frames.specs.Serving.{Writes}

-- messages led a transfer on, and were written
pub record SentSoFar (first now : HeldTransfer) (u v : Option (List ℕ)) : Type 0 where
  pub messages : List Sent
  pub sent : AreSent first messages now
  pub appended : Appends u v (text_of messages)

pub none_sent : (first : HeldTransfer) (u : Option (List ℕ)) → SentSoFar first first u u
none_sent first u = record { messages = []; sent = refl; appended = Appends-nil u }

pub sent_then : (first now : HeldTransfer) (ms : List Sent) (m : Sent) → AreSent first ms now → GoesOnHeld m.moment now m.behind m.octets (Ok true) → AreSent first (ms ++ m ∷ []) m.behind
sent_then first now [] m e on = (subst (λ (h : HeldTransfer). GoesOnHeld m.moment h m.behind m.octets (Ok true)) e on, refl)
sent_then first now (x ∷ ms) m (goes, others) on = (goes, sent_then x.behind now ms m others on)

pub text_then : (ms : List Sent) (m : Sent) → text_of (ms ++ m ∷ []) ≡ text_of ms ++ framed m.octets
text_then [] m = append-nil (framed m.octets)
text_then (x ∷ ms) m = ap (λ t. framed x.octets ++ t) (text_then ms m) ∙ sym (append_assoc (framed x.octets) (text_of ms) (framed m.octets))

-- one message more
pub sent_on : (first now behind : HeldTransfer) (u v w : Option (List ℕ)) (moment : ℕ) (octets : List ℕ) (more : Bool) → SentSoFar first now u v → more ≡ true
    → GoesOnHeld moment now behind octets (Ok more) → Appends v w (framed octets) → SentSoFar first behind u w
sent_on first now behind u v w moment octets more s is on a =
    let m : Sent = record { moment = moment; behind = behind; octets = octets } in
    record {
      messages = s.messages ++ m ∷ [];
      sent = sent_then first now s.messages m s.sent (subst (λ (b : Bool). GoesOnHeld moment now behind octets (Ok b)) is on);
      appended = subst (Appends u w) (sym (text_then s.messages m)) (Appends-trans u v w (text_of s.messages) (framed octets) s.appended a);
    }

-- and no more
pub ends : (first now end : HeldTransfer) (u v : Option (List ℕ)) (moment : ℕ) (octets : List ℕ) (more : Bool) → SentSoFar first now u v → more ≡ false
    → GoesOnHeld moment now end octets (Ok more) → Writes (IsSentWhole first) u v
ends first now end u v moment octets more s is on = (
  text_of s.messages,
  record {
    messages = s.messages;
    last = now;
    sent = s.sent;
    moment = moment;
    end = end;
    rest = octets;
    ended = subst (λ (b : Bool). GoesOnHeld moment now end octets (Ok b)) is on;
    written = refl;
  },
  s.appended,
)
