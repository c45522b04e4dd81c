-- Frames whose answers stop before their end: what was written is a front of the answers
use Rattle.std.proofs.Common.{◌≡◌, inl, inr, ℕ, Bool, true, List, [], ◌∷◌, ◌++◌, refl, sym, ap, subst, ◌∙◌, append_assoc, append-nil}
use Rattle.std.specs.Prelude.{◌⊎◌, OnErr, Option, Some, Result, Ok, Err}
use Rattle.std.specs.Io.KnownBytes.{Appends, Consumes, Keeps}
use Rattle.std.proofs.KnownBytes.{Appends-kept, Appends-trans, Consumes-kept, Consumes-nil, Consumes-trans}
use Rattle.zone_server.specs.declared.frames.Mode.{Mode}
use Rattle.zone_server.specs.declared.waiting.Stop.{Stop}
use Rattle.zone_server.specs.Frames.{Framed, frame_of, framed}
use Rattle.zone_server.specs.Serving.{Moves}
use Rattle.zone_server.specs.Stopping.{MovesFront}
use Rattle.zone_server.proofs.FrameLaws.{frames_join}
use Rattle.zone_server.proofs.ServedFrames.{all_moved}
use Rattle.zone_server.proofs.WrittenFronts.{front_after, moved_front, none_front, on_err_from}
use Rattle.zone_database.specs.declared.zone.Zone.{Zone}
use Rattle.held_transfers.specs.declared.access.TransferAccess.{TransferAccess}
use Rattle.held_transfers.specs.declared.answering.KeyedAnswer.{KeyedAnswer}
use Rattle.held_transfers.specs.declared.held_transfer.HeldTransfer.{HeldTransfer}
use Rattle.held_transfers.specs.Answering.{AnswersWithKeys}
use Rattle.held_transfers.specs.Holding.{GoesOnHeld}
use Rattle.keyed_frames.specs.Sending.{Sent, text_of}
use Rattle.keyed_frames.specs.Serving.{ServesOn, TakesFrames}
use Rattle.keyed_frames.specs.Stopping.{BeginsByKeys, BeginsFor, BeginsZone, BreaksOff, IsBegun, Stops, StopsWithin}
use Rattle.keyed_frames.proofs.Sent.{SentSoFar, sent_then, text_then}
use Rattle.keyed_frames.proofs.ServedFrames.{answers_join, none_taken_yet}

-- ---- fronts

-- of all that was written, and of nothing
pub whole_front : (text : List ℕ) (u v : Option (List ℕ)) → Appends u v text → MovesFront text u v
whole_front text u v a = moved_front text [] u v (all_moved text u v [] refl a)

-- behind what was written
pub front_behind : (text more : List ℕ) (u v w : Option (List ℕ)) → Appends u v text → MovesFront more v w → MovesFront (text ++ more) u w
front_behind text more u v w a f = front_after text [] more u v w (all_moved text u v [] refl a) f

-- before what isn't written
pub front_before : (text more : List ℕ) (u v : Option (List ℕ)) → MovesFront text u v → MovesFront (text ++ more) u v
front_before text more u v f = record {
  left = f.left ++ more;
  moved = record {
    written = f.moved.written;
    parts = ap (λ xs. xs ++ more) f.moved.parts ∙ append_assoc f.moved.written f.left more;
    appended = f.moved.appended;
  };
}

-- ---- the answer to a message

stops_so : (Is Js : List ℕ → Type 0) (u v : Option (List ℕ)) → ((t : List ℕ) → Is t → Js t) → Stops Is u v → Stops Js u v
stops_so Is Js u v f s = record { text = s.text; is = by s.is; front = s.front }
  where
    by : (s.text ≡ []) ⊎ Is s.text → (s.text ≡ []) ⊎ Js s.text
    by (inl e) = inl e
    by (inr h) = inr (f s.text h)

pub none_stops : (Is : List ℕ → Type 0) (u : Option (List ℕ)) → Stops Is u u
none_stops Is u = record { text = []; is = inl refl; front = none_front [] u }

pub text_stops : (Is : List ℕ → Type 0) (text : List ℕ) (u v : Option (List ℕ)) → Is text → MovesFront text u v → Stops Is u v
text_stops Is text u v is f = record { text = text; is = inr is; front = f }

pub stops_if : (r : Result (Unit {0}) Stop) (Is Js : List ℕ → Type 0) (u v : Option (List ℕ)) → ((t : List ℕ) → Is t → Js t) → OnErr r (Stops Is u v) → OnErr r (Stops Js u v)
stops_if r Is Js u v f s = on_err_from r (Stops Is u v) (Stops Js u v) (stops_so Is Js u v f) s

-- a zone that is being sent

pub zone_stops : (first now : HeldTransfer) (u v : Option (List ℕ)) → SentSoFar first now u v → Stops (BeginsZone first) u v
zone_stops first now u v s =
    text_stops (BeginsZone first) (text_of s.messages) u v (record { messages = s.messages; last = now; sent = s.sent; written = refl })
    (whole_front (text_of s.messages) u v s.appended)

pub message_stops : (first now behind : HeldTransfer) (u v w : Option (List ℕ)) (moment : ℕ) (octets : List ℕ) (more : Bool) → SentSoFar first now u v → more ≡ true
    → GoesOnHeld moment now behind octets (Ok more) → MovesFront (framed octets) v w → Stops (BeginsZone first) u w
message_stops first now behind u v w moment octets more s is on f =
    let m : Sent = record { moment = moment; behind = behind; octets = octets } in
    let ms : List Sent = s.messages ++ m ∷ [] in
    text_stops (BeginsZone first) (text_of ms) u w
    (record { messages = ms; last = behind; sent = sent_then first now s.messages m s.sent (subst (λ (b : Bool). GoesOnHeld moment now behind octets (Ok b)) is on); written = refl })
    (subst (λ (t : List ℕ). MovesFront t u w) (sym (text_then s.messages m)) (front_behind (text_of s.messages) (framed octets) u v w s.appended f))

module _ (access : TransferAccess) (zs : List Zone) where
  pub keys_stop : (f : Framed) (now : ℕ) (r : Result (Unit {0}) Stop) (a : KeyedAnswer) (octets : List ℕ) (u v : Option (List ℕ)) → AnswersWithKeys access zs now f.transport f.message a octets
      → OnErr r (Stops (BeginsFor zs f a octets) u v) → OnErr r (Stops (BeginsByKeys access zs f) u v)
  keys_stop f now r a octets u v is s =
      stops_if r (BeginsFor zs f a octets) (BeginsByKeys access zs f) u v (λ t h. record { moment = now; answer_is = a; octets = octets; answers = is; begun = h }) s

  -- ---- the frames of octets

  -- within the answer to one of them
  pub frame_stops : (mode : Mode) (octets rest : List ℕ) (u v w : Option (List ℕ)) (f : Framed) (behind : List ℕ) → TakesFrames access zs mode octets rest u v
      → frame_of mode rest ≡ Some (f, behind) → Stops (BeginsByKeys access zs f) v w → StopsWithin access zs mode octets u w
  frame_stops mode octets rest u v w f behind t e s = record {
    frames = t.frames;
    behind = rest;
    stand = t.stand;
    answers = t.text;
    answered = t.answered;
    begun = s.text;
    next = by s.is;
    front = front_behind t.text s.text u v w t.appended s.front;
  }
    where
      by : (s.text ≡ []) ⊎ BeginsByKeys access zs f s.text → IsBegun access zs mode rest s.text
      by (inl none) = inl none
      by (inr is) = inr (f, behind, e, is)

  -- behind them
  pub taken_stops : (mode : Mode) (octets left : List ℕ) (u v : Option (List ℕ)) → TakesFrames access zs mode octets left u v → StopsWithin access zs mode octets u v
  taken_stops mode octets left u v t = record {
    frames = t.frames;
    behind = left;
    stand = t.stand;
    answers = t.text;
    answered = t.answered;
    begun = [];
    next = inl refl;
    front = subst (λ (x : List ℕ). MovesFront x u v) (sym (append-nil t.text)) (whole_front t.text u v t.appended);
  }

  pub slice_stops : (mode : Mode) (octets slice : List ℕ) (u v : Option (List ℕ)) → slice ≡ octets → StopsWithin access zs mode slice u v → StopsWithin access zs mode octets u v
  slice_stops mode octets slice u v same s = subst (λ (o : List ℕ). StopsWithin access zs mode o u v) same s

  pub taken_slice_stops : (mode : Mode) (octets slice left : List ℕ) (u v : Option (List ℕ)) → slice ≡ octets → TakesFrames access zs mode slice left u v → StopsWithin access zs mode octets u v
  taken_slice_stops mode octets slice left u v same t = slice_stops mode octets slice u v same (taken_stops mode slice left u v t)

  -- ---- the frames of an input

  pub nothing_breaks : (mode : Mode) (r h : Option (List ℕ)) → BreaksOff access zs mode r r h h
  nothing_breaks mode r h = record { octets = []; consumed = Consumes-nil r; stopped = taken_stops mode [] [] h h (none_taken_yet access zs mode [] h) }

  -- a read that failed
  pub read_breaks : (mode : Mode) (waiting : List ℕ) (r s t h k : Option (List ℕ)) → ServesOn access zs mode [] waiting r s h k → Keeps s t → BreaksOff access zs mode r t h k
  read_breaks mode waiting r s t h k a kept = record {
    octets = a.octets;
    consumed = Consumes-kept r s t a.octets a.consumed kept;
    stopped = record {
      frames = a.frames;
      behind = waiting;
      stand = a.stand;
      answers = a.text;
      answered = a.answered;
      begun = [];
      next = inl refl;
      front = subst (λ (x : List ℕ). MovesFront x h k) (sym (append-nil a.text)) (whole_front a.text h k a.appended);
    };
  }

  -- octets that were read, whose frames are answered to some place
  pub then_breaks : (mode : Mode) (waiting : List ℕ) (r s h k : Option (List ℕ)) (read : List ℕ) (t l : Option (List ℕ)) → ServesOn access zs mode [] waiting r s h k
      → Consumes s t read → StopsWithin access zs mode (waiting ++ read) k l → BreaksOff access zs mode r t h l
  then_breaks mode waiting r s h k read t l a consumed b = record {
    octets = a.octets ++ read;
    consumed = Consumes-trans r s t a.octets read a.consumed consumed;
    stopped = record {
      frames = a.frames ++ b.frames;
      behind = b.behind;
      stand = frames_join mode a.octets a.frames waiting read b.frames b.behind a.stand b.stand;
      answers = a.text ++ b.answers;
      answered = answers_join access zs a.frames b.frames a.text b.answers a.answered b.answered;
      begun = b.begun;
      next = b.next;
      front = subst (λ (x : List ℕ). MovesFront x h l) (sym (append_assoc a.text b.answers b.begun)) (front_behind a.text (b.answers ++ b.begun) h k l a.appended b.front);
    };
  }

  -- none of their frames
  pub read_then_breaks : (mode : Mode) (waiting : List ℕ) (r s h k : Option (List ℕ)) (read : List ℕ) (t : Option (List ℕ)) → ServesOn access zs mode [] waiting r s h k
      → Consumes s t read → BreaksOff access zs mode r t h k
  read_then_breaks mode waiting r s h k read t a consumed =
      let octets : List ℕ = waiting ++ read in
      then_breaks mode waiting r s h k read t k a consumed (taken_stops mode octets octets k k (none_taken_yet access zs mode octets k))
