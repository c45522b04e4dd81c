-- Frames whose answers stop before their end: what was written is a front of the answers
use Rattle.std.proofs.Common.{◌≡◌, inl, inr, ℕ, Bool, true, false, List, [], ◌++◌, refl, sym, subst, append_assoc, append-nil}
use Rattle.std.specs.Prelude.{◌⊎◌, OnErr, Option, Some, Result, Ok, Err}
use Rattle.std.specs.Bool.{MatchBool}
use Rattle.std.specs.Io.KnownBytes.{Consumes, Keeps}
use Rattle.std.proofs.KnownBytes.{Consumes-kept, Consumes-nil, Consumes-trans}
use Rattle.message_reading.specs.declared.error.ReadError.{ReadError}
use Rattle.message_reading.specs.declared.query.Query.{Query as ReadQuery}
use Rattle.message_reading.specs.Queries.{query_of}
use Rattle.zone_server.specs.declared.frames.Mode.{Mode}
use Rattle.zone_server.specs.declared.waiting.Stop.{Stop}
use Rattle.zone_server.specs.Answers.{IsAnswer}
use Rattle.zone_server.specs.Frames.{Framed, frame_of, framed}
use Rattle.zone_server.specs.Serving.{IsOneAnswer, Served, ServesOn, TakesFrames}
use Rattle.zone_server.specs.Stopping.{BeginsAnswer, BeginsQuery, BeginsRead, BeginsReply, BreaksOff, IsBegun, IsOneAnswerTo, Stops, StopsWithin, MovesFront}
use Rattle.zone_server.specs.Transfers.{asks_for_transfer, reply_to}
use Rattle.zone_server.proofs.FrameLaws.{frames_join}
use Rattle.zone_server.proofs.ServedFrames.{all_moved, answers_join, none_taken_yet}
use Rattle.zone_server.proofs.WrittenFronts.{front_after, front_then, moved_front, none_front, on_err_from, text_stops}

-- ---- the answer to a frame

stops_so : (Is Js : List ℕ → Type 0) (a : List ℕ) (u v : Option (List ℕ)) → ((t : List ℕ) → Is t → Js t) → Stops Is a u v → Stops Js a u v
stops_so Is Js a u v f s = record { text = s.text; is = by s.is; front = s.front }
  where
    by : (s.text ≡ []) ⊎ Is s.text → (s.text ≡ []) ⊎ Js s.text
    by (inl e) = inl e
    by (inr h) = inr (f s.text h)

stops_if : (r : Result (Unit {0}) Stop) (Is Js : List ℕ → Type 0) (a : List ℕ) (u v : Option (List ℕ)) → ((t : List ℕ) → Is t → Js t) → OnErr r (Stops Is a u v)
    → OnErr r (Stops Js a u v)
stops_if r Is Js a u v f s = on_err_from r (Stops Is a u v) (Stops Js a u v) (stops_so Is Js a u v f) s

module _ (server : Served) where
  -- an answer that couldn't be put there, or written
  pub answer_unput : (r : Result (Unit {0}) Stop) (f : Framed) (read : Result ReadQuery ReadError) (octets a : List ℕ) (u v : Option (List ℕ))
      → IsAnswer server.zones f.transport f.message octets → query_of f.message ≡ read → OnErr r (MovesFront (a ++ framed octets) u v)
      → OnErr r (Stops (IsOneAnswerTo server f read) a u v)
  answer_unput r f read octets a u v answer is front =
      on_err_from r (MovesFront (a ++ framed octets) u v) (Stops (IsOneAnswerTo server f read) a u v)
      (λ h. text_stops (IsOneAnswerTo server f read) (framed octets) a u v (is, record { octets = octets; answer = answer; text_is = refl }) h) front

  -- a message that is read as no query has one answer
  pub once_stops : (r : Result (Unit {0}) Stop) (f : Framed) (e : ReadError) (a : List ℕ) (u v : Option (List ℕ)) → OnErr r (Stops (IsOneAnswerTo server f (Err e)) a u v)
      → OnErr r (Stops (BeginsAnswer server f) a u v)
  once_stops r f e a u v s =
      stops_if r (IsOneAnswerTo server f (Err e)) (BeginsAnswer server f) a u v
      (λ t h. subst (λ (x : Result ReadQuery ReadError). BeginsRead server f x t) (sym h.0) h.1) s

  pub query_stops : (r : Result (Unit {0}) Stop) (f : Framed) (q : ReadQuery) (a : List ℕ) (u v : Option (List ℕ)) → query_of f.message ≡ Ok q
      → OnErr r (Stops (BeginsQuery server f q) a u v) → OnErr r (Stops (BeginsAnswer server f) a u v)
  query_stops r f q a u v is s =
      stops_if r (BeginsQuery server f q) (BeginsAnswer server f) a u v (λ t h. subst (λ (x : Result ReadQuery ReadError). BeginsRead server f x t) (sym is) h) s

  pub transfer_stops : (r : Result (Unit {0}) Stop) (f : Framed) (q : ReadQuery) (a : List ℕ) (u v : Option (List ℕ)) → asks_for_transfer f.transport q ≡ true
      → OnErr r (Stops (BeginsReply f.transport q (reply_to server.zones server.policies f.transport f.message q)) a u v) → OnErr r (Stops (BeginsQuery server f q) a u v)
  transfer_stops r f q a u v asks s =
      let Is : List ℕ → Type 0 = BeginsReply f.transport q (reply_to server.zones server.policies f.transport f.message q) in
      stops_if r Is (BeginsQuery server f q) a u v (λ t h. subst (λ (b : Bool). MatchBool b (Is t) (IsOneAnswer server f t)) (sym asks) h) s

  pub one_stops : (r : Result (Unit {0}) Stop) (f : Framed) (q : ReadQuery) (a : List ℕ) (u v : Option (List ℕ)) → asks_for_transfer f.transport q ≡ false
      → OnErr r (Stops (IsOneAnswerTo server f (Ok q)) a u v) → OnErr r (Stops (BeginsQuery server f q) a u v)
  one_stops r f q a u v asks s =
      let Other : List ℕ → Type 0 = BeginsReply f.transport q (reply_to server.zones server.policies f.transport f.message q) in
      stops_if r (IsOneAnswerTo server f (Ok q)) (BeginsQuery server f q) a u v
      (λ t h. subst (λ (b : Bool). MatchBool b (Other t) (IsOneAnswer server f t)) (sym asks) h.1) s

  -- ---- the frames of octets

  -- within the answer to one of them
  pub frame_stops : (mode : Mode) (octets rest waited waiting : List ℕ) (h k l : Option (List ℕ)) (f : Framed) (behind : List ℕ)
      → TakesFrames server mode octets rest waited waiting h k → frame_of mode rest ≡ Some (f, behind) → Stops (BeginsAnswer server f) waiting k l
      → StopsWithin server mode octets waited h l
  frame_stops mode octets rest waited waiting h k l f behind t e s = record {
    frames = t.frames;
    behind = rest;
    stand = t.stand;
    answers = t.text;
    answered = t.answered;
    begun = s.text;
    next = by s.is;
    front = subst (λ (w : List ℕ). MovesFront w h l) (append_assoc waited t.text s.text) (front_after (waited ++ t.text) waiting s.text h k l t.moved s.front);
  }
    where
      by : (s.text ≡ []) ⊎ BeginsAnswer server f s.text → IsBegun server mode rest s.text
      by (inl none) = inl none
      by (inr is) = inr (f, behind, e, is)

  -- behind them
  pub taken_stops : (mode : Mode) (octets left waited waiting : List ℕ) (h k l : Option (List ℕ)) → TakesFrames server mode octets left waited waiting h k
      → MovesFront waiting k l → StopsWithin server mode octets waited h l
  taken_stops mode octets left waited waiting h k l t f = record {
    frames = t.frames;
    behind = left;
    stand = t.stand;
    answers = t.text;
    answered = t.answered;
    begun = [];
    next = inl refl;
    front = subst (λ (x : List ℕ). MovesFront (waited ++ x) h l) (sym (append-nil t.text)) (front_then (waited ++ t.text) waiting h k l t.moved f);
  }

  pub waiting_stops : (mode : Mode) (octets slice waited : List ℕ) (h l : Option (List ℕ)) → slice ≡ octets → waited ≡ [] → StopsWithin server mode slice waited h l
      → StopsWithin server mode octets [] h l
  waiting_stops mode octets slice waited h l same none s =
      let P : List ℕ → Type 0 = λ o. StopsWithin server mode o [] h l in
      let Q : List ℕ → Type 0 = λ w. StopsWithin server mode slice w h l in
      subst P same (subst Q none s)

  pub taken_waiting_stops : (mode : Mode) (octets slice left waited waiting : List ℕ) (h k l : Option (List ℕ)) → slice ≡ octets → waited ≡ []
      → TakesFrames server mode slice left waited waiting h k → MovesFront waiting k l → StopsWithin server mode octets [] h l
  taken_waiting_stops mode octets slice left waited waiting h k l same none t f =
      waiting_stops mode octets slice waited h l same none (taken_stops mode slice left waited waiting h k l t f)

  -- ---- the frames of an input

  pub nothing_breaks : (mode : Mode) (r h : Option (List ℕ)) → BreaksOff server mode r r h h
  nothing_breaks mode r h = record {
    octets = [];
    consumed = Consumes-nil r;
    stopped = taken_stops mode [] [] [] [] h h h (none_taken_yet server mode [] [] h) (none_front [] h);
  }

  -- a read that failed
  pub read_breaks : (mode : Mode) (waiting : List ℕ) (r s t h k : Option (List ℕ)) → ServesOn server mode [] waiting r s h k → Keeps s t → BreaksOff server mode r t h k
  read_breaks mode waiting r s t h k a kept = record {
    octets = a.octets;
    consumed = Consumes-kept r s t a.octets a.consumed kept;
    stopped = record {
      frames = a.frames;
      behind = waiting;
      stand = a.stand;
      answers = a.text;
      answered = a.answered;
      begun = [];
      next = inl refl;
      front = subst (λ (x : List ℕ). MovesFront x h k) (sym (append-nil a.text)) (moved_front a.text [] h k (all_moved a.text h k [] refl a.appended));
    };
  }

  -- octets that were read, whose frames are answered to some place
  pub then_breaks : (mode : Mode) (waiting : List ℕ) (r s h k : Option (List ℕ)) (read : List ℕ) (t l : Option (List ℕ)) → ServesOn server mode [] waiting r s h k
      → Consumes s t read → StopsWithin server mode (waiting ++ read) [] k l → BreaksOff server mode r t h l
  then_breaks mode waiting r s h k read t l a consumed b = record {
    octets = a.octets ++ read;
    consumed = Consumes-trans r s t a.octets read a.consumed consumed;
    stopped = record {
      frames = a.frames ++ b.frames;
      behind = b.behind;
      stand = frames_join mode a.octets a.frames waiting read b.frames b.behind a.stand b.stand;
      answers = a.text ++ b.answers;
      answered = answers_join server a.frames b.frames a.text b.answers a.answered b.answered;
      begun = b.begun;
      next = b.next;
      front = subst (λ (x : List ℕ). MovesFront x h l) (sym (append_assoc a.text b.answers b.begun))
          (front_after a.text [] (b.answers ++ b.begun) h k l (all_moved a.text h k [] refl a.appended) b.front);
    };
  }

  -- none of their frames
  pub read_then_breaks : (mode : Mode) (waiting : List ℕ) (r s h k : Option (List ℕ)) (read : List ℕ) (t : Option (List ℕ)) → ServesOn server mode [] waiting r s h k
      → Consumes s t read → BreaksOff server mode r t h k
  read_then_breaks mode waiting r s h k read t a consumed =
      let octets : List ℕ = waiting ++ read in
      then_breaks mode waiting r s h k read t k a consumed (taken_stops mode octets octets [] [] k k k (none_taken_yet server mode octets [] k) (none_front [] k))
