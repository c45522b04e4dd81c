-- Frames whose answers stop before their end: what was written is a front of the answers
use Rattle.std.proofs.Common.{◌≡◌, inl, inr, ℕ, List, [], ◌∷◌, ◌++◌, refl, sym, subst, append_assoc, append-nil}
use Rattle.std.specs.Prelude.{Option, Some}
use Rattle.std.specs.Io.KnownBytes.{Appends, Consumes, Keeps}
use Rattle.std.proofs.KnownBytes.{Consumes-kept, Consumes-nil, Consumes-trans}
use Rattle.zone_server.specs.declared.frames.Mode.{Mode}
use Rattle.zone_server.specs.Frames.{Framed, frame_of}
use Rattle.zone_server.specs.Stopping.{MovesFront}
use Rattle.zone_server.proofs.FrameLaws.{frames_join}
use Rattle.zone_server.proofs.ServedFrames.{all_moved}
use Rattle.zone_server.proofs.WrittenFronts.{front_after, moved_front}
use Rattle.served_frames.specs.Serving.{Answers, ServesOn, TakesFrames}
use Rattle.served_frames.specs.Stopping.{BreaksOff, Stops, StopsWithin}
use Rattle.served_frames.proofs.Served.{answers_join, none_taken_yet}

-- ---- fronts

-- of all that was written
whole_front : (text : List ℕ) (u v : Option (List ℕ)) → Appends u v text → MovesFront text u v
whole_front text u v a = moved_front text [] u v (all_moved text u v [] refl a)

-- behind what was written
front_behind : (text more : List ℕ) (u v w : Option (List ℕ)) → Appends u v text → MovesFront more v w → MovesFront (text ++ more) u w
front_behind text more u v w a f = front_after text [] more u v w (all_moved text u v [] refl a) f

module _ {S : Type 0} (answers begins : Answers S) where
  -- ---- the frames of octets

  -- within the answer to one of them
  pub frame_stops : (s t new : S) (mode : Mode) (octets rest : List ℕ) (u v w : Option (List ℕ)) (f : Framed) (behind : List ℕ) → TakesFrames answers s mode octets rest u v t
      → frame_of mode rest ≡ Some (f, behind) → Stops (λ text. begins t f text new) v w → StopsWithin answers begins s mode octets u w new
  frame_stops s t new mode octets rest u v w f behind h e x = record {
    frames = h.frames;
    behind = rest;
    stand = h.stand;
    answers_are = h.text;
    mid = t;
    answered = h.answered;
    begun = x.text;
    next = inr (f, behind, e, x.is);
    front = front_behind h.text x.text u v w h.appended x.front;
  }

  -- behind them
  pub taken_stops : (s new : S) (mode : Mode) (octets left : List ℕ) (u v : Option (List ℕ)) → TakesFrames answers s mode octets left u v new
      → StopsWithin answers begins s mode octets u v new
  taken_stops s new mode octets left u v t = record {
    frames = t.frames;
    behind = left;
    stand = t.stand;
    answers_are = t.text;
    mid = new;
    answered = t.answered;
    begun = [];
    next = inl (refl, refl);
    front = subst (λ (x : List ℕ). MovesFront x u v) (sym (append-nil t.text)) (whole_front t.text u v t.appended);
  }

  pub slice_stops : (s new : S) (mode : Mode) (octets slice : List ℕ) (u v : Option (List ℕ)) → slice ≡ octets → StopsWithin answers begins s mode slice u v new
      → StopsWithin answers begins s mode octets u v new
  slice_stops s new mode octets slice u v same x = subst (λ (o : List ℕ). StopsWithin answers begins s mode o u v new) same x

  pub taken_slice_stops : (s new : S) (mode : Mode) (octets slice left : List ℕ) (u v : Option (List ℕ)) → slice ≡ octets → TakesFrames answers s mode slice left u v new
      → StopsWithin answers begins s mode octets u v new
  taken_slice_stops s new mode octets slice left u v same t = slice_stops s new mode octets slice u v same (taken_stops s new mode slice left u v t)

  -- ---- the frames of an input

  pub nothing_breaks : (s : S) (mode : Mode) (r h : Option (List ℕ)) → BreaksOff answers begins s mode r r h h s
  nothing_breaks s mode r h = record { octets = []; consumed = Consumes-nil r; stopped = taken_stops s s mode [] [] h h (none_taken_yet answers s mode [] h) }

  -- a read that failed
  pub read_breaks : (x y : S) (mode : Mode) (waiting : List ℕ) (r s t h k : Option (List ℕ)) → ServesOn answers x mode [] waiting r s h k y → Keeps s t
      → BreaksOff answers begins x mode r t h k y
  read_breaks x y mode waiting r s t h k a kept = record {
    octets = a.octets;
    consumed = Consumes-kept r s t a.octets a.consumed kept;
    stopped = record {
      frames = a.frames;
      behind = waiting;
      stand = a.stand;
      answers_are = a.text;
      mid = y;
      answered = a.answered;
      begun = [];
      next = inl (refl, refl);
      front = subst (λ (x : List ℕ). MovesFront x h k) (sym (append-nil a.text)) (whole_front a.text h k a.appended);
    };
  }

  -- octets that were read, whose frames are answered to some place
  pub then_breaks : (x y z : S) (mode : Mode) (waiting : List ℕ) (r s h k : Option (List ℕ)) (read : List ℕ) (t l : Option (List ℕ)) → ServesOn answers x mode [] waiting r s h k y
      → Consumes s t read → StopsWithin answers begins y mode (waiting ++ read) k l z → BreaksOff answers begins x mode r t h l z
  then_breaks x y z mode waiting r s h k read t l a consumed b = record {
    octets = a.octets ++ read;
    consumed = Consumes-trans r s t a.octets read a.consumed consumed;
    stopped = record {
      frames = a.frames ++ b.frames;
      behind = b.behind;
      stand = frames_join mode a.octets a.frames waiting read b.frames b.behind a.stand b.stand;
      answers_are = a.text ++ b.answers_are;
      mid = b.mid;
      answered = answers_join answers a.frames b.frames a.text b.answers_are x y b.mid a.answered b.answered;
      begun = b.begun;
      next = b.next;
      front = subst (λ (x : List ℕ). MovesFront x h l) (sym (append_assoc a.text b.answers_are b.begun)) (front_behind a.text (b.answers_are ++ b.begun) h k l a.appended b.front);
    };
  }

  -- none of their frames
  pub read_then_breaks : (x y : S) (mode : Mode) (waiting : List ℕ) (r s h k : Option (List ℕ)) (read : List ℕ) (t : Option (List ℕ)) → ServesOn answers x mode [] waiting r s h k y
      → Consumes s t read → BreaksOff answers begins x mode r t h k y
  read_then_breaks x y mode waiting r s h k read t a consumed =
      let octets : List ℕ = waiting ++ read in
      then_breaks x y y mode waiting r s h k read t k a consumed (taken_stops y y mode octets octets k k (none_taken_yet answers y mode octets k))
