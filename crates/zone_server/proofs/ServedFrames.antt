-- Frames that are answered one after the other, and answers that are written
use Rattle.std.proofs.Common.{◌≡◌, ℕ, ◌≤◌, List, [], ◌∷◌, ◌++◌, length, refl, sym, ap, subst, ◌∙◌, append_assoc, append-nil, arith}
use Rattle.std.specs.Prelude.{Option, Some, None, OnOk, Result, Ok, Err}
use Rattle.std.specs.Io.KnownBytes.{Appends, Consumes, IsAtEnd}
use Rattle.std.proofs.KnownBytes.{Appends-nil, Appends-trans, Consumes-nil, Consumes-trans}
use Rattle.message_reading.specs.declared.error.ReadError.{ReadError}
use Rattle.message_reading.specs.declared.query.Query.{Query as ReadQuery}
use Rattle.message_reading.specs.Queries.{query_of}
use Rattle.zone_server.specs.declared.frames.Mode.{Mode}
use Rattle.zone_server.specs.declared.frames.Mode.TheVariants.{Limits, Stream}
use Rattle.zone_server.specs.declared.waiting.Stop.{Stop}
use Rattle.zone_server.specs.Frames.{Framed, FramesThen, frame_of}
use Rattle.zone_server.specs.Serving.{AnswerFrames, Answers, AnswersRead, IsOneAnswer, Moves, Puts, Served, Serves, ServesOn, TakesFrames}
use Rattle.zone_server.proofs.FrameLaws.{frames_join, frames_then, none_taken}

-- ---- what is written and what waits

pub nothing_moved : (waiting : List ℕ) (h : Option (List ℕ)) → Moves waiting h h waiting
nothing_moved waiting h = record { written = []; parts = refl; appended = Appends-nil h }

-- all that waits is written
pub all_moved : (waited : List ℕ) (h k : Option (List ℕ)) (waiting : List ℕ) → waiting ≡ [] → Appends h k waited → Moves waited h k waiting
all_moved waited h k waiting none a = record {
  written = waited;
  parts = sym (ap (λ xs. waited ++ xs) none ∙ append-nil waited);
  appended = a;
}

pub all_written : (waited : List ℕ) (h k l : Option (List ℕ)) (waiting : List ℕ) → Moves waited h k waiting → Appends k l waiting → Appends h l waited
all_written waited h k l waiting m a =
    subst (Appends h l) (sym m.parts) (Appends-trans h k l m.written waiting m.appended a)

-- one writing after another, where octets came in between
pub moved_on : (a b t c : List ℕ) (u v w : Option (List ℕ)) → Moves a u v b → Moves (b ++ t) v w c → Moves (a ++ t) u w c
moved_on a b t c u v w first second = record {
  written = first.written ++ second.written;
  parts = ap (λ xs. xs ++ t) first.parts ∙ append_assoc first.written b t ∙ ap (λ xs. first.written ++ xs) second.parts ∙ sym (append_assoc first.written second.written c);
  appended = Appends-trans u v w first.written second.written first.appended second.appended;
}

-- where nothing was taken, all octets are left
pub kept_whole : (mode : Mode) (octets slice : List ℕ) (fs : List Framed) (left : List ℕ) → slice ≡ octets → FramesThen mode slice fs left → length octets ≤ length left → octets ≡ left
kept_whole mode octets slice fs left same h long =
    sym same ∙ sym (none_taken mode slice fs left h (omega (arith, ap length same)))

-- ---- answers in their order

module _ (server : Served) where
  pub answers_join : (fs gs : List Framed) (text more : List ℕ) → AnswerFrames server fs text → AnswerFrames server gs more → AnswerFrames server (fs ++ gs) (text ++ more)
  answers_join [] gs text more e h = subst (λ (t : List ℕ). AnswerFrames server gs (t ++ more)) (sym e) h
  answers_join (f ∷ fs) gs text more (first, others, answer, e, h) g =
      (first, others ++ more, answer, ap (λ t. t ++ more) e ∙ append_assoc first others more, answers_join fs gs others more h g)

  -- a message that is read as no query has one answer
  pub once_answers : (r : Result (Unit {0}) Stop) (f : Framed) (e : ReadError) (waited waiting : List ℕ) (h k : Option (List ℕ)) → OnOk r (query_of f.message ≡ Err e)
      → OnOk r (Puts (IsOneAnswer server f) waited waiting h k) → OnOk r (Puts (Answers server f) waited waiting h k)
  once_answers (Ok done) f e waited waiting h k read put =
      record { text = put.text; is = subst (λ (x : Result ReadQuery ReadError). AnswersRead server f x put.text) (sym read) put.is; moved = put.moved }
  once_answers (Err stop) f e waited waiting h k read put = tt

  -- ---- the frames of octets

  pub none_taken_yet : (mode : Mode) (octets waiting : List ℕ) (h : Option (List ℕ)) → TakesFrames server mode octets octets waiting waiting h h
  none_taken_yet mode octets waiting h = record {
    frames = [];
    text = [];
    stand = refl;
    answered = refl;
    moved = subst (λ (w : List ℕ). Moves w h h waiting) (sym (append-nil waiting)) (nothing_moved waiting h);
  }

  pub frame_taken : (mode : Mode) (octets rest waited waiting : List ℕ) (h k : Option (List ℕ)) (f : Framed) (behind waiting_then : List ℕ) (l : Option (List ℕ))
      → TakesFrames server mode octets rest waited waiting h k → frame_of mode rest ≡ Some (f, behind) → Puts (Answers server f) waiting waiting_then k l
      → TakesFrames server mode octets behind waited waiting_then h l
  frame_taken mode octets rest waited waiting h k f behind waiting_then l t e a = record {
    frames = t.frames ++ f ∷ [];
    text = t.text ++ a.text;
    stand = frames_then mode octets t.frames rest f behind t.stand e;
    answered = answers_join t.frames (f ∷ []) t.text a.text t.answered (a.text, [], a.is, sym (append-nil a.text), refl);
    moved = subst (λ (w : List ℕ). Moves w h l waiting_then) (append_assoc waited t.text a.text)
        (moved_on (waited ++ t.text) waiting a.text waiting_then h k l t.moved a.moved);
  }

  -- what waited is written
  taken_and_written : (mode : Mode) (octets left waiting : List ℕ) (h k l : Option (List ℕ)) → TakesFrames server mode octets left [] waiting h k → Appends k l waiting
      → TakesFrames server mode octets left [] [] h l
  taken_and_written mode octets left waiting h k l t a = record {
    frames = t.frames;
    text = t.text;
    stand = t.stand;
    answered = t.answered;
    moved = all_moved t.text h l [] refl (all_written t.text h k l waiting t.moved a);
  }

  pub waiting_served : (mode : Mode) (octets slice left kept waited waiting : List ℕ) (h k l : Option (List ℕ)) → slice ≡ octets → waited ≡ [] → kept ≡ left
      → TakesFrames server mode slice left waited waiting h k → Appends k l waiting → TakesFrames server mode octets kept [] [] h l
  waiting_served mode octets slice left kept waited waiting h k l same none whole t a =
      let P : List ℕ → Type 0 = λ w. TakesFrames server mode slice left w waiting h k in
      let Q : List ℕ → Type 0 = λ o. TakesFrames server mode o left [] [] h l in
      let R : List ℕ → Type 0 = λ e. TakesFrames server mode octets e [] [] h l in
      subst R (sym whole) (subst Q same (taken_and_written mode slice left waiting h k l (subst P none t) a))

  -- ---- the frames of an input

  no_frame : (mode : Mode) → frame_of mode [] ≡ None
  no_frame Stream = refl
  no_frame Limits = refl

  pub none_served : (mode : Mode) (r h : Option (List ℕ)) (waiting : List ℕ) → waiting ≡ [] → ServesOn server mode [] waiting r r h h
  none_served mode r h waiting e = record {
    octets = [];
    frames = [];
    text = [];
    consumed = Consumes-nil r;
    stand = e;
    no_more = ap (frame_of mode) e ∙ no_frame mode;
    answered = refl;
    appended = Appends-nil h;
  }

  pub served_on : (mode : Mode) (waiting : List ℕ) (r s h k : Option (List ℕ)) (read : List ℕ) (t l : Option (List ℕ)) (left : List ℕ)
      → ServesOn server mode [] waiting r s h k → Consumes s t read → TakesFrames server mode (waiting ++ read) left [] [] k l → frame_of mode left ≡ None
      → ServesOn server mode [] left r t h l
  served_on mode waiting r s h k read t l left a consumed b none = record {
    octets = a.octets ++ read;
    frames = a.frames ++ b.frames;
    text = a.text ++ b.text;
    consumed = Consumes-trans r s t a.octets read a.consumed consumed;
    stand = frames_join mode a.octets a.frames waiting read b.frames left a.stand b.stand;
    no_more = none;
    answered = answers_join a.frames b.frames a.text b.text a.answered b.answered;
    appended = Appends-trans h k l a.text b.text a.appended (all_written b.text k l l [] b.moved (Appends-nil l));
  }

  -- nothing more was read
  pub all_served : (mode : Mode) (waiting : List ℕ) (r s t h k : Option (List ℕ)) → ServesOn server mode [] waiting r s h k → Consumes s t [] → IsAtEnd t → Serves server mode r t h k
  all_served mode waiting r s t h k a consumed at_end = record {
    left = waiting;
    served = record {
      octets = a.octets;
      frames = a.frames;
      text = a.text;
      consumed = subst (Consumes r t) (append-nil a.octets) (Consumes-trans r s t a.octets [] a.consumed consumed);
      stand = a.stand;
      no_more = a.no_more;
      answered = a.answered;
      appended = a.appended;
    };
    at_end = at_end;
  }
