-- Frames that are answered one after the other
use Rattle.std.proofs.Common.{◌≡◌, ℕ, List, [], ◌∷◌, ◌++◌, refl, sym, ap, subst, ◌∙◌, append_assoc, append-nil}
use Rattle.std.specs.Prelude.{Option, Some, None}
use Rattle.std.specs.Io.KnownBytes.{Appends, Consumes, IsAtEnd}
use Rattle.std.proofs.KnownBytes.{Appends-nil, Appends-trans, Consumes-nil, Consumes-trans}
use Rattle.zone_server.specs.declared.frames.Mode.{Mode}
use Rattle.zone_server.specs.declared.frames.Mode.TheVariants.{Limits, Stream}
use Rattle.zone_server.specs.Frames.{Framed, FramesThen, frame_of}
use Rattle.zone_server.proofs.FrameLaws.{frames_join, frames_then}
use Rattle.served_frames.specs.Serving.{AnswerFrames, Answers, Serves, ServesOn, TakesFrames, Writes}

no_frame : (mode : Mode) → frame_of mode [] ≡ None
no_frame Stream = refl
no_frame Limits = refl

module _ {S : Type 0} (answers : Answers S) where
  pub answers_join : (fs gs : List Framed) (text more : List ℕ) (s t u : S) → AnswerFrames answers s fs text t → AnswerFrames answers t gs more u
      → AnswerFrames answers s (fs ++ gs) (text ++ more) u
  answers_join [] gs text more s t u (e, same) h =
      subst (λ (x : List ℕ). AnswerFrames answers s gs (x ++ more) u) (sym e) (subst (λ (x : S). AnswerFrames answers x gs more u) same h)
  answers_join (f ∷ fs) gs text more s t u (first, others, mid, is, e, h) g =
      (first, others ++ more, mid, is, ap (λ x. x ++ more) e ∙ append_assoc first others more, answers_join fs gs others more mid t u h g)

  -- ---- the frames of octets

  pub none_taken_yet : (s : S) (mode : Mode) (octets : List ℕ) (u : Option (List ℕ)) → TakesFrames answers s mode octets octets u u s
  none_taken_yet s mode octets u = record { frames = []; text = []; stand = refl; answered = (refl, refl); appended = Appends-nil u }

  pub frame_taken : (s t new : S) (mode : Mode) (octets rest : List ℕ) (u v w : Option (List ℕ)) (f : Framed) (behind : List ℕ) → TakesFrames answers s mode octets rest u v t
      → frame_of mode rest ≡ Some (f, behind) → Writes (λ text. answers t f text new) v w → TakesFrames answers s mode octets behind u w new
  frame_taken s t new mode octets rest u v w f behind h e (text, is, a) = record {
    frames = h.frames ++ f ∷ [];
    text = h.text ++ text;
    stand = frames_then mode octets h.frames rest f behind h.stand e;
    answered = answers_join h.frames (f ∷ []) h.text text s t new h.answered (text, [], new, is, sym (append-nil text), (refl, refl));
    appended = Appends-trans u v w h.text text h.appended a;
  }

  -- what was read, and what is kept of it
  pub waiting_served : (s t : S) (mode : Mode) (octets slice left kept : List ℕ) (u v : Option (List ℕ)) → slice ≡ octets → kept ≡ left → TakesFrames answers s mode slice left u v t
      → TakesFrames answers s mode octets kept u v t
  waiting_served s t mode octets slice left kept u v same whole h =
      subst (λ (k : List ℕ). TakesFrames answers s mode octets k u v t) (sym whole) (subst (λ (o : List ℕ). TakesFrames answers s mode o left u v t) same h)

  -- ---- the frames of an input

  pub none_served : (s : S) (mode : Mode) (r h : Option (List ℕ)) (waiting : List ℕ) → waiting ≡ [] → ServesOn answers s mode [] waiting r r h h s
  none_served s mode r h waiting e = record {
    octets = [];
    frames = [];
    text = [];
    consumed = Consumes-nil r;
    stand = e;
    no_more = ap (frame_of mode) e ∙ no_frame mode;
    answered = (refl, refl);
    appended = Appends-nil h;
  }

  pub served_on : (x y z : S) (mode : Mode) (waiting : List ℕ) (r s h k : Option (List ℕ)) (read : List ℕ) (t l : Option (List ℕ)) (left : List ℕ)
      → ServesOn answers x mode [] waiting r s h k y → Consumes s t read → TakesFrames answers y mode (waiting ++ read) left k l z → frame_of mode left ≡ None
      → ServesOn answers x mode [] left r t h l z
  served_on x y z mode waiting r s h k read t l left a consumed b none = record {
    octets = a.octets ++ read;
    frames = a.frames ++ b.frames;
    text = a.text ++ b.text;
    consumed = Consumes-trans r s t a.octets read a.consumed consumed;
    stand = frames_join mode a.octets a.frames waiting read b.frames left a.stand b.stand;
    no_more = none;
    answered = answers_join a.frames b.frames a.text b.text x y z a.answered b.answered;
    appended = Appends-trans h k l a.text b.text a.appended b.appended;
  }

  -- nothing more was read
  pub all_served : (x y : S) (mode : Mode) (waiting : List ℕ) (r s t h k : Option (List ℕ)) → ServesOn answers x mode [] waiting r s h k y → Consumes s t [] → IsAtEnd t
      → Serves answers x mode r t h k y
  all_served x y mode waiting r s t h k a consumed at_end = record {
    left = waiting;
    served = record {
      octets = a.octets;
      frames = a.frames;
      text = a.text;
      consumed = subst (Consumes r t) (append-nil a.octets) (Consumes-trans r s t a.octets [] a.consumed consumed);
      stand = a.stand;
      no_more = a.no_more;
      answered = a.answered;
      appended = a.appended;
    };
    at_end = at_end;
  }
