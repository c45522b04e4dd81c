-- Frames that are answered one after the other
use Rattle.std.proofs.Common.{◌≡◌, ℕ, List, [], ◌∷◌, ◌++◌, refl, sym, ap, subst, ◌∙◌, append_assoc, append-nil}
use Rattle.std.specs.Prelude.{Option, Some, None}
use Rattle.std.specs.Io.KnownBytes.{Appends, Consumes, IsAtEnd}
use Rattle.std.proofs.KnownBytes.{Appends-nil, Appends-trans, Consumes-nil, Consumes-trans}
use Rattle.zone_server.specs.declared.frames.Mode.{Mode}
use Rattle.zone_server.specs.declared.frames.Mode.TheVariants.{Limits, Stream}
use Rattle.zone_server.specs.Frames.{Framed, FramesThen, frame_of}
use Rattle.zone_server.proofs.FrameLaws.{frames_join, frames_then}
use Rattle.zone_database.specs.declared.zone.Zone.{Zone}
use Rattle.held_transfers.specs.declared.access.TransferAccess.{TransferAccess}
use Rattle.keyed_frames.specs.Serving.{AnswerFrames, AnswersByKeys, Serves, ServesOn, TakesFrames, Writes}

no_frame : (mode : Mode) → frame_of mode [] ≡ None
no_frame Stream = refl
no_frame Limits = refl

module _ (access : TransferAccess) (zs : List Zone) where
  pub answers_join : (fs gs : List Framed) (text more : List ℕ) → AnswerFrames access zs fs text → AnswerFrames access zs gs more → AnswerFrames access zs (fs ++ gs) (text ++ more)
  answers_join [] gs text more e h = subst (λ (t : List ℕ). AnswerFrames access zs gs (t ++ more)) (sym e) h
  answers_join (f ∷ fs) gs text more (first, others, is, e, h) g =
      (first, others ++ more, is, ap (λ t. t ++ more) e ∙ append_assoc first others more, answers_join fs gs others more h g)

  -- ---- the frames of octets

  pub none_taken_yet : (mode : Mode) (octets : List ℕ) (u : Option (List ℕ)) → TakesFrames access zs mode octets octets u u
  none_taken_yet mode octets u = record { frames = []; text = []; stand = refl; answered = refl; appended = Appends-nil u }

  pub frame_taken : (mode : Mode) (octets rest : List ℕ) (u v w : Option (List ℕ)) (f : Framed) (behind : List ℕ) → TakesFrames access zs mode octets rest u v
      → frame_of mode rest ≡ Some (f, behind) → Writes (AnswersByKeys access zs f) v w → TakesFrames access zs mode octets behind u w
  frame_taken mode octets rest u v w f behind t e (text, is, a) = record {
    frames = t.frames ++ f ∷ [];
    text = t.text ++ text;
    stand = frames_then mode octets t.frames rest f behind t.stand e;
    answered = answers_join t.frames (f ∷ []) t.text text t.answered (text, [], is, sym (append-nil text), refl);
    appended = Appends-trans u v w t.text text t.appended a;
  }

  -- what was read, and what is kept of it
  pub waiting_served : (mode : Mode) (octets slice left kept : List ℕ) (u v : Option (List ℕ)) → slice ≡ octets → kept ≡ left → TakesFrames access zs mode slice left u v
      → TakesFrames access zs mode octets kept u v
  waiting_served mode octets slice left kept u v same whole t =
      subst (λ (k : List ℕ). TakesFrames access zs mode octets k u v) (sym whole) (subst (λ (o : List ℕ). TakesFrames access zs mode o left u v) same t)

  -- ---- the frames of an input

  pub none_served : (mode : Mode) (r h : Option (List ℕ)) (waiting : List ℕ) → waiting ≡ [] → ServesOn access zs mode [] waiting r r h h
  none_served mode r h waiting e = record {
    octets = [];
    frames = [];
    text = [];
    consumed = Consumes-nil r;
    stand = e;
    no_more = ap (frame_of mode) e ∙ no_frame mode;
    answered = refl;
    appended = Appends-nil h;
  }

  pub served_on : (mode : Mode) (waiting : List ℕ) (r s h k : Option (List ℕ)) (read : List ℕ) (t l : Option (List ℕ)) (left : List ℕ)
      → ServesOn access zs mode [] waiting r s h k → Consumes s t read → TakesFrames access zs mode (waiting ++ read) left k l → frame_of mode left ≡ None
      → ServesOn access zs mode [] left r t h l
  served_on mode waiting r s h k read t l left a consumed b none = record {
    octets = a.octets ++ read;
    frames = a.frames ++ b.frames;
    text = a.text ++ b.text;
    consumed = Consumes-trans r s t a.octets read a.consumed consumed;
    stand = frames_join mode a.octets a.frames waiting read b.frames left a.stand b.stand;
    no_more = none;
    answered = answers_join a.frames b.frames a.text b.text a.answered b.answered;
    appended = Appends-trans h k l a.text b.text a.appended b.appended;
  }

  -- nothing more was read
  pub all_served : (mode : Mode) (waiting : List ℕ) (r s t h k : Option (List ℕ)) → ServesOn access zs mode [] waiting r s h k → Consumes s t [] → IsAtEnd t → Serves access zs mode r t h k
  all_served mode waiting r s t h k a consumed at_end = record {
    left = waiting;
    served = record {
      octets = a.octets;
      frames = a.frames;
      text = a.text;
      consumed = subst (Consumes r t) (append-nil a.octets) (Consumes-trans r s t a.octets [] a.consumed consumed);
      stand = a.stand;
      no_more = a.no_more;
      answered = a.answered;
      appended = a.appended;
    };
    at_end = at_end;
  }
