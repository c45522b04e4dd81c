-- The frames of journals, whole, cut off, or with something behind them
use Rattle.std.proofs.Common.{◌≡◌, ℕ, zero, suc, ◌+◌, ◌<◌, ◌≤◌, List, [], ◌∷◌, ◌++◌, length, take, drop, refl, sym, ap, ◌∙◌, arith, length-append, append_assoc, get_or, ◌⊎◌, inl, inr}
use Rattle.std.specs.Prelude.{Option, Some, None, fold}
use Rattle.std.proofs.lemmas.List.{take-append-le, take-append-drop, length-take-le, take_at, drop_at, append-nil}
use Rattle.std.proofs.Math.Seq.{take-append-add}
use Rattle.journal_frames.specs.Frames.{checksum, frame_at, framed, number_octets}
use Rattle.journal_frames.specs.Journals.{CutsAreFronts, FramesAreMessages, FramesStand, ReplaysWereThere, TornFramesEnd, frames_from, frames_in, journal_of, whole, with_next}
use Rattle.journal_frames.proofs.OneFrame.{behind_shorter, frame_is, length-framed, short_frame, torn_frame, whole_frame}

-- ---- all frames, in enough steps

frames_none : (n : ℕ) (octets : List ℕ) → frame_at octets ≡ None → frames_from n octets ≡ []
unfolding frames_from
frames_none zero octets h = refl
frames_none (suc n) octets h = ap (with_next (frames_from n)) h

frames_more : (n : ℕ) (octets m behind : List ℕ) → frame_at octets ≡ Some (m, behind) → frames_from (suc n) octets ≡ m ∷ frames_from n behind
unfolding frames_from
frames_more n octets m behind h = ap (with_next (frames_from n)) h

-- more steps than are needed find no more
steps_agree : (n k : ℕ) (octets : List ℕ) → length octets ≤ n → length octets ≤ k → frames_from n octets ≡ frames_from k octets
unfolding frames_from
steps_agree zero k [] h g = sym (frames_none k [] refl)
steps_agree zero k (x ∷ octets) h g = absurd (omega arith)
steps_agree (suc n) zero [] h g = refl
steps_agree (suc n) zero (x ∷ octets) h g = absurd (omega arith)
steps_agree (suc n) (suc k) octets h g = by (frame_at octets) refl (λ o a b. steps_agree n k o a b)
  where
    by : (f : Option (List ℕ × List ℕ)) → frame_at octets ≡ f → ((o : List ℕ) → length o ≤ n → length o ≤ k → frames_from n o ≡ frames_from k o) → with_next (frames_from n) f ≡ with_next (frames_from k) f
    by None e ih = refl
    by (Some f) e ih = let less = behind_shorter octets f.0 f.1 e in ap (λ fs. f.0 ∷ fs) (ih f.1 (omega (arith, less, h)) (omega (arith, less, g)))

-- the frames of octets in front of which one stands
pub frames_step : (octets m behind : List ℕ) → frame_at octets ≡ Some (m, behind) → frames_in octets ≡ m ∷ frames_in behind
frames_step octets m behind h = by (length octets) refl
  where
    by : (n : ℕ) → length octets ≡ n → frames_from (length octets) octets ≡ m ∷ frames_in behind
    by zero e = absurd (let less = behind_shorter octets m behind h in omega (arith, e, less))
    by (suc n) e =
        let less = behind_shorter octets m behind h in
        ap (λ i. frames_from i octets) e ∙ frames_more n octets m behind h
        ∙ ap (λ fs. m ∷ fs) (steps_agree n (length behind) behind (omega (arith, e, less)) (omega arith))

-- ---- whole journals, and what stands behind them

pub frames_stand : FramesStand
frames_stand [] h behind = refl
frames_stand (m ∷ ms) h behind =
    ap frames_in (append_assoc (framed m) (journal_of ms) behind)
    ∙ frames_step (framed m ++ (journal_of ms ++ behind)) m (journal_of ms ++ behind) (whole_frame m (journal_of ms ++ behind) h.0)
    ∙ ap (λ fs. m ∷ fs) (frames_stand ms h.1 behind)

frames_nothing : frames_in [] ≡ []
frames_nothing = frames_none 0 [] refl

pub frames_are_messages : FramesAreMessages
frames_are_messages ms h =
    ap frames_in (sym (append-nil (journal_of ms)))
    ∙ frames_stand ms h []
    ∙ ap (λ fs. ms ++ fs) frames_nothing
    ∙ append-nil ms

pub torn_frames_end : TornFramesEnd
torn_frames_end ms h m torn u differ =
    let last = number_octets (length m) ++ (checksum m ++ torn) in
    frames_stand ms h last
    ∙ ap (λ fs. ms ++ fs) (frames_none (length last) last (torn_frame m torn u differ))
    ∙ append-nil ms

-- ---- cuts

-- a cut is inside the frame in front, or behind it
inside_or_behind : (a k : ℕ) → (k < a) ⊎ ((d : ℕ) × (k ≡ a + d))
inside_or_behind zero k = inr (k, omega arith)
inside_or_behind (suc a) zero = inl (omega arith)
inside_or_behind (suc a) (suc k) = elim (inside_or_behind a k) [
  | inl h ↦ inl (omega arith)
  | inr e ↦ inr (e.0, (let q : k ≡ a + e.0 = e.1 in omega (arith, q)))
]

abbrev nothing : List ℕ
nothing = []

take_nothing : (k : ℕ) → take k nothing ≡ nothing
take_nothing zero = refl
take_nothing (suc k) = refl

pub cuts_are_fronts : CutsAreFronts
cuts_are_fronts [] h k = (0, omega arith, ap frames_in (take_nothing k) ∙ frames_nothing)
cuts_are_fronts (m ∷ ms) h k = elim (inside_or_behind (length (framed m)) k) [
  | inl less ↦
      let front : take k (framed m ++ journal_of ms) ≡ take k (framed m) = take-append-le k (framed m) (journal_of ms) (omega arith) in
      (0, omega arith, ap frames_in front ∙ frames_none _ (take k (framed m)) (short_frame m k h.0 less))
  | inr more ↦
      let d : ℕ = more.0 in
      let others = cuts_are_fronts ms h.1 d in
      let cut : take k (framed m ++ journal_of ms) ≡ framed m ++ take d (journal_of ms) = ap (λ i. take i (framed m ++ journal_of ms)) more.1 ∙ take-append-add (framed m) (journal_of ms) d in (
        suc others.0,
        (let q : others.0 ≤ length ms = others.1 in omega (arith, q)),
        ap frames_in cut
            ∙ frames_step (framed m ++ take d (journal_of ms)) m (take d (journal_of ms)) (whole_frame m (take d (journal_of ms)) h.0)
            ∙ ap (λ fs. m ∷ fs) others.2,
      )
]

pub replays_were_there : (Z : Type 0) → ReplaysWereThere Z
replays_were_there Z step z ms h k =
    let front = cuts_are_fronts ms h k in
    (front.0, front.1, ap (fold step z) front.2)

-- ---- the frames in front of octets

pub whole_none : (octets : List ℕ) → frame_at octets ≡ None → whole octets ≡ []
whole_none octets h = ap journal_of (frames_none (length octets) octets h)

pub whole_step : (octets m behind : List ℕ) → ((i : ℕ) → get_or octets i 0 < 256) → frame_at octets ≡ Some (m, behind) → (octets ≡ framed m ++ behind) × (whole octets ≡ framed m ++ whole behind)
whole_step octets m behind b h = (frame_is octets m behind b h, ap journal_of (frames_step octets m behind h))

-- from one frame on to the next
pub next_place : (octets rest m behind : List ℕ) (at : ℕ) → rest ≡ drop at octets → at ≤ length octets → take at octets ++ whole rest ≡ whole octets
    → rest ≡ framed m ++ behind → whole rest ≡ framed m ++ whole behind
    → (behind ≡ drop (at + 36 + length m) octets) × (at + 36 + length m ≤ length octets) × (take (at + 36 + length m) octets ++ whole behind ≡ whole octets)
next_place octets rest m behind at r i w is all =
    let p = take at octets in
    let long : length p ≡ at = length-take-le at octets i in
    let split : octets ≡ (p ++ framed m) ++ behind = sym (take-append-drop at octets) ∙ ap (λ x. p ++ x) (sym r ∙ is) ∙ sym (append_assoc p (framed m) behind) in
    let place : length (p ++ framed m) ≡ at + 36 + length m = length-append p (framed m) ∙ (let e = length-framed m in omega (arith, long, e)) in
    let whole_long : length octets ≡ length (p ++ framed m) + length behind = ap length split ∙ length-append (p ++ framed m) behind in (
      sym (ap (drop (at + 36 + length m)) split ∙ drop_at (p ++ framed m) behind (at + 36 + length m) place),
      omega (arith, place, whole_long),
      ap (λ x. x ++ whole behind) (ap (take (at + 36 + length m)) split ∙ take_at (p ++ framed m) behind (at + 36 + length m) place)
          ∙ append_assoc p (framed m) (whole behind) ∙ ap (λ x. p ++ x) (sym all) ∙ w,
    )
