-- Entries read from frame to frame
use Rattle.std.proofs.Common.{◌≡◌, ℕ, zero, suc, List, [], ◌∷◌, ◌++◌, length, refl, sym, ap, ◌∙◌, append_assoc}
use Rattle.std.specs.Prelude.{Option, Some, None}
use Rattle.std.proofs.lemmas.List.{append-nil}
use Rattle.journal_frames.specs.Frames.{frame_at}
use Rattle.journal_frames.specs.Journals.{frames_from, frames_in, with_next}
use Rattle.journal_frames.proofs.Cuts.{frames_step}
use Rattle.message_reading.specs.Octets.{◌>>=◌}
use Rattle.shown_zones.specs.Steps.{Step}
use Rattle.zone_journal.specs.Entries.{entry_of}
use Rattle.zone_journal.specs.Replays.{steps_of}

abbrev pub with_front : List Step → Option (List Step) → Option (List Step)
with_front front read = read >>= λ ss. Some (front ++ ss)

pub frames_end : (n : ℕ) (octets : List ℕ) → frame_at octets ≡ None → frames_from n octets ≡ []
unfolding frames_from
frames_end zero octets h = refl
frames_end (suc n) octets h = ap (with_next (frames_from n)) h

-- the frames are over
pub all_stepped_over : (octets : List ℕ) (front : List Step) (whole : Option (List Step)) → None ≡ frame_at octets → with_front front (steps_of (frames_in octets)) ≡ whole
    → Some front ≡ whole
unfolding steps_of
all_stepped_over octets front whole e h =
    ap (λ s. Some s) (sym (append-nil front)) ∙ ap (λ fs. with_front front (steps_of fs)) (sym (frames_end (length octets) octets (sym e))) ∙ h

-- the first frame has no entry
pub no_entry : (octets text behind : List ℕ) (front : List Step) (whole : Option (List Step)) → Some (text, behind) ≡ frame_at octets → None ≡ entry_of text
    → with_front front (steps_of (frames_in octets)) ≡ whole → None ≡ whole
unfolding steps_of
no_entry octets text behind front whole e none h =
    ap (λ o. with_front front (o >>= λ s. steps_of (frames_in behind) >>= λ ss. Some (s ∷ ss))) none
    ∙ ap (λ fs. with_front front (steps_of fs)) (sym (frames_step octets text behind (sym e)))
    ∙ h

-- or it has one
pub one_entry : (octets text behind : List ℕ) (front : List Step) (s : Step) (whole : Option (List Step)) → Some (text, behind) ≡ frame_at octets → Some s ≡ entry_of text
    → with_front front (steps_of (frames_in octets)) ≡ whole → with_front (front ++ s ∷ []) (steps_of (frames_in behind)) ≡ whole
unfolding steps_of
one_entry octets text behind front s whole e is h =
    sym (regroup (steps_of (frames_in behind)))
    ∙ ap (λ o. with_front front (o >>= λ s. steps_of (frames_in behind) >>= λ ss. Some (s ∷ ss))) is
    ∙ ap (λ fs. with_front front (steps_of fs)) (sym (frames_step octets text behind (sym e)))
    ∙ h
  where
    regroup : (r : Option (List Step)) → with_front front (r >>= λ ss. Some (s ∷ ss)) ≡ with_front (front ++ s ∷ []) r
    regroup None = refl
    regroup (Some ss) = ap (λ x. Some x) (sym (append_assoc front (s ∷ []) ss))
