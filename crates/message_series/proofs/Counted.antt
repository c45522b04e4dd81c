-- The answers of so many messages, read one after the other
use Rattle.std.proofs.Common.{◌≡◌, ℕ, suc, List, ◌++◌, refl, sym, ap, ◌∙◌, append_assoc}
use Rattle.std.specs.Prelude.{Option, Some, None}
use Rattle.std.proofs.lemmas.List.{append-nil}
use Rattle.zone_proto.specs.declared.record.Record.{Record}
use Rattle.message_reading.specs.Octets.{◌>>=◌}
use Rattle.message_series.specs.Series.{all_answers_of, answers_of}

abbrev pub with_front : List Record → Option (List Record × List ℕ) → Option (List Record × List ℕ)
with_front front read = read >>= λ x. Some (front ++ x.0, x.1)

pub none_more : (k : ℕ) (octets : List ℕ) (front : List Record) (whole : Option (List Record × List ℕ))
    → None ≡ answers_of octets → with_front front (all_answers_of (suc k) octets) ≡ whole → None ≡ whole
unfolding all_answers_of
none_more k octets front whole e h = rw (sym e) at h

pub some_more : (k : ℕ) (octets next : List ℕ) (front answers : List Record) (whole : Option (List Record × List ℕ))
    → Some (answers, next) ≡ answers_of octets → with_front front (all_answers_of (suc k) octets) ≡ whole
    → with_front (front ++ answers) (all_answers_of k next) ≡ whole
unfolding all_answers_of
some_more k octets next front answers whole e h = sym (regroup (all_answers_of k next)) ∙ (rw (sym e) at h)
  where
    regroup : (r : Option (List Record × List ℕ)) → with_front front (r >>= λ others. Some (answers ++ others.0, others.1)) ≡ with_front (front ++ answers) r
    regroup None = refl
    regroup (Some y) = ap (λ s. Some (s, y.1)) (sym (append_assoc front answers y.0))

pub all_read : (k : ℕ) (octets : List ℕ) (front : List Record) (whole : Option (List Record × List ℕ))
    → k ≡ 0 → with_front front (all_answers_of k octets) ≡ whole → Some (front, octets) ≡ whole
unfolding all_answers_of
all_read k octets front whole none h =
    ap (λ s. Some (s, octets)) (sym (append-nil front)) ∙ ap (λ j. with_front front (all_answers_of j octets)) (sym none) ∙ h
