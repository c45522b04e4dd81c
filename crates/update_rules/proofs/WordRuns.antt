-- A loop over the octets of a line: the words so far, and those of what is left, are the words of the line
use Rattle.std.proofs.Common.{◌≡◌, ℕ, ◌+◌, ◌<◌, List, ◌∷◌, ◌++◌, length, get_or, drop, sym, ◌∙◌, ap, append_assoc, add-one, drop-cons}
use Rattle.update_rules.specs.declared.words.Mode.{Mode}
use Rattle.update_rules.specs.Words.{begun, mode_along, mode_behind, words_from}

split_at : (line : List ℕ) (at : ℕ) → at < length line → drop at line ≡ get_or line at 0 ∷ drop (at + 1) line
split_at line at less = rw add-one (drop-cons line at 0 less)

pub one_further : (line words : List ℕ) (mode : Mode) (at : ℕ) → at < length line
    → (words ++ begun mode at (get_or line at 0)) ++ words_from (mode_behind mode at (get_or line at 0)) (at + 1) (drop (at + 1) line)
    ≡ words ++ words_from mode at (drop at line)
one_further line words mode at less =
    let b : ℕ = get_or line at 0 in
    append_assoc words (begun mode at b) (words_from (mode_behind mode at b) (at + 1) (drop (at + 1) line))
    ∙ ap (λ (s : List ℕ). words ++ words_from mode at s) (sym (split_at line at less))

pub mode_further : (line : List ℕ) (mode : Mode) (at : ℕ) → at < length line
    → mode_along (mode_behind mode at (get_or line at 0)) (at + 1) (drop (at + 1) line) ≡ mode_along mode at (drop at line)
mode_further line mode at less = ap (λ (s : List ℕ). mode_along mode at s) (sym (split_at line at less))
