-- A loop over the octets of a text: the words so far, and those of what is left, are the words of the text
use Rattle.std.proofs.Common.{◌≡◌, ℕ, ◌+◌, ◌<◌, List, ◌∷◌, ◌++◌, not, length, get_or, drop, sym, ◌∙◌, ap, append_assoc, add-one, drop-cons}
use Rattle.std.proofs.lemmas.List.Elements.{filter-append}
use Rattle.key_files.specs.declared.words.Mode.{Mode}
use Rattle.key_files.specs.Words.{begun, is_heading, mode_behind, telling, word_at, words_from}

pub split_at : (text : List ℕ) (at : ℕ) → at < length text → drop at text ≡ get_or text at 0 ∷ drop (at + 1) text
split_at text at less = rw add-one (drop-cons text at 0 less)

pub one_further : (text words : List ℕ) (mode : Mode) (at : ℕ) → at < length text
    → (words ++ telling text (begun mode at (get_or text at 0))) ++ telling text (words_from (mode_behind mode (get_or text at 0)) (at + 1) (drop (at + 1) text))
    ≡ words ++ telling text (words_from mode at (drop at text))
one_further text words mode at less =
    let b : ℕ = get_or text at 0 in
    let rest : List ℕ = words_from (mode_behind mode b) (at + 1) (drop (at + 1) text) in
    append_assoc words (telling text (begun mode at b)) (telling text rest)
    ∙ ap (λ (x : List ℕ). words ++ x) (sym (filter-append (λ (a : ℕ). not (is_heading (word_at a text))) (begun mode at b) rest))
    ∙ ap (λ (s : List ℕ). words ++ telling text (words_from mode at s)) (sym (split_at text at less))
