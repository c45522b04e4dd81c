-- Words with a space before each are words with single spaces between them, behind one.
use Rattle.std.proofs.Common.{◌≡◌, ℕ, List, [], ◌∷◌, ◌++◌, Option, Some, None, refl, ap, sym, ◌∙◌, append-nil, append_assoc}
use Rattle.std.specs.Prelude.{option_map}
use Rattle.record_fields.specs.declared.table.Row.{Row}
use Rattle.zone_file_writer.specs.Others.{octets_words}
use Rattle.zone_file_writer.specs.Rows.{behind_spaces, row_words, some_words, words_by_row, words_or_octets}
use Rattle.zone_file_writer.specs.Words.{PrintedWord, word_text, words_text}

spaced_words : (w : PrintedWord) (ws : List PrintedWord) → behind_spaces (w ∷ ws) ≡ 32 ∷ words_text (w ∷ ws)
spaced_words w [] = ap (λ (t : List ℕ). 32 ∷ t) (append-nil (word_text w))
spaced_words w (v ∷ ws) = ap (λ (t : List ℕ). 32 ∷ (word_text w ++ t)) (spaced_words v ws)

pub behind-append : (us ws : List PrintedWord) → behind_spaces (us ++ ws) ≡ behind_spaces us ++ behind_spaces ws
behind-append [] ws = refl
behind-append (u ∷ us) ws =
    ap (λ (t : List ℕ). (32 ∷ word_text u) ++ t) (behind-append us ws) ∙ sym (append_assoc (32 ∷ word_text u) (behind_spaces us) (behind_spaces ws))

-- ---- data by a row

one_text : (t u : List ℕ) → Some t ≡ Some u → t ≡ u
one_text t u h = cc

pub text_by_row : (text os : List ℕ) (o : Option Row) → Some text ≡ option_map behind_spaces (words_by_row o os) → text ≡ 32 ∷ words_text (words_or_octets os (words_by_row o os))
text_by_row text os None e = absurd (cc)
text_by_row text os (Some r) e = by (row_words r os) e
  where
    by : (o : Option (List PrintedWord)) → Some text ≡ option_map behind_spaces (some_words o) → text ≡ 32 ∷ words_text (words_or_octets os (some_words o))
    by None g = absurd (cc)
    by (Some []) g = absurd (cc)
    by (Some (w ∷ ws)) g = one_text text (behind_spaces (w ∷ ws)) g ∙ spaced_words w ws

pub octets_by_row : (os : List ℕ) (o : Option Row) → None ≡ option_map behind_spaces (words_by_row o os) → octets_words os ≡ words_or_octets os (words_by_row o os)
octets_by_row os None e = refl
octets_by_row os (Some r) e = by (row_words r os) e
  where
    by : (o : Option (List PrintedWord)) → None ≡ option_map behind_spaces (some_words o) → octets_words os ≡ words_or_octets os (some_words o)
    by None g = refl
    by (Some []) g = refl
    by (Some (w ∷ ws)) g = absurd (cc)
