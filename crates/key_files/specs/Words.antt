-- The words of a file of keys
use Rattle.std.specs.Prelude.{ℕ, ◌+◌, ◌==◌, ◌||◌, not, Bool, false, List, [], ◌∷◌, ◌++◌, length, take, drop, position, unwrap_or, nat_eq, codes, if◌then◌else◌}
use Rattle.std.specs.Cmp.Lexicographic.{pointwise}
use Rattle.std.specs.List.{filter}
use Rattle.key_files.specs.declared.words.Mode.{Mode}
use Rattle.key_files.specs.declared.words.Mode.TheVariants.{Between, Inside, Comment}

-- spaces, tabs, line breaks, quotes, braces and semicolons
unfoldable pub is_separator : ℕ → Bool
is_separator b = b == 32 || b == 9 || b == 13 || b == 10 || b == 34 || b == 123 || b == 125 || b == 59

-- a separator ends a word before it, and so does `#`, with which a comment begins
abbrev pub ends_word : ℕ → Bool
ends_word b = b == 35 || is_separator b

-- how many octets come before the first that ends a word
abbrev pub word_length : List ℕ → ℕ
word_length octets = unwrap_or (position ends_word octets) (length octets)

-- the word that begins at an offset of a text
abbrev pub word_at : ℕ → List ℕ → List ℕ
word_at at text = take (word_length (drop at text)) (drop at text)

-- a word begins with an octet that is no separator behind one that is, or at the beginning of the text
abbrev pub begins_word : Mode → ℕ → Bool
begins_word Between b = not (ends_word b)
begins_word Inside b = false
begins_word Comment b = false

-- a comment goes to the end of its line
abbrev pub mode_behind : Mode → ℕ → Mode
mode_behind Comment b = if b == 10 then Between else Comment
mode_behind mode b = if b == 35 then Comment else (if is_separator b then Between else Inside)

-- the beginning of a word, if one begins with the octet at this offset
abbrev pub begun : Mode → ℕ → ℕ → List ℕ
begun mode at b = if begins_word mode b then at ∷ [] else []

-- where the words of octets begin, the first of which is at this offset
abbrev pub words_from : Mode → ℕ → List ℕ → List ℕ
words_from mode at [] = []
words_from mode at (b ∷ octets) = begun mode at b ++ words_from (mode_behind mode b) (at + 1) octets

-- a word is this one
abbrev pub says : List ℕ → List ℕ → Bool
says = pointwise nat_eq

-- the words `key:`, which opens a block, and `-`, which opens an entry of a list, say nothing of a key
abbrev pub is_heading : List ℕ → Bool
is_heading word = says word (codes "key:") || says word (codes "-")

-- the words that say something, of those that begin at these offsets of a text
abbrev pub telling : List ℕ → List ℕ → List ℕ
telling text words = filter (λ at. not (is_heading (word_at at text))) words

-- where they begin in a text
abbrev pub words_of : List ℕ → List ℕ
words_of text = telling text (words_from Between 0 text)
