-- The words of a line of rules
use Rattle.std.specs.Prelude.{ℕ, ◌+◌, ◌==◌, ◌||◌, not, Bool, false, List, [], ◌∷◌, ◌++◌, length, take, drop, position, unwrap_or, Option, Some, None, if◌then◌else◌}
use Rattle.zone_proto.specs.Data.{same_octets}
use Rattle.update_rules.specs.declared.words.Mode.{Mode}
use Rattle.update_rules.specs.declared.words.Mode.TheVariants.{Between, Inside, Quoted, Comment}

-- spaces, tabs and carriage returns
abbrev pub is_blank : ℕ → Bool
is_blank b = b == 32 || (b == 9 || b == 13)

abbrev pub is_quote : ℕ → Bool
is_quote b = b == 34

-- a blank ends a word before it that has no quotes, and so does `#`, with which a comment begins
abbrev pub ends_word : ℕ → Bool
ends_word b = b == 35 || is_blank b

-- how many octets come before the first of which this holds
abbrev pub length_before : (ℕ → Bool) → List ℕ → ℕ
length_before ends octets = unwrap_or (position ends octets) (length octets)

-- the word that octets begin with: between quotes, or up to what ends it
abbrev pub word_of : List ℕ → List ℕ
word_of [] = []
word_of (b ∷ octets) =
    if is_quote b then take (length_before is_quote octets) octets else take (length_before ends_word (b ∷ octets)) (b ∷ octets)

-- the word that begins at an offset of a line
abbrev pub word_at : ℕ → List ℕ → List ℕ
word_at at line = word_of (drop at line)

-- a word begins with an octet behind a blank, a closed quote or nothing that is no blank and begins no comment
abbrev pub begins_word : Mode → ℕ → Bool
begins_word Between b = not (ends_word b)
begins_word Inside b = false
begins_word (Quoted at) b = false
begins_word Comment b = false

-- the octet behind this one, which is in no quotes and no comment
abbrev pub mode_within : ℕ → Mode
mode_within b = if b == 35 then Comment else (if is_blank b then Between else Inside)

-- a quote closes what the one before a word opens, and a comment goes to the end of the line
abbrev pub mode_behind : Mode → ℕ → ℕ → Mode
mode_behind Between at b = if is_quote b then Quoted at else mode_within b
mode_behind Inside at b = mode_within b
mode_behind (Quoted begun) at b = if is_quote b then Between else Quoted begun
mode_behind Comment at b = Comment

-- the beginning of a word, if one begins with the octet at this offset
abbrev pub begun : Mode → ℕ → ℕ → List ℕ
begun mode at b = if begins_word mode b then at ∷ [] else []

-- where the words of octets begin, the first of which is at this offset
abbrev pub words_from : Mode → ℕ → List ℕ → List ℕ
words_from mode at [] = []
words_from mode at (b ∷ octets) = begun mode at b ++ words_from (mode_behind mode at b) (at + 1) octets

-- where the words of a line begin
abbrev pub words_of : List ℕ → List ℕ
words_of line = words_from Between 0 line

-- what stands behind octets comes behind this
abbrev pub mode_along : Mode → ℕ → List ℕ → Mode
mode_along mode at [] = mode
mode_along mode at (b ∷ octets) = mode_along (mode_behind mode at b) (at + 1) octets

abbrev pub quote_of : Mode → Option ℕ
quote_of (Quoted at) = Some at
quote_of mode = None

-- where the quote is that isn't closed in a line
abbrev pub open_quote : List ℕ → Option ℕ
open_quote line = quote_of (mode_along Between 0 line)

-- a word is this one
abbrev pub says : List ℕ → List ℕ → Bool
says = same_octets
