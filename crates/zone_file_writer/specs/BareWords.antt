-- Words that stand bare, of octets of any kind
use Rattle.std.specs.Prelude.{ℕ, ◌==◌, ◌&&◌, not, nat_lt, nat_le, List, [], ◌∷◌, Bool, true, false, if◌then◌else◌}
use Rattle.std.specs.List.{flat_map}
use Rattle.zone_proto.specs.Data.{same_octets}
use Rattle.zone_proto.specs.TextForm.{three_digits}
use Rattle.record_fields.specs.Texts.{generic}

-- an octet above the signs of ASCII up to `)`, and no semicolon, goes on with a word
abbrev pub goes_on : ℕ → Bool
goes_on b = nat_lt 41 b && not (b == 59)

-- such octets alone, with no backslash at the end that another one isn't in front of
abbrev pub are_of_word : Bool → List ℕ → Bool
are_of_word false [] = true
are_of_word true [] = false
are_of_word false (b ∷ t) = if goes_on b then are_of_word (b == 92) t else false
are_of_word true (b ∷ t) = if goes_on b then are_of_word false t else false

-- a text that is read as one bare word as it stands, and not as the beginning of data written as `\#`
abbrev pub is_bare : List ℕ → Bool
is_bare [] = false
is_bare (b ∷ t) = if same_octets (b ∷ t) generic then false else are_of_word false (b ∷ t)

-- an octet in a bare word: a printing one that goes on with it, and is no backslash, is itself, and any other octet its value in
-- three digits
abbrev pub word_octet : ℕ → List ℕ
word_octet b = if goes_on b && (nat_le b 126 && not (b == 92)) then b ∷ [] else 92 ∷ three_digits b

abbrev pub word_octets : List ℕ → List ℕ
word_octets os = flat_map word_octet os
