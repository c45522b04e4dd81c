-- The parts of a text between separators
use Rattle.std.specs.Prelude.{ℕ, List, [], ◌∷◌, ◌++◌, ◌==◌, Option, Some, None, option_map, option_and_then}
use Rattle.std.specs.List.{slice_split}
use denote.Ref.{Bor}

-- the parts of a text that a separator separates: one more than there are separators
abbrev pub parts : ℕ → List ℕ → List (List ℕ)
parts separator text = slice_split (λ b. b == separator) text

-- and the text of parts with a separator between them
abbrev pub joined : ℕ → List (List ℕ) → List ℕ
joined separator [] = []
joined separator (p ∷ []) = p
joined separator (p ∷ q ∷ ps) = p ++ separator ∷ joined separator (q ∷ ps)

-- the octets that parts stand for, one part after the other, if each stands for some
abbrev pub octets_of_parts : (List ℕ → Option (List ℕ)) → List (List ℕ) → Option (List ℕ)
octets_of_parts octets_of [] = Some []
octets_of_parts octets_of (p ∷ ps) = option_and_then (λ octets. option_map (λ more. octets ++ more) (octets_of_parts octets_of ps)) (octets_of p)

-- the parts of what is left of a text
abbrev pub parts_left : ℕ → Option (Bor (List ℕ)) → List (List ℕ)
parts_left separator None = []
parts_left separator (Some text) = parts separator text.now
