-- Lists with commas between their items (RFC 9460 appendix A.1): a comma or a backslash of an item stands behind a backslash
use Rattle.std.specs.Prelude.{ℕ, ◌==◌, ◌||◌, ◌++◌, List, [], ◌∷◌, Bool, true, false, Option, Some, None, option_map, option_and_then, if◌then◌else◌}

abbrev pub comma : ℕ
comma = 44

abbrev pub backslash : ℕ
backslash = 92

-- the first item has this octet in front
abbrev pub on_first : ℕ → List (List ℕ) → List (List ℕ)
on_first b [] = []
on_first b (i ∷ is) = (b ∷ i) ∷ is

-- the items of octets, the first of which comes behind a backslash or not
abbrev pub items_from : List ℕ → Bool → Option (List (List ℕ))
items_from [] false = Some ([] ∷ [])
items_from [] true = None
items_from (b ∷ s) true = if b == comma || b == backslash then option_map (on_first b) (items_from s false) else None
items_from (b ∷ s) false =
    if b == backslash then items_from s true
    else (if b == comma then option_map (λ is. [] ∷ is) (items_from s false)
    else option_map (on_first b) (items_from s false))

abbrev pub items_of : List ℕ → Option (List (List ℕ))
items_of os = items_from os false

-- the octets of items, each read by itself, one behind the other
abbrev pub read_then : Option (List ℕ) → Option (List ℕ) → Option (List ℕ)
read_then first more = option_and_then (λ os. option_map (λ rest. os ++ rest) more) first

abbrev pub all_octets : (List ℕ → Option (List ℕ)) → List (List ℕ) → Option (List ℕ)
all_octets read [] = Some []
all_octets read (i ∷ is) = read_then (read i) (all_octets read is)
