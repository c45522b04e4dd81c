-- Facts about hex that is read from the left.
use Rattle.std.proofs.Common.{◌≡◌, ℕ, List, [], ◌∷◌, ◌++◌, Option, Some, None, refl, ap, append_assoc, append-nil}
use Rattle.std.specs.Prelude.{option_map}

-- what is read, once these octets come before what is read of the rest
abbrev pub after_octets : List ℕ → Option (List ℕ) → Option (List ℕ)
after_octets octets rest = option_map (λ more. octets ++ more) rest

pub after_one_more : (octets : List ℕ) (octet : ℕ) (rest : Option (List ℕ)) → after_octets (octets ++ octet ∷ []) rest ≡ after_octets octets (option_map (λ more. octet ∷ more) rest)
after_one_more octets octet (Some more) = ap Some (append_assoc octets (octet ∷ []) more)
after_one_more octets octet None = refl

pub after_none : (octets : List ℕ) → after_octets octets (Some []) ≡ Some octets
after_none octets = ap Some (append-nil octets)
