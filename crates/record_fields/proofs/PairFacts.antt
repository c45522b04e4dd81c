-- Facts about pairs of hex digits that are read from the left.
use Rattle.std.proofs.Common.{◌≡◌, ℕ, List, [], ◌∷◌, ◌++◌, Option, Some, None, refl, sym, ap, append_assoc}
use Rattle.std.specs.Prelude.{option_map}
use Rattle.line_text.specs.Hex.{hex_octet}
use Rattle.line_text.proofs.HexFacts.{after_octets}
use Rattle.record_fields.specs.Parts.{pairs_of}

pair_more : (octets : List ℕ) (octet : ℕ) (rest : Option (List ℕ)) → after_octets octets (option_map (λ more. octet ∷ more) rest) ≡ after_octets (octets ++ octet ∷ []) rest
pair_more octets octet (Some more) = ap (λ (t : List ℕ). Some t) (sym (append_assoc octets (octet ∷ []) more))
pair_more octets octet None = refl

pub pair_step : (octets : List ℕ) (high low octet : ℕ) (rest more : List ℕ) → rest ≡ high ∷ low ∷ 45 ∷ more → hex_octet high low ≡ Some octet
    → after_octets octets (pairs_of rest) ≡ after_octets (octets ++ octet ∷ []) (pairs_of more)
pair_step octets high low octet rest more e h = rw (e, h) (pair_more octets octet (pairs_of more))

pub pair_last : (octets : List ℕ) (octet : ℕ) → after_octets octets (Some (octet ∷ [])) ≡ Some (octets ++ octet ∷ [])
pair_last octets octet = refl
