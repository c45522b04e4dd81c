-- Values in the canonical order of names that they have
use Rattle.std.specs.Prelude.{◌≡◌, List, [], ◌∷◌, map}
use Rattle.std.specs.Ordering.{match_ordering}
use Rattle.zone_proto.specs.Names.{Name, name_cmp}

-- values in the canonical order of their names (RFC 4034 section 6.1) with one more at its place among them, or in
-- place of the one of its name
abbrev pub put_in_order : {Z : Type 0} → (Z → Name) → Z → List Z → List Z
put_in_order name_of z [] = z ∷ []
put_in_order name_of z (y ∷ ys) = match_ordering (name_cmp (name_of z) (name_of y)) (z ∷ y ∷ ys) (z ∷ ys) (y ∷ put_in_order name_of z ys)

-- each value is under its name
abbrev pub AreUnderNames : {V : Type 0} → (V → Name) → List (Name × V) → Type 0
AreUnderNames name_of es = map (λ e. name_of e.1) es ≡ map (λ e. e.0) es
