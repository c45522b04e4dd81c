-- Where words stand
use Rattle.std.specs.Prelude.{ℕ, List, [], ◌∷◌, take}
use Rattle.zone_scanner.specs.declared.place.Place.{Place}
use Rattle.zone_scanner.specs.Signs.{first_place, place_behind}

-- the place behind octets, the first of which stands at this one
abbrev pub place_along : Place → List ℕ → Place
place_along place [] = place
place_along place (b ∷ octets) = place_along (place_behind place b) octets

-- the place of the octet at an offset of a text
abbrev pub place_at : ℕ → List ℕ → Place
place_at at text = place_along first_place (take at text)
