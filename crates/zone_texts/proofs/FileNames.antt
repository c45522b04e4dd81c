-- The parts of paths, as a text
use Rattle.std.proofs.Common.{◌≡◌, ℕ, List, [], ◌∷◌, ◌++◌, Bor, codes, map, refl, sym, ap}
use Rattle.std.specs.List.{join_by}
use Rattle.std.proofs.lemmas.List.Folds.{flat_map-map}
use Rattle.zone_texts.specs.FileNames.{joined}

-- joined by what is behind references to them
pub joined_so : (path : List (Bor (List ℕ))) → join_by (λ part. part.now) (codes "/") path ≡ joined (map (λ part. part.now) path)
joined_so [] = refl
joined_so (first ∷ others) = ap (λ (behind : List ℕ). first.now ++ behind) (sym (flat_map-map (λ part. codes "/" ++ part) (λ part. part.now) others))
