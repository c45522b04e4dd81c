-- A loop over octets: the place so far, and what is left, give the place behind them
use Rattle.std.proofs.Common.{◌≡◌, ℕ, ◌+◌, ◌<◌, List, length, get_or, drop, sym, ap}
use Rattle.zone_scanner.specs.declared.place.Place.{Place}
use Rattle.zone_scanner.specs.Signs.{place_behind}
use Rattle.key_files.specs.Places.{place_along}
use Rattle.key_files.proofs.WordRuns.{split_at}

pub along_further : (place : Place) (octets : List ℕ) (i : ℕ) → i < length octets
    → place_along (place_behind place (get_or octets i 0)) (drop (i + 1) octets) ≡ place_along place (drop i octets)
along_further place octets i less = ap (λ (s : List ℕ). place_along place s) (sym (split_at octets i less))
