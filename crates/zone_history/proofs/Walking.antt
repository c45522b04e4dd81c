-- Versions as loops walk over them
use Rattle.std.proofs.Common.{◌≡◌, ℕ, Bool, true, false, List, [], ◌∷◌, ◌++◌, refl, ap, ◌∙◌, Result, Ok, Err}
use Rattle.std.specs.Prelude.{Option, Some, None}
use Rattle.std.specs.Option.{option_or}
use Rattle.zone_map.specs.Zones.{Sets}
use Rattle.zone_difference.specs.Differences.{◌>>=◌}
use Rattle.zone_difference.specs.declared.error.DifferenceError.{DifferenceError}
use Rattle.zone_history.specs.Histories.{back, undone}
use Rattle.zone_history.specs.declared.history.Version.{Version}

pub or_along : {A : Type 0} (a b c : Option A) → option_or (option_or a b) c ≡ option_or a (option_or b c)
or_along None b c = refl
or_along (Some x) b c = refl

-- one step after the other
steps : (r : Result Sets DifferenceError) (f g : Sets → Result Sets DifferenceError) → (r >>= f) >>= g ≡ r >>= λ m. f m >>= g
steps (Ok m) f g = refl
steps (Err e) f g = refl

ends : (r : Result Sets DifferenceError) → (r >>= λ m. Ok m) ≡ r
ends (Ok m) = refl
ends (Err e) = refl

-- the last version is undone first
pub undone_last : (m : Sets) (vs : List Version) (v : Version) → undone m (vs ++ v ∷ []) ≡ back m v >>= λ n. undone n vs
unfolding undone
undone_last m [] v = refl ∙ by (back m v)
  where
    by : (r : Result Sets DifferenceError) → r ≡ r >>= λ n. Ok n
    by (Ok n) = refl
    by (Err e) = refl
undone_last m (w ∷ vs) v = ap (λ r. r >>= λ n. back n w) (undone_last m vs v) ∙ steps (back m v) (λ n. undone n vs) (λ n. back n w)
