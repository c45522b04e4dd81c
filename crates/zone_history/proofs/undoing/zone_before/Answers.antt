use Rattle.std.proofs.Common.{◌≡◌, [], ◌∷◌, ◌++◌, sym, ap, ◌∙◌, Result}
use Rattle.zone_map.specs.Zones.{Sets}
use Rattle.zone_difference.specs.Differences.{◌>>=◌}
use Rattle.zone_difference.specs.declared.error.DifferenceError.{DifferenceError}
use Rattle.zone_difference.proofs.Steps.{passes}
use Rattle.zone_history.specs.Histories.{back, undone}
use Rattle.zone_history.proofs.Walking.{undone_last}
use Rattle.zone_history.proofs.undoing.zone_before.Goals as goal

pub loop-version-preserved : goal.loop-version-preserved
loop-version-preserved c =
    let m : Sets = c.loop-version.records in
    let front = c.in-Some.front.now in
    let v = c.in-Some.version.now in
    let is : c.loop-version.rest.now ≡ front ++ v ∷ [] = c.in-Some.ensures.cases.0 in
    ap (λ (r : Result Sets DifferenceError). r >>= λ n. undone n front) (sym c.in-Ok.ensures)
    ∙ sym (undone_last m front v)
    ∙ sym (ap (undone m) is)
    ∙ c.loop-version.invariant

pub returns-in-Err : goal.returns-in-Err
returns-in-Err c =
    let m : Sets = c.loop-version.records in
    let front = c.in-Some.front.now in
    let v = c.in-Some.version.now in
    let is : c.loop-version.rest.now ≡ front ++ v ∷ [] = c.in-Some.ensures.cases.0 in
    passes c.in-Err.error (back m v) (undone c.args.zone.now c.args.versions.now) c.in-Err.ensures
    (λ h. sym c.loop-version.invariant ∙ ap (undone m) is ∙ undone_last m front v ∙ ap (λ (r : Result Sets DifferenceError). r >>= λ n. undone n front) h)
