use Rattle.std.proofs.Common.{◌≡◌, ◌∷◌, List, sym, ap, ◌∙◌}
use Rattle.std.specs.Prelude.{◌==◌, Option, Some, None, option_map, if◌then◌else◌}
use Rattle.std.specs.Option.{option_or}
use Rattle.zone_history.specs.Histories.{since}
use Rattle.zone_history.specs.declared.history.Version.{Version}
use Rattle.zone_history.proofs.Walking.{or_along}
use Rattle.zone_history.proofs.history.versions_since.Goals as goal

pub loop-version-preserved : goal.loop-version-preserved
unfolding since
loop-version-preserved c =
    let serial = c.args.serial in
    let v = c.in-Some.version.now in
    let left : List Version = c.in-Some.behind.now in
    let so_far : Option (List Version) = option_map (λ x. x.now) c.loop-version.found in
    let is : c.loop-version.rest.now ≡ v ∷ left = c.in-Some.ensures.cases.0 in
    ap (option_or (since serial left)) (c.latest-found.ensures ∙ ap (λ (xs : List Version). option_or (if v.serial == serial then Some xs else None) so_far) is)
    ∙ sym (or_along (since serial left) (if v.serial == serial then Some (v ∷ left) else None) so_far)
    ∙ sym (ap (λ xs. option_or (since serial xs) so_far) is)
    ∙ c.loop-version.invariant
