-- The law of updates of a part
use Rattle.std.proofs.Common.{ap, ◌∙◌, Ok}
use Rattle.zone_proto.specs.Keys.{key}
use Rattle.update_in_place.specs.Locality.{UpdatesAreLocal}
use Rattle.update_in_place.specs.Parts.{is_among, names_about}
use Rattle.update_in_place.proofs.About.{all_among, origin_among}
use Rattle.update_in_place.proofs.Local.{updated_part}

pub updates_are_local : UpdatesAreLocal
updates_are_local origin m after changes zone h =
    let r = updated_part (is_among (names_about origin changes)) origin (origin_among origin changes) m after changes zone.ordered (all_among origin changes) h in
    (r.1 ∙ ap Ok r.2.same, λ n t g. r.2.others (key n t) g)
