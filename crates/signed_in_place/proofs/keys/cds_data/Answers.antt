use Rattle.std.proofs.Common.{List, ℕ, refl, ap, ◌∙◌}
use Rattle.zone_proto.specs.declared.rdata.RData.TheVariants as V
use Rattle.signed_in_place.proofs.keys.cds_data.Goals as goal

pub returns-clause-ok : goal.returns-clause-ok
returns-clause-ok c =
    c.other_data.ensures refl ∙ ap (λ (o : List ℕ). V.Other (record { record_type = record { 0 = 59 }; octets = o; other = refl })) c.in_ok-ds_data.ensures.ok
