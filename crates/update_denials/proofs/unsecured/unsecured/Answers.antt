use Rattle.std.proofs.Common.{◌≡◌, sym, ap, ◌∙◌, subst}
use Rattle.std.specs.Prelude.{filter}
use Rattle.std.specs.Map.{keys_of}
use Rattle.zone_map.specs.Puts.{without_all}
use Rattle.zone_map.specs.Zones.{Sets}
use Rattle.update_denials.specs.Prepared.{is_made, IsUnsecured}
use Rattle.update_denials.proofs.Bare.{unsecured_left}
use Rattle.update_denials.proofs.unsecured.unsecured.Goals as goal

pub returns-clause-ok : goal.returns-clause-ok
returns-clause-ok c =
    let m : Sets = c.args.records in
    let is : c.remove_all.new.records ≡ without_all m (filter is_made (keys_of m)) =
    c.remove_all.ensures ∙ ap (without_all m) c.in_ok-keys.ensures.ok in
    subst (λ (x : Sets). IsUnsecured m x) (sym is) (unsecured_left m c.len-count.ensures.zone)
