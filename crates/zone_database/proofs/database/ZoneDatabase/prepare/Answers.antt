use Rattle.std.proofs.Common.{◌≡◌, ◌∙◌, ap, sym, subst}
use Rattle.std.specs.BTreeMap.{is_at}
use Rattle.std.specs.Map.{lookup, set_value}
use Rattle.std.specs.Prelude.{is_some, map, IsTrue, Some}
use Rattle.std.proofs.lemmas.Result.{IfOk-weaker}
use Rattle.zone_origins.proofs.UnderNames.{is_found}
use Rattle.zone_proto.specs.Names.{name_cmp}
use Rattle.zone_database.specs.Origins.{AreUnderOrigins}
use Rattle.zone_database.specs.declared.zone.Zone.{Zone}
use Rattle.zone_database.proofs.Preparing.{same_under, same_values}
use Rattle.zone_database.proofs.database.ZoneDatabase.prepare.Goals as goal

pub invariant_of-self : goal.invariant_of-self
invariant_of-self c =
    let es = c.args.self.now.zones.entries in
    let found : lookup (is_at (name_cmp c.args.origin.now)) es ≡ Some c.in-Some.stored.now = sym c.in-Some.ensures.value in
    record {
      under_origins =
          subst AreUnderOrigins (sym (c.get_mut.follows.holds c.prepare.new.self).0)
          (same_under (λ (s : Zone). s.origin) (is_at (name_cmp c.args.origin.now)) es c.in-Some.stored.now c.prepare.new.self found
          (ap (λ (z : Zone). z.origin) c.prepare.ensures.same) c.args.self.now.under_origins);
    }

pub returns-in-Some-clause-same : goal.returns-in-Some-clause-same
returns-in-Some-clause-same c =
    let es = c.args.self.now.zones.entries in
    ap (map (λ e. e.1)) (c.get_mut.follows.holds c.prepare.new.self).0
    ∙ same_values (λ (s : Zone). s) (is_at (name_cmp c.args.origin.now)) es c.in-Some.stored.now c.prepare.new.self (sym c.in-Some.ensures.value) c.prepare.ensures.same

pub returns-in-Some-clause-found : goal.returns-in-Some-clause-found
returns-in-Some-clause-found c =
    let es = c.args.self.now.zones.entries in
    IfOk-weaker c.prepare.result IsTrue _
    (λ found t. t ∙ ap is_some c.in-Some.ensures.value ∙ is_found (λ (s : Zone). s) (λ (z : Zone). z.origin) c.args.origin.now es c.args.self.now.under_origins) c.prepare.ensures.done

pub returns-in-None-clause-found : goal.returns-in-None-clause-found
returns-in-None-clause-found c =
    ap is_some c.in-None.ensures.value ∙ is_found (λ (s : Zone). s) (λ (z : Zone). z.origin) c.args.origin.now c.args.self.now.zones.entries c.args.self.now.under_origins
