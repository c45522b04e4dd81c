use Rattle.std.proofs.Common.{◌≡◌, ◌∙◌, ap, refl, sym, subst}
use Rattle.std.specs.BTreeMap.{is_at}
use Rattle.std.specs.List.{find}
use Rattle.std.specs.Map.{lookup}
use Rattle.std.specs.Prelude.{map, Option, None, Some, option_map}
use Rattle.zone_origins.proofs.UnderNames.{found}
use Rattle.zone_proto.specs.Names.{name_cmp}
use Rattle.zone_database.specs.Databases.{begins_at, zones_in}
use Rattle.zone_database.specs.Origins.{AreUnderOrigins}
use Rattle.zone_database.specs.Versions.{records_of}
use Rattle.zone_database.specs.declared.zone.Zone.{Zone}
use Rattle.zone_database.proofs.Preparing.{same_under, same_values}
use Rattle.zone_database.proofs.database.ZoneDatabase.sets_of.Goals as goal

pub invariant_of-self : goal.invariant_of-self
invariant_of-self c =
    let es = c.args.self.now.zones.entries in
    let found : lookup (is_at (name_cmp c.args.origin.now)) es ≡ Some c.in-Some.stored.now = sym c.in-Some.ensures.value in
    record {
      under_origins =
          subst AreUnderOrigins (sym (c.get_mut.follows.holds c.sets.new.self).0)
          (same_under (λ (s : Zone). s.origin) (is_at (name_cmp c.args.origin.now)) es c.in-Some.stored.now c.sets.new.self found
          (ap (λ (z : Zone). z.origin) c.sets.ensures.same) c.args.self.now.under_origins);
    }

pub returns-in_ok-sets-in-Some-clause-same : goal.returns-in_ok-sets-in-Some-clause-same
returns-in_ok-sets-in-Some-clause-same c =
    let es = c.args.self.now.zones.entries in
    ap (map (λ e. e.1)) (c.get_mut.follows.holds c.sets.new.self).0
    ∙ same_values (λ (s : Zone). s) (is_at (name_cmp c.args.origin.now)) es c.in-Some.stored.now c.sets.new.self (sym c.in-Some.ensures.value) c.sets.ensures.same

pub returns-in_err-sets-in-Some-clause-same : goal.returns-in_err-sets-in-Some-clause-same
returns-in_err-sets-in-Some-clause-same c =
    let es = c.args.self.now.zones.entries in
    ap (map (λ e. e.1)) (c.get_mut.follows.holds c.sets.new.self).0
    ∙ same_values (λ (s : Zone). s) (is_at (name_cmp c.args.origin.now)) es c.in-Some.stored.now c.sets.new.self (sym c.in-Some.ensures.value) c.sets.ensures.same

pub returns-in_ok-sets-in-Some-clause-sets : goal.returns-in_ok-sets-in-Some-clause-sets
returns-in_ok-sets-in-Some-clause-sets c =
    let is : Some c.in-Some.stored.now ≡ find (begins_at c.args.origin.now) (zones_in c.args.self.now) =
    ap (option_map (λ (s : Zone). s)) c.in-Some.ensures.value ∙ found (λ (s : Zone). s) (λ (z : Zone). z.origin) c.args.origin.now c.args.self.now.zones.entries c.args.self.now.under_origins in
    ap Some c.in_ok-sets-in-Some.ensures.sets ∙ ap (option_map records_of) is

pub returns-in-None-clause-sets : goal.returns-in-None-clause-sets
returns-in-None-clause-sets c =
    let is : None ≡ find (begins_at c.args.origin.now) (zones_in c.args.self.now) =
    ap (option_map (λ (s : Zone). s)) c.in-None.ensures.value ∙ found (λ (s : Zone). s) (λ (z : Zone). z.origin) c.args.origin.now c.args.self.now.zones.entries c.args.self.now.under_origins in
    ap (option_map records_of) is
