use Rattle.std.proofs.Common.{◌≡◌, ℕ, ◌==◌, eqb-true, not, Bool, true, false, [], refl, subst}
use Rattle.std.specs.Prelude.{Some}
use Rattle.zone_frozen.specs.Sets.{sets_upto}
use Rattle.zone_map.specs.Zones.{Sets, set_at}
use Rattle.zone_map.proofs.LastKeys.{last_owner}
use Rattle.zone_map.proofs.LastSets.{among_upto}
use Rattle.zone_map.proofs.record_map.RecordMap.last_of_type_upto.Goals as goal

not_other : (b : Bool) → false ≡ not b → b ≡ true
not_other true h = refl
not_other false h = absurd cc

pub returns-clause-last : goal.returns-clause-last
returns-clause-last c =
    let same = eqb-true c.in_ok-last.last.now.record_type.0 c.args.key.now.record_type.0 (not_other (c.in_ok-last.last.now.record_type.0 == c.args.key.now.record_type.0) c.if-ne.ensures) in
    rw (← c.self.view_is)
    (last_owner c.self.inside.sets c.args.key.now c.in_ok-last.last.now c.in_ok-last.set.now (sets_upto c.self.inside.sets c.args.key.now) c.in_ok-last.ensures.last.0
    refl c.in_ok-last.ensures.last.1 same)

pub returns-clause-set : goal.returns-clause-set
returns-clause-set c =
    let last = c.in_ok-last.last.now in
    let set = c.in_ok-last.set.now in
    let same = eqb-true last.record_type.0 c.args.key.now.record_type.0 (not_other (last.record_type.0 == c.args.key.now.record_type.0) c.if-ne.ensures) in
    let found = among_upto c.args.key.now (last, set) c.self.inside.sets c.in_ok-last.ensures.last.0 [] c.in_ok-last.ensures.ordered c.in_ok-last.ensures.last.1 in
    subst (λ (m : Sets). set_at m last.name c.args.key.now.record_type.0 ≡ Some set) c.self.view_is
    (subst (λ (t : ℕ). set_at c.self.inside.sets last.name t ≡ Some set) same found)
