use Rattle.std.proofs.Common.{◌≡◌, List, [], refl, subst, arith}
use Rattle.std.specs.Prelude.{Option, IfSome}
use Rattle.std.specs.List.{Contains}
use Rattle.zone_denial.specs.Nsec3Zones.{hash_with}
use Rattle.zone_verify.specs.declared.nsec3_name.ChainName.{ChainName}
use Rattle.zone_verify.specs.ChainSets.{sets_of}
use Rattle.zone_verify.specs.Nsec3Names.{HasNsec3, IsNamed}
use Rattle.zone_verify.proofs.Nsec3Chosen.{upper_before, upper_after, all_upper}
use Rattle.zone_verify.proofs.nsec3_name.HashedZone.push_new_ancestors.Goals as goal

pub loop-upper-init : goal.loop-upper-init
loop-upper-init g c =
    let o = c.args.self.now.origin.now in
    let all = c.args.self.now.sets.records.now in
    let m = sets_of c.args.self.now.sets in
    let hash = hash_with (g.H.Nsec3Hash.digest_of c.args.self.now.hash.now) c.args.self.now.parameters.now in
    let opt = c.args.self.now.parameters.now.opt_out in
    let of = c.shared_with_last-shared.ensures in
    let there : IsNamed c.args.names.now.items of.0.name = (of.0, subst (λ (cs : List ChainName). Contains cs of.0) c.as_slice.ensures.value of.1, refl) in
    upper_before o all m hash opt c.args.name.now of.0.name c.shared_with_last-shared.result of.2 c.args.names.now.items there c.requires.0 c.requires.1

pub returns-in_default-clause-stay : goal.returns-in_default-clause-stay
returns-in_default-clause-stay g c = c.loop-upper.invariant.stay

pub returns-in_default-clause-kept : goal.returns-in_default-clause-kept
returns-in_default-clause-kept g c = c.loop-upper.invariant.kept

pub loop-upper-preserved : goal.loop-upper-preserved
loop-upper-preserved g c =
    let o = c.args.self.now.origin.now in
    let all = c.args.self.now.sets.records.now in
    let m = sets_of c.args.self.now.sets in
    let hash = hash_with (g.H.Nsec3Hash.digest_of c.args.self.now.hash.now) c.args.self.now.parameters.now in
    let opt = c.args.self.now.parameters.now.opt_out in
    let of = c.shared_with_last-shared.ensures in
    let there : IsNamed c.args.names.now.items of.0.name = (of.0, subst (λ (cs : List ChainName). Contains cs of.0) c.as_slice.ensures.value of.1, refl) in
    upper_after o all m hash opt c.args.name.now of.0.name c.shared_with_last-shared.result of.2 c.args.names.now.items there c.loop-upper.names.items c.push.new.self.items c.loop-upper.upper
    c.in_ok-ancestor.ancestor c.in-Some.found c.loop-upper.auto.upper (omega (arith, c.loop-upper-test.true, c.saturating_sub-upper-end.ensures, c.num_labels.ensures.count)) c.in_ok-ancestor.ensures.ok
    (subst (λ (f : Option ChainName). IfSome f (HasNsec3 o m hash opt)) c.in-Some.is c.in_ok-found.ensures.has)
    (subst (λ (f : Option ChainName). IfSome f (λ d. d.data.now.types ≡ [])) c.in-Some.is c.in_ok-found.ensures.empty)
    (subst (λ (f : Option ChainName). IfSome f (λ d. d.name ≡ c.in_ok-ancestor.ancestor)) c.in-Some.is c.in_ok-found.ensures.name) c.in_ok-push.ensures.items c.loop-upper.invariant

pub returns-clause-all : goal.returns-clause-all
returns-clause-all g c =
    let o = c.args.self.now.origin.now in
    let all = c.args.self.now.sets.records.now in
    let m = sets_of c.args.self.now.sets in
    let hash = hash_with (g.H.Nsec3Hash.digest_of c.args.self.now.hash.now) c.args.self.now.parameters.now in
    let opt = c.args.self.now.parameters.now.opt_out in
    all_upper o all m hash opt c.args.name.now c.args.names.now.items c.loop-upper.names.items c.loop-upper.upper
    (omega (arith, c.loop-upper-test.false, c.saturating_sub-upper-end.ensures, c.num_labels.ensures.count)) c.loop-upper.invariant

pub returns-clause-stay : goal.returns-clause-stay
returns-clause-stay g c = c.loop-upper.invariant.stay

pub returns-clause-kept : goal.returns-clause-kept
returns-clause-kept g c = c.loop-upper.invariant.kept
