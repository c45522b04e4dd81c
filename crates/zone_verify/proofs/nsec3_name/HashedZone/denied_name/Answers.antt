use Rattle.std.proofs.Common.{◌≡◌, subst}
use Rattle.std.specs.Prelude.{Option, IfSome}
use Rattle.std.specs.Option.{IfNone}
use Rattle.zone_proto.specs.Names.{Name}
use Rattle.zone_denial.specs.Nsec3Zones.{hash_with}
use Rattle.zone_verify.specs.ChainSets.{sets_of}
use Rattle.zone_verify.specs.declared.nsec3_name.ChainName.{ChainName}
use Rattle.zone_verify.specs.Nsec3Names.{HasAncestors, HasNsec3}
use Rattle.zone_verify.proofs.Nsec3Chosen.{stay, one_kept}
use Rattle.zone_verify.proofs.nsec3_name.HashedZone.denied_name.Goals as goal

pub returns-in-Some-clause-stay : goal.returns-in-Some-clause-stay
returns-in-Some-clause-stay g c =
    let o = c.args.self.now.origin.now in
    let all = c.args.self.now.sets.records.now in
    let m = sets_of c.args.self.now.sets in
    let hash = hash_with (g.H.Nsec3Hash.digest_of c.args.self.now.hash.now) c.args.self.now.parameters.now in
    let opt = c.args.self.now.parameters.now.opt_out in
    stay o all m hash opt c.args.name.now c.args.names.now.items c.push_new_ancestors.new.names.items c.push.new.names.items c.in-Some.found c.in_ok-without.ensures.stay
    (subst (λ (w : Option Name). IfNone w (HasAncestors o c.push_new_ancestors.new.names.items c.args.name.now)) c.in_default.is c.in_ok-without.ensures.all) c.in_ok-denied-in-Some.ensures.pushed
    (subst (λ (f : Option ChainName). IfSome f (HasNsec3 o m hash opt)) c.in-Some.is c.in_ok-found.ensures.has)
    (subst (λ (f : Option ChainName). IfSome f (λ d. d.name ≡ c.args.name.now)) c.in-Some.is c.in_ok-found.ensures.name) c.in_ok-denied-in-Some.ensures.may

pub returns-in-Some-clause-kept : goal.returns-in-Some-clause-kept
returns-in-Some-clause-kept g c =
    let o = c.args.self.now.origin.now in
    let all = c.args.self.now.sets.records.now in
    let m = sets_of c.args.self.now.sets in
    let hash = hash_with (g.H.Nsec3Hash.digest_of c.args.self.now.hash.now) c.args.self.now.parameters.now in
    let opt = c.args.self.now.parameters.now.opt_out in
    λ x i. one_kept c.push_new_ancestors.new.names.items c.push.new.names.items c.in-Some.found c.in_ok-denied-in-Some.ensures.pushed x (c.in_ok-without.ensures.kept x i)
