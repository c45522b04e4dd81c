use Rattle.std.proofs.Common.{◌≡◌, subst}
use Rattle.std.specs.Prelude.{Option, IfSome, option_copied}
use Rattle.zone_denial.specs.Nsec3Zones.{hash_with}
use Rattle.zone_verify.specs.ChainSets.{sets_of}
use Rattle.zone_verify.specs.declared.nsec3_name.ChainName.{ChainName}
use Rattle.zone_verify.specs.Nsec3Names.{HasNsec3}
use Rattle.zone_verify.proofs.Nsec3Chosen.{origin_alone, denied_there, one_there}
use Rattle.zone_verify.proofs.nsec3_name.HashedZone.denied_origin.Goals as goal

pub returns-in_ok-denied-in-Some-clause-names : goal.returns-in_ok-denied-in-Some-clause-names
returns-in_ok-denied-in-Some-clause-names g c = λ keys.
    let o = c.args.self.now.origin.now in
    let m = sets_of c.args.self.now.sets in
    let hash = hash_with (g.H.Nsec3Hash.digest_of c.args.self.now.hash.now) c.args.self.now.parameters.now in
    let opt = c.args.self.now.parameters.now.opt_out in
    origin_alone o c.args.self.now.sets.records.now m hash opt c.args.names.now.items c.push.new.names.items c.in-Some.found c.requires c.in_ok-denied-in-Some.ensures.pushed
    (subst (λ (f : Option ChainName). IfSome f (HasNsec3 o m hash opt)) c.in-Some.is c.in_ok-found.ensures.has)
    (subst (λ (f : Option ChainName). IfSome f (λ d. d.name ≡ o)) c.in-Some.is c.in_ok-found.ensures.name) c.in_ok-denied-in-Some.ensures.may keys

pub returns-in_ok-denied-in-Some-clause-denied : goal.returns-in_ok-denied-in-Some-clause-denied
returns-in_ok-denied-in-Some-clause-denied g c =
    let o = c.args.self.now.origin.now in
    let m = sets_of c.args.self.now.sets in
    let hash = hash_with (g.H.Nsec3Hash.digest_of c.args.self.now.hash.now) c.args.self.now.parameters.now in
    let opt = c.args.self.now.parameters.now.opt_out in
    denied_there o m hash opt c.push.new.names.items c.in-Some.found o c.in_ok-denied-in-Some.denied.site.name.now c.in_ok-denied-in-Some.denied.site.is_delegation (option_copied c.in_ok-denied-in-Some.denied.types)
    (one_there c.args.names.now.items c.push.new.names.items c.in-Some.found c.in_ok-denied-in-Some.ensures.pushed)
    (subst (λ (f : Option ChainName). IfSome f (λ d. d.name ≡ o)) c.in-Some.is c.in_ok-found.ensures.name) c.in_ok-denied-in-Some.ensures.name c.in_ok-denied-in-Some.ensures.delegation c.in_ok-denied-in-Some.ensures.types
