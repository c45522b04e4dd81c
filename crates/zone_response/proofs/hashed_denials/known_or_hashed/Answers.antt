use Rattle.std.proofs.Common.{◌≡◌, sym, ap, ◌∙◌, subst}
use Rattle.std.specs.Prelude.{Option, Ok, IfSome}
use Rattle.zone_proto.proofs.Names.NameTree.{name_eq-Decides}
use Rattle.zone_response.specs.declared.hashed_denials.HashedName.{HashedName}
use Rattle.zone_response.specs.HashedDenials.{hash_of}
use Rattle.zone_response.proofs.hashed_denials.known_or_hashed.Goals as goal

pub returns-then-same_name-clause-name : goal.returns-then-same_name-clause-name
returns-then-same_name-clause-name g c = (name_eq-Decides c.in-Some.known.name c.args.name).0 (sym c.same_name.ensures ∙ c.if-same_name.true)

pub returns-then-same_name-clause-owner : goal.returns-then-same_name-clause-owner
returns-then-same_name-clause-owner g c =
    let hash = hash_of g.H.Nsec3Hash.digest_of c.args.zone.now c.args.query in
    let known : hash c.in-Some.known.name ≡ Ok c.in-Some.known.owner = subst (λ (k : Option HashedName). IfSome k (λ h. hash h.name ≡ Ok h.owner)) c.in-Some.is c.requires in
    ap hash (sym (returns-then-same_name-clause-name g c)) ∙ known
