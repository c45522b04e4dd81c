use Rattle.std.proofs.Common.{sym, ap, ◌∙◌}
use Rattle.std.specs.Prelude.{option_copied}
use Rattle.zone_proto.specs.HashedOwners.{hashed_owner}
use Rattle.denial_validation.specs.Nsec3Proofs.{goes_over, covers_owner}
use Rattle.denial_validation.proofs.nsec3_response.Nsec3Response.covers_owner.Goals as goal

pub returns-in_ok-next-in-Some-clause-ok : goal.returns-in_ok-next-in-Some-clause-ok
returns-in_ok-next-in-Some-clause-ok g c =
    let next = c.name-in-Some.ensures ∙ c.in_ok-next-in-Some.ensures.ok ∙ (λ i. hashed_owner ((c.self.view_is i).apex) (c.next.ensures i)) in
    c.is_between.ensures
    ∙ (λ i. goes_over (c.owner.ensures i) (next i) (c.name.ensures i))
    ∙ ap (λ h. covers_owner c.args.self.now.apex c.args.nsec3.now (option_copied h)) (sym c.in-Some.is)
