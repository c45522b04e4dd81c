use Rattle.std.proofs.Common.{◌∙◌}
use Rattle.zone_proto.specs.declared.rdata.RData.TheVariants as V
use Rattle.zone_proto.specs.Types.{IN}
use Rattle.zone_denial.proofs.Sets.TypesJoined.{of_numbers}
use Rattle.hashed_changes.proofs.entries.record_by.Goals as goal

pub returns-clause-ok : goal.returns-clause-ok
returns-clause-ok c =
    let owner = c.from-name.ensures ∙ c.in_ok-clone-4.ensures.copy.ok in
    let salt = c.in_ok-clone.ensures.ok in
    let next = c.in_ok-clone-2.ensures.ok in
    let types = c.in_ok-clone-3.ensures.ok ∙ of_numbers c.args.link.now.types in
    c.from_rdata.ensures
    ∙ (λ i. record {
      name = owner i;
      dns_class = record { 0 = IN };
      ttl = c.args.ttl;
      rdata = V.NSEC3 (record {
        algorithm = c.args.parameters.now.algorithm;
        opt_out = c.args.parameters.now.opt_out;
        iterations = c.args.parameters.now.iterations;
        salt = salt i;
        next_hashed_owner_name = next i;
        types = types i;
      });
    })
