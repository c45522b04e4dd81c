use Rattle.std.proofs.Common.{List, subst, sym, ◌∙◌}
use Rattle.zone_proto.specs.declared.rr_key.RrKey.{RrKey}
use Rattle.chain_changes.specs.Renewal.{HaveChanges}
use Rattle.chain_changes.proofs.Changes.{changes_told}
use Rattle.chain_changes.proofs.changed.changed_chain.Goals as goal

pub returns-clause-others : goal.returns-clause-others
returns-clause-others c = λ names old changed held n t off.
    let told = changes_told names old c.args.zone.now c.args.changed.now.before c.args.changed.now.after changed in
    let keys = c.as_slice.ensures.value ∙ c.in_ok-keys.ensures.ok in
    c.in_ok-renewal.ensures.others old (subst (λ (ks : List RrKey). HaveChanges ks old c.args.zone.now) (sym keys) told) held n t off
