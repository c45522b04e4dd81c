use Rattle.std.proofs.Common.{sym, subst}
use Rattle.zone_denial.specs.Nsec3Zones.{hash_with}
use Rattle.hashed_changes.specs.Faults.{WereNever}
use Rattle.hashed_changes.specs.Places.{AreInOrder}
use Rattle.hashed_changes.proofs.Closed.{passed_on, were_never}
use Rattle.hashed_changes.proofs.HashesMade.{are_names, others_made, owners_renewed, sets_made}
use Rattle.hashed_changes.proofs.hashes.renewed_hashes.Goals as goal

pub renewals-requires : goal.renewals-requires
renewals-requires g c = subst AreInOrder (sym c.as_slice-2.ensures.value) c.in_ok-affected.ensures.order

pub returns-clause-owners : goal.returns-clause-owners
returns-clause-owners g c =
    owners_renewed c.args.origin.now c.args.zone.now (hash_with (g.H.Nsec3Hash.digest_of c.args.hash.now) c.args.parameters.now) c.args.parameters.now.opt_out
    c.in_ok-names.names.items c.as_slice.result.now c.in_ok-affected.affected.items c.as_slice-2.result.now c.as_slice.ensures.value c.as_slice-2.ensures.value c.in_ok-affected.ensures.places
    c.in_ok-made.made.items c.as_slice-4.result.now c.in_ok-owners.owners.items c.as_slice-4.ensures.value c.in_ok-owners.ensures.ok c.in_ok-made.ensures.owners

pub returns-clause-sets : goal.returns-clause-sets
returns-clause-sets g c = λ old st o t.
    sets_made c.args.origin.now old c.args.zone.now c.args.keys.now c.in_ok-names.names.items (hash_with (g.H.Nsec3Hash.digest_of c.args.hash.now) c.args.parameters.now) c.args.parameters.now c.args.ttl c.args.serial
    c.as_slice-2.result.now c.in_ok-made.made.items c.as_slice-3.result.now c.as_slice-4.result.now c.in_ok-entries.entries.items c.in_ok-owners.owners.items st
    (are_names c.args.origin.now c.args.zone.now (hash_with (g.H.Nsec3Hash.digest_of c.args.hash.now) c.args.parameters.now) c.args.parameters.now.opt_out
    c.in_ok-names.names.items c.as_slice.result.now c.in_ok-affected.affected.items c.as_slice-2.result.now c.as_slice.ensures.value c.as_slice-2.ensures.value c.in_ok-affected.ensures.places)
    c.in_ok-made.ensures.right c.as_slice-3.ensures.value c.in_ok-entries.ensures.ok c.as_slice-4.ensures.value c.in_ok-owners.ensures.ok o t _ _ (c.in_ok-untrimmed.ensures.ok o t) (c.in_ok-sets.ensures.ok o t)

pub returns-clause-others : goal.returns-clause-others
returns-clause-others g c = λ o t none.
    others_made c.args.parameters.now c.args.ttl c.args.serial c.in_ok-made.made.items c.as_slice-3.result.now c.as_slice-4.result.now c.in_ok-entries.entries.items c.in_ok-owners.owners.items
    c.as_slice-3.ensures.value c.in_ok-entries.ensures.ok c.as_slice-4.ensures.value c.in_ok-owners.ensures.ok o t _ _ (c.in_ok-untrimmed.ensures.ok o t) (c.in_ok-sets.ensures.ok o t) none

pub returns-in_err-made-clause-unclosed : goal.returns-in_err-made-clause-unclosed
returns-in_err-made-clause-unclosed g c =
    passed_on c.from_residual-in_err-made.result _ (WereNever c.args.origin.now c.args.zone.now c.args.keys.now (hash_with (g.H.Nsec3Hash.digest_of c.args.hash.now) c.args.parameters.now) c.args.parameters.now)
    c.from_residual-in_err-made.ensures.1
    (λ e.
    were_never c.args.origin.now c.args.zone.now c.args.keys.now c.in_ok-names.names.items (hash_with (g.H.Nsec3Hash.digest_of c.args.hash.now) c.args.parameters.now) c.args.parameters.now
    c.as_slice-2.result.now c.in_ok-names.ensures.names
    (are_names c.args.origin.now c.args.zone.now (hash_with (g.H.Nsec3Hash.digest_of c.args.hash.now) c.args.parameters.now) c.args.parameters.now.opt_out
    c.in_ok-names.names.items c.as_slice.result.now c.in_ok-affected.affected.items c.as_slice-2.result.now c.as_slice.ensures.value c.as_slice-2.ensures.value c.in_ok-affected.ensures.places)
    (c.in_err-made.ensures.unclosed e))
