use Rattle.std.proofs.Common.{◌≡◌, ◌≤◌, ◌+◌, ◌⊎◌, List, true, false, length, ap, ◌∙◌, subst}
use Rattle.std.specs.Prelude.{IfOk, IfErr, OnOk}
use Rattle.zone_proto.specs.Names.{Name}
use Rattle.zone_proto.specs.Sets.{RRset}
use Rattle.lookup_types.specs.declared.lookup_error.LookupError.TheVariants.{Memory}
use Rattle.zone_response.specs.Queries.{zone_of}
use Rattle.zone_response.specs.Responses.{ds_at, authority_sets_with, hashed_with, lacks_proofs_with}
use Rattle.zone_response.specs.Sections.{sent_sets}
use Rattle.zone_response.specs.Steps.{end_of}
use Rattle.zone_response.proofs.UnsentSets.{unsent_ds, unhashed_ds, unproved_ds}
use Rattle.zone_response.proofs.sections.authorities.Goals as goal

pub returns-clause-ok : goal.returns-clause-ok
returns-clause-ok g c =
    let z = zone_of g.S.Signer.signature_of g.H.Nsec3Hash.digest_of c.args.zone.now in
    let e = end_of c.args.end.now in
    subst (λ (sets : List RRset). IfOk c.authorities_with.result (λ list. sent_sets list ≡ sets))
    (ap (λ ds. authority_sets_with z ds c.args.signed c.args.soa.now c.args.made.now e) c.in_ok-ds.ensures.ok
    ∙ unsent_ds z (ds_at z.sets e) c.args.made.now e c.args.signed c.args.soa.now)
    c.authorities_with.ensures.ok

pub returns-clause-provable : goal.returns-clause-provable
returns-clause-provable g c =
    let z = zone_of g.S.Signer.signature_of g.H.Nsec3Hash.digest_of c.args.zone.now in
    let e = end_of c.args.end.now in
    subst (λ b. OnOk c.authorities_with.result (b ≡ false))
    (ap (λ ds. lacks_proofs_with z ds c.args.signed c.args.made.now e) c.in_ok-ds.ensures.ok ∙ unproved_ds z (ds_at z.sets e) c.args.made.now e c.args.signed)
    c.authorities_with.ensures.provable

pub returns-clause-counted : goal.returns-clause-counted
returns-clause-counted g c =
    let z = zone_of g.S.Signer.signature_of g.H.Nsec3Hash.digest_of c.args.zone.now in
    let e = end_of c.args.end.now in
    subst (λ (names : List Name). c.authorities_with.new.hashes ≤ c.args.hashes.now + length names)
    (ap (λ ds. hashed_with z ds c.args.signed c.args.made.now e) c.in_ok-ds.ensures.ok ∙ unhashed_ds z (ds_at z.sets e) c.args.made.now e c.args.signed)
    c.authorities_with.ensures.counted

pub returns-clause-err : goal.returns-clause-err
returns-clause-err g c =
    let z = zone_of g.S.Signer.signature_of g.H.Nsec3Hash.digest_of c.args.zone.now in
    let e = end_of c.args.end.now in
    subst (λ b. IfErr c.authorities_with.result (λ e. (e ≡ Memory) ⊎ (b ≡ true)))
    (ap (λ ds. lacks_proofs_with z ds c.args.signed c.args.made.now e) c.in_ok-ds.ensures.ok ∙ unproved_ds z (ds_at z.sets e) c.args.made.now e c.args.signed)
    c.authorities_with.ensures.err
