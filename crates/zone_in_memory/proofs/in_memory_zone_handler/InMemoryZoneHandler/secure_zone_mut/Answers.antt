use Rattle.std.proofs.Common.{◌≡◌, ◌⊎◌, subst}
use Rattle.zone_in_memory.specs.Handlers.{Zone}
use Rattle.std.specs.Prelude.{Option, Some, None, IfErr, OnOk}
use Rattle.zone_proto.specs.declared.nx_proof_kind.NxProofKind.{NxProofKind}
use Rattle.lookup_types.specs.declared.secure_error.SecureError.TheVariants as error
use Rattle.zone_signing.specs.Secured.{IsSecured}
use Rattle.zone_lookup.specs.Securing.{denied_by, with_denials, denial_fault}
use Rattle.zone_in_memory.specs.Signing.{IsSecuring}
use Rattle.zone_in_memory.proofs.SecuredZones.{IsSecuring-made}
use Rattle.zone_in_memory.proofs.in_memory_zone_handler.InMemoryZoneHandler.secure_zone_mut.Goals as goal

pub invariant_of-self : goal.invariant_of-self
invariant_of-self g c =
    record {
      origin = c.self.invariant.origin;
      soa = c.self.invariant.soa;
      internet = c.self.invariant.internet;
      sets = c.secure.ensures.zone;
    }

pub returns : goal.returns
returns g c =
    let zone : Zone g.row.S.Denot g.row.H.Denot = record {
      origin = c.self.inside.apex.name;
      class = c.self.inside.class.0;
      zone_type = c.self.inside.zone_type;
      axfr_policy = c.self.inside.axfr_policy;
      kind = c.self.inside.nx_proof_kind;
      inner = c.self.inside.inner;
      hash = c.self.inside.hash;
    } in
    let digest_of = g.H.Nsec3Hash.digest_of in
    let with_kind = λ (k : Option NxProofKind). with_denials (digest_of zone.hash) zone.origin zone.inner.records (denied_by k zone.inner.signers) in
    let fault_of_kind = λ (k : Option NxProofKind). denial_fault (digest_of zone.hash) zone.origin zone.inner.records (denied_by k zone.inner.signers) in
    subst (λ old. IsSecuring g.S.Signer.signature_of digest_of old c.args.now c.secure.result (record zone { inner = c.secure.new.self })) c.self.view_is
    (IsSecuring-made g.S.Signer.signature_of digest_of zone c.args.now c.secure.new.self c.secure.result c.if-now-gt-LAST_MOMENT.false c.self.invariant.origin c.self.invariant.sets c.secure.ensures.zone
    (subst (λ k. OnOk c.secure.result (IsSecured g.S.Signer.signature_of c.args.now zone.origin zone.inner.signers (with_kind k) c.secure.new.self.records)) c.as_ref.ensures.value c.secure.ensures.ok)
    (subst (λ k. OnOk c.secure.result (fault_of_kind k ≡ None)) c.as_ref.ensures.value c.secure.ensures.fits) c.secure.ensures.signers
    (subst (λ k. IfErr c.secure.result (λ e. (e ≡ error.Memory) ⊎ (fault_of_kind k ≡ Some e))) c.as_ref.ensures.value c.secure.ensures.err) c.secure.ensures.same)
