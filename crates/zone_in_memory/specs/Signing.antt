-- What the calls say that add a signer to a zone, and that secure it
use Rattle.std.specs.Prelude.{◌≡◌, ◌≢◌, ◌⊎◌, IsTrue, ℕ, ◌<◌, List, [], ◌∷◌, ◌++◌, Option, Some, None, option_map, IfErr, OnOk, OnErr, Result, Err, unwrap_or}
use Rattle.zone_proto.specs.declared.nx_proof_kind.NxProofKind.TheVariants as kind
use Rattle.zone_proto.specs.declared.rdata.RData.TheVariants as V
use Rattle.zone_proto.specs.declared.rdata.denial.NSEC3PARAM.{NSEC3PARAM as Nsec3Parameters}
use Rattle.zone_proto.specs.declared.rdata.signing.DNSKEY.{DNSKEY}
use Rattle.zone_proto.specs.declared.rdata.signing.RRSIG.{RRSIG}
use Rattle.zone_proto.specs.declared.record.Record.{Record}
use Rattle.zone_proto.specs.Names.{Name}
use Rattle.zone_proto.specs.Signing.{SignedPart}
use Rattle.zone_proto.specs.Stepping.{stepped_soa}
use Rattle.zone_proto.specs.Types.{IN, NSEC}
use Rattle.zone_handler.specs.declared.key_error.KeyError.{KeyError}
use Rattle.zone_handler.specs.declared.key_error.KeyError.TheVariants as key_error
use Rattle.lookup_types.specs.declared.secure_error.SecureError.{SecureError}
use Rattle.lookup_types.specs.declared.secure_error.SecureError.TheVariants as secure_error
use Rattle.zone_map.specs.Upserts.{upserted, CnamesStandAlone}
use Rattle.zone_denial.specs.Authority.{owns_besides}
use Rattle.zone_denial.specs.NsecLaws.{IsNsecZone}
use Rattle.zone_denial.specs.Nsec3Zones.{hash_with, IsCircleName, IsNsec3Zone, HasDistinctDigests}
use Rattle.zone_signing.specs.Secured.{IsSecured, KeepsRecords}
use Rattle.zone_signing.specs.Signatures.{last_moment}
use Rattle.zone_lookup.specs.Securing.{denied_by, nsec3_kind, denial_fault, to_be_signed}
use Rattle.zone_lookup.specs.StartOfAuthority.{soa, serial, minimum}
use Rattle.zone_in_memory.specs.Handlers.{Zone}

module _ {S H : Type 0} where
  -- a zone that gets a circle of NSEC sets when it is secured: one of kind NSEC, with a signer, whose origin owns another set than NSEC, as its SOA, and so is on the circle
  pub record IsToBeDenied (zone : Zone S H) : Type 0 where
    pub made : denied_by zone.kind zone.inner.signers ≡ Some kind.Nsec
    pub origin : IsTrue (owns_besides zone.inner.records NSEC zone.origin)

  -- a zone that gets a circle of NSEC3 sets with these parameters when it is secured: one of this kind, with a signer, whose origin isn't the root, and whose hash tells the names of the circle apart
  pub record IsToBeHashed (digest_of : H → ℕ → List ℕ → Name → ℕ → Option (List ℕ)) (zone : Zone S H) (parameters : Nsec3Parameters) : Type 0 where
    pub made : denied_by zone.kind zone.inner.signers ≡ Some (nsec3_kind parameters)
    pub below_root : zone.origin ≢ []
    pub apart : HasDistinctDigests (IsCircleName zone.origin zone.inner.records parameters.opt_out) (hash_with (digest_of zone.hash) parameters)

  -- a signer's key as a record (RFC 4034 section 2): at the zone's origin, of class IN, with the zone's minimum as its TTL
  abbrev pub key_record : Zone S H → DNSKEY → Record
  key_record zone key = record { name = zone.origin; dns_class = record { 0 = IN }; ttl = minimum zone.inner.records zone.origin; rdata = V.DNSKEY key }

  -- a zone to which a signer with this key was added: the record of the key is inserted with the zone's serial, unless it isn't taken, as when it is there; and the signer comes after the others
  abbrev pub with_key : Zone S H → S → DNSKEY → Zone S H
  with_key zone signer key = record zone {
    inner = record {
      records = unwrap_or (upserted zone.inner.records zone.class (key_record zone key) (serial zone.inner.records zone.origin)) zone.inner.records;
      signers = zone.inner.signers ++ signer ∷ [];
    };
  }

  -- of the zone before, a signer, the answer, and the zone after: what the signer's key is decides, and where the
  -- signer has none, or there isn't enough memory, the zone is as it was; CNAMEs that were alone still do
  pub record IsKeyAdded {A : Type 0} (key_of : S → Option DNSKEY) (old : Zone S H) (signer : S) (result : Result A KeyError) (new : Zone S H) : Type 0 where
    pub ok : OnOk result ((key : DNSKEY) × (key_of signer ≡ Some key) × (new ≡ with_key old signer key))
    pub cnames : CnamesStandAlone old.inner.records → CnamesStandAlone new.inner.records
    pub err : IfErr result (λ error. (error ≡ key_error.Memory) ⊎ ((error ≡ key_error.NoKey) × (key_of signer ≡ None)))
    pub same : OnErr result (new ≡ old)

  -- of the zone before, the moment, the answer, and the zone after: its sets are secured, so that denials and
  -- signatures aside the records are as before and the SOA has the next serial; where NSEC or NSEC3 is to deny, its
  -- denial sets are a closed circle through exactly the names that they are to have; all else of the zone stays; a
  -- moment past the year 9999 is refused, then what keeps a zone from getting NSEC3 sets, and else there may be no
  -- memory; after a refusal the zone is as it was; CNAMEs that were alone still do
  pub record IsSecuring {A : Type 0} (signature_of : S → SignedPart → ℕ → ℕ → Option RRSIG) (digest_of : H → ℕ → List ℕ → Name → ℕ → Option (List ℕ)) (old : Zone S H) (now : ℕ) (result : Result A SecureError) (new : Zone S H) : Type 0 where
    pub secured : OnOk result (IsSecured signature_of now old.origin old.inner.signers (to_be_signed (digest_of old.hash) old.origin old.inner.records old.kind old.inner.signers) new.inner.records)
    pub records : OnOk result (KeepsRecords old.origin (to_be_signed (digest_of old.hash) old.origin old.inner.records old.kind old.inner.signers) new.inner.records)
    pub circle : OnOk result (IsToBeDenied old → IsNsecZone new.origin new.inner.records)
    pub hashed_circle : OnOk result ((parameters : Nsec3Parameters) → IsToBeHashed digest_of old parameters → IsNsec3Zone new.origin new.inner.records (hash_with (digest_of new.hash) parameters) parameters)
    pub serial : OnOk result (soa new.inner.records old.origin ≡ option_map stepped_soa (soa old.inner.records old.origin))
    pub rest : new ≡ record old { inner = record old.inner { records = new.inner.records } }
    pub cnames : CnamesStandAlone old.inner.records → CnamesStandAlone new.inner.records
    pub late : last_moment < now → result ≡ Err secure_error.TimeOutOfRange
    pub fits : OnOk result (denial_fault (digest_of old.hash) old.origin old.inner.records (denied_by old.kind old.inner.signers) ≡ None)
    pub err : IfErr result (λ error. (error ≡ secure_error.Memory) ⊎ (((error ≡ secure_error.TimeOutOfRange) × (last_moment < now)) ⊎ (denial_fault (digest_of old.hash) old.origin old.inner.records (denied_by old.kind old.inner.signers) ≡ Some error)))
    pub same : OnErr result (new ≡ old)
