-- What keeps the denial sets of a zone a closed circle
use Rattle.std.specs.Prelude.{◌≡◌, ℕ, Bool, false, List, Option, Result, MatchResult}
use Rattle.zone_proto.specs.declared.rdata.denial.NSEC3PARAM.{NSEC3PARAM as Nsec3Parameters}
use Rattle.zone_proto.specs.declared.rdata.signing.DNSKEY.{DNSKEY}
use Rattle.zone_proto.specs.declared.rdata.signing.RRSIG.{RRSIG}
use Rattle.zone_proto.specs.declared.record.Record.{Record}
use Rattle.zone_proto.specs.Names.{Name}
use Rattle.zone_proto.specs.Signing.{SignedPart}
use Rattle.zone_handler.specs.declared.key_error.KeyError.{KeyError}
use Rattle.lookup_types.specs.declared.secure_error.SecureError.{SecureError}
use Rattle.zone_denial.specs.NsecLaws.{IsNsecZone}
use Rattle.zone_denial.specs.Nsec3Zones.{IsNsec3Zone}
use Rattle.zone_lookup.specs.declared.zone_error.ZoneError.{ZoneError}
use Rattle.zone_in_memory.specs.Handlers.{Zone}
use Rattle.zone_in_memory.specs.Insertions.{IsUpsert}
use Rattle.zone_in_memory.specs.Signing.{IsKeyAdded, IsSecuring}

-- the answer is a refusal
abbrev pub IsRefused : {A E : Type 0} → Result A E → Type 0
IsRefused result = MatchResult result (λ _. ⊥) (λ _. Unit {0})

module _ (S H : Type 0) where
  -- where the NSEC sets of a zone are a circle with the origin on it, or its NSEC3 sets are one by a hash and parameters, they still are in the zone after
  pub record KeepsCircle (old new : Zone S H) : Type 0 where
    pub nsec : IsNsecZone old.origin old.inner.records → IsNsecZone new.origin new.inner.records
    pub nsec3 : (hash : Name → Option (List ℕ)) (parameters : Nsec3Parameters) → IsNsec3Zone old.origin old.inner.records hash parameters → IsNsec3Zone new.origin new.inner.records hash parameters

  -- so it is after an insertion that is answered by false, or refused
  abbrev pub UntakenKeepsCircle : Type 0
  UntakenKeepsCircle = (old new : Zone S H) (r : Record) (serial : ℕ) (result : Result Bool ZoneError) → IsUpsert old r serial result new
      → MatchResult result (λ taken. taken ≡ false) (λ _. Unit {0}) → KeepsCircle old new

  -- and where a signer isn't added, or a zone isn't secured
  abbrev pub RefusedKeyKeepsCircle : Type 0
  RefusedKeyKeepsCircle = (key_of : S → Option DNSKEY) (old new : Zone S H) (signer : S) (result : Result (Unit {0}) KeyError) → IsKeyAdded key_of old signer result new
      → IsRefused result → KeepsCircle old new

  abbrev pub RefusedSecuringKeepsCircle : Type 0
  RefusedSecuringKeepsCircle = (signature_of : S → SignedPart → ℕ → ℕ → Option RRSIG) (digest_of : H → ℕ → List ℕ → Name → ℕ → Option (List ℕ)) (old new : Zone S H) (now : ℕ) (result : Result (Unit {0}) SecureError)
      → IsSecuring signature_of digest_of old now result new → IsRefused result → KeepsCircle old new
