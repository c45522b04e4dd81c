-- A zone that stays as it was keeps the circle of its denial sets
use Rattle.std.proofs.Common.{◌≡◌, sym, subst}
use Rattle.std.specs.Prelude.{Ok, Err}
use Rattle.zone_denial.specs.NsecLaws.{IsNsecZone}
use Rattle.zone_denial.specs.Nsec3Zones.{IsNsec3Zone}
use Rattle.zone_in_memory.specs.Handlers.{Zone}
use Rattle.zone_in_memory.specs.CircleLaws.{KeepsCircle, UntakenKeepsCircle, RefusedKeyKeepsCircle, RefusedSecuringKeepsCircle}

module _ {S H : Type 0} where
  unchanged_keeps : (old new : Zone S H) → new ≡ old → KeepsCircle S H old new
  unchanged_keeps old new same =
      record {
        nsec = subst (λ (zone : Zone S H). IsNsecZone zone.origin zone.inner.records) (sym same);
        nsec3 = λ hash parameters. subst (λ (zone : Zone S H). IsNsec3Zone zone.origin zone.inner.records hash parameters) (sym same);
      }

  pub untaken_keeps : UntakenKeepsCircle S H
  untaken_keeps old new r serial (Ok taken) is untaken = unchanged_keeps old new (is.untaken untaken)
  untaken_keeps old new r serial (Err error) is untaken = unchanged_keeps old new is.same

  pub refused_key_keeps : RefusedKeyKeepsCircle S H
  refused_key_keeps key_of old new signer (Ok done) is refused = absurd refused
  refused_key_keeps key_of old new signer (Err error) is refused = unchanged_keeps old new is.same

  pub refused_securing_keeps : RefusedSecuringKeepsCircle S H
  refused_securing_keeps signature_of digest_of old new now (Ok done) is refused = absurd refused
  refused_securing_keeps signature_of digest_of old new now (Err error) is refused = unchanged_keeps old new is.same
