-- What the calls of a zone say that insert a record into it
use Rattle.std.specs.Prelude.{◌≡◌, ℕ, Bool, false, IfOk, OnOk, OnErr, IsOkUnless, is_some, Result, unwrap_or}
use Rattle.zone_proto.specs.declared.record.Record.{Record}
use Rattle.zone_map.specs.Upserts.{upserted, CnamesStandAlone}
use Rattle.zone_lookup.specs.declared.zone_error.ZoneError.{ZoneError}
use Rattle.zone_lookup.specs.declared.zone_error.ZoneError.TheVariants as error
use Rattle.zone_in_memory.specs.Handlers.{Zone}

-- of the zone before, a record and a serial, the answer, and the zone after: the answer says whether the record was
-- taken; all but the zone's sets stays, and where the record isn't taken, or there isn't enough memory, they stay too;
-- and CNAMEs that were alone still do
pub record IsUpsert {S H : Type 0} (old : Zone S H) (r : Record) (serial : ℕ) (result : Result Bool ZoneError) (new : Zone S H) : Type 0 where
  pub answer : IfOk result (λ taken. taken ≡ is_some (upserted old.inner.records old.class r serial))
  pub after : OnOk result (new ≡ record old { inner = record old.inner { records = unwrap_or (upserted old.inner.records old.class r serial) old.inner.records } })
  pub untaken : IfOk result (λ taken. taken ≡ false → new ≡ old)
  pub cnames : CnamesStandAlone old.inner.records → CnamesStandAlone new.inner.records
  pub err : IsOkUnless result error.Memory
  pub same : OnErr result (new ≡ old)
