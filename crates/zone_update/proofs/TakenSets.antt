-- A set keeps its owner and its type, whatever it is to take
use Rattle.std.proofs.Common.{◌≡◌, ℕ, Bool, true, false, refl}
use Rattle.std.specs.Prelude.{if◌then◌else◌, nat_lt, Option, Some, None, unwrap_or}
use Rattle.zone_proto.specs.declared.record.Record.{Record}
use Rattle.zone_proto.specs.declared.rdata.RData.{RData}
use Rattle.zone_proto.specs.declared.rdata.RData.TheVariants as V
use Rattle.zone_proto.specs.Sets.{RRset, inserted_by, soa_inserted, first_serial, stores, replaced, appended}
use Rattle.zone_update.specs.Processing.{with_taken}

abbrev IsKept : RRset → RRset → Type 0
IsKept s w = (w.owner ≡ s.owner) × (w.record_type ≡ s.record_type)

module _ (s : RRset) (r : Record) (serial : ℕ) where
  of_newer : (b : Bool) → IsKept s (unwrap_or (if b then Some (replaced s r serial) else None) s)
  of_newer true = (refl, refl)
  of_newer false = (refl, refl)

  of_soa : (o : Option ℕ) (new : ℕ) → IsKept s (unwrap_or (soa_inserted o new s r serial) s)
  of_soa None new = (refl, refl)
  of_soa (Some old) new = of_newer (nat_lt old new)

  of_other : (b : Bool) → IsKept s (unwrap_or (if b then None else Some (appended s r serial)) s)
  of_other true = (refl, refl)
  of_other false = (refl, refl)

  of_data : (d : RData) → IsKept s (unwrap_or (inserted_by d s r serial) s)
  of_data (V.SOA a) = of_soa (first_serial s.records) a.serial
  of_data (V.CNAME a) = (refl, refl)
  of_data (V.ANAME a) = (refl, refl)
  of_data d = of_other (stores s.records d)

  pub keeps : IsKept s (with_taken serial s r)
  keeps = of_data r.rdata
