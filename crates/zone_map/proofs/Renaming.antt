-- A signature of a wildcard's set under the queried name
use Rattle.std.proofs.Common.{◌≡◌, Bool, true, false, cond, refl}
use Rattle.zone_proto.specs.declared.record.Record.{Record}
use Rattle.zone_proto.specs.Names.{Name, same_name}
use Rattle.zone_map.specs.Wildcards.{renamed_signature}

-- it keeps its data
pub renamed_data : (wildcard_name n : Name) (r : Record) → (renamed_signature wildcard_name n r).rdata ≡ r.rdata
renamed_data wildcard_name n r = by (same_name r.name wildcard_name) where
  by : (b : Bool) → (cond b (record r { name = n }) r).rdata ≡ r.rdata
  by true = refl
  by false = refl
