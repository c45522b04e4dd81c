-- Which set of a zone a record is of
use Rattle.std.specs.Prelude.{ℕ, Bool, true, false, ◌&&◌, not, List, map, filter}
use Rattle.zone_proto.specs.declared.rdata.RData.{RData}
use Rattle.zone_proto.specs.declared.rdata.RData.TheVariants as V
use Rattle.zone_proto.specs.declared.record.Record.{Record}
use Rattle.zone_proto.specs.declared.rr_key.RrKey.{RrKey}
use Rattle.zone_proto.specs.Data.{type_of}
use Rattle.zone_proto.specs.Keys.{key, key_eq}
use Rattle.zone_proto.specs.Names.{Name, lower, is_at_or_above}
use Rattle.zone_builder.specs.declared.given.GivenRecord.{GivenRecord}

-- data are a signature (RFC 4034 section 3)
abbrev pub is_signature : RData → Bool
is_signature (V.RRSIG a) = true
is_signature _ = false

-- the type of the set that a record of these data is of: its own, and of a signature the type that it covers (RFC 4034 section 3.1.1)
abbrev pub set_type : RData → ℕ
set_type (V.RRSIG a) = a.type_covered.0
set_type d = type_of d

-- the key of that set
abbrev pub set_key : Record → RrKey
set_key r = key (lower r.name) (set_type r.rdata)

module _ (origin : Name) (k : RrKey) (g : GivenRecord) where
  -- a record is of the set under a key, or covers it, and is at or below the origin
  unfoldable pub is_of_set : Bool
  is_of_set = is_at_or_above origin (lower g.record.name) && key_eq (set_key g.record) k

  -- as one of its records
  unfoldable pub is_data_of : Bool
  is_data_of = not (is_signature g.record.rdata) && is_of_set

  -- as a signature of it
  unfoldable pub is_signature_of : Bool
  is_signature_of = is_signature g.record.rdata && is_of_set

-- the records that are given
abbrev pub records_of : List GivenRecord → List Record
records_of gs = map (λ (g : GivenRecord). g.record) gs

module _ (origin : Name) (gs : List GivenRecord) (n : Name) (t : ℕ) where
  -- the records that are given of an owner at or below the origin and a type, in order
  abbrev pub given_at : List GivenRecord
  given_at = filter (is_data_of origin (key n t)) gs

  -- the signatures that are given of that set, in order
  abbrev pub signing_at : List GivenRecord
  signing_at = filter (is_signature_of origin (key n t)) gs
