-- The sets that a zone gets are those that are defined
use Rattle.std.proofs.Common.{◌≡◌, ℕ, List, [], refl, sym, ap, ◌∙◌}
use Rattle.std.specs.Prelude.{Option, Some, None, filter, option_and_then, unwrap_or}
use Rattle.std.specs.Map.{lookup}
use Rattle.std.specs.Option.{option_map_or}
use Rattle.zone_proto.specs.declared.rr_key.RrKey.{RrKey}
use Rattle.zone_proto.specs.Keys.{key, key_eq}
use Rattle.zone_proto.specs.Names.{Name}
use Rattle.zone_proto.specs.Sets.{RRset, first_serial}
use Rattle.zone_proto.specs.Types.{SOA}
use Rattle.zone_builder.specs.declared.given.GivenRecord.{GivenRecord}
use Rattle.zone_builder.specs.declared.groups.Group.{Group}
use Rattle.zone_builder.specs.Groups.{Groups, records_in, signatures_in}
use Rattle.zone_builder.specs.Records.{is_data_of, is_signature_of, given_at, signing_at, records_of}
use Rattle.zone_builder.specs.Sets.{signed_set_of, set_in, loaded_serial, loaded_set}

set_under : (serial : ℕ) (o : Option Group) → option_and_then (set_in serial) o
    ≡ signed_set_of serial (option_map_or (λ (g : Group). g.records.items) o []) (option_map_or (λ (g : Group). g.signatures.items) o [])
set_under serial None = refl
set_under serial (Some g) = refl

module _ (origin : Name) (gs : List GivenRecord) (groups : Groups)
    (own : (k : RrKey) → records_in groups k ≡ filter (is_data_of origin k) gs) (signing : (k : RrKey) → signatures_in groups k ≡ filter (is_signature_of origin k) gs) where
  -- the SOA of the groups is that of the records
  pub first_of_zone : (o : Option ℕ) → first_serial (records_of (records_in groups (key origin SOA))) ≡ o → first_serial (records_of (given_at origin gs origin SOA)) ≡ o
  first_of_zone o first = sym (ap (λ xs. first_serial (records_of xs)) (own (key origin SOA))) ∙ first

  module _ (serial : ℕ) (first : first_serial (records_of (records_in groups (key origin SOA))) ≡ Some serial) where
    serial_of_zone : serial ≡ loaded_serial origin gs
    serial_of_zone = sym (ap (λ o. unwrap_or o 0) (first_of_zone (Some serial) first))

    pub is_loaded : (found : Option RRset) (n : Name) (t : ℕ) → found ≡ option_and_then (set_in serial) (lookup (key_eq (key n t)) groups) → found ≡ loaded_set origin gs n t
    is_loaded found n t h =
        h ∙ set_under serial (lookup (key_eq (key n t)) groups)
        ∙ ap (λ xs. signed_set_of serial xs (signatures_in groups (key n t))) (own (key n t))
        ∙ ap (λ xs. signed_set_of serial (given_at origin gs n t) xs) (signing (key n t))
        ∙ ap (λ x. signed_set_of x (given_at origin gs n t) (signing_at origin gs n t)) serial_of_zone
