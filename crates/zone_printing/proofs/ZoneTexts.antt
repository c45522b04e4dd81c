-- Lines of the records of a zone
use Rattle.std.proofs.Common.{◌≡◌, ◌∷◌, ◌++◌, sym, ap, ◌∙◌}
use Rattle.std.specs.Prelude.{Option, Some, None}
use Rattle.zone_proto.specs.Sets.{RRset}
use Rattle.zone_proto.specs.declared.rr_key.RrKey.{RrKey}
use Rattle.zone_map.specs.Zones.{Sets, set_at}
use Rattle.zone_file_writer.specs.Printing.{lines_text}
use Rattle.zone_file_writer.proofs.SetTexts.{lines_of_both}
use Rattle.zone_printing.specs.ZoneRecords.{other_records, records_if, records_of, records_unless_at, zone_records}

module _ (k : RrKey) (m : Sets) where
  pub first_and_others : (s : RRset) → set_at m k.name k.record_type.0 ≡ Some s → lines_text (records_of s) ++ lines_text (other_records k m) ≡ lines_text (zone_records k m)
  first_and_others s is =
      lines_of_both (records_of s) (other_records k m)
      ∙ ap (λ (o : Option RRset). lines_text (records_if o ++ other_records k m)) (sym is)

  pub others_alone : set_at m k.name k.record_type.0 ≡ None → lines_text (other_records k m) ≡ lines_text (zone_records k m)
  others_alone none = ap (λ (o : Option RRset). lines_text (records_if o ++ other_records k m)) (sym none)

  -- the lines of the first of some sets, and those of the others
  pub first_of_others : (e : RrKey × RRset) → lines_text (other_records k (e ∷ m)) ≡ lines_text (records_unless_at k e) ++ lines_text (other_records k m)
  first_of_others e = sym (lines_of_both (records_unless_at k e) (other_records k m))
