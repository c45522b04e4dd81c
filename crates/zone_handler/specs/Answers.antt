-- The records that an answer yields, in order
use Rattle.std.specs.Prelude.{◌≡◌, List, [], ◌∷◌, reverse}
use Rattle.std.specs.Slice.Iter.{iter_rest}
use Rattle.zone_proto.specs.declared.record.Record.{Record}
use Rattle.zone_proto.specs.Sets.{RRset}
use Rattle.lookup_types.specs.declared.lookup_options.LookupOptions.{LookupOptions}
use Rattle.zone_handler.specs.declared.lookup_records.LookupRecords.{LookupRecords}
use Rattle.zone_handler.specs.declared.lookup_records.LookupRecords.TheVariants as L
use Rattle.zone_handler.specs.declared.lookup_records_iter.LookupRecordsIter.{LookupRecordsIter}
use Rattle.zone_handler.specs.declared.lookup_records_iter.LookupRecordsIter.TheVariants as I
use Rattle.zone_handler.specs.Sets.{set_records, sets_records}

-- what a section of an answer lists: nothing; one set; several sets, which are stored from the last to the first; or
-- records as they are
abbrev pub records_in : LookupRecords → List Record
records_in L.Empty = []
records_in (L.Records options set) = set_records options set
records_in (L.ManyRecords options sets) = sets_records options (reverse sets.items)
records_in (L.Section records) = records.items

-- the sets that it keeps, in the order in which it lists their records; records as they are are of no set
abbrev pub sets_in : LookupRecords → List RRset
sets_in L.Empty = []
sets_in (L.Records options set) = set ∷ []
sets_in (L.ManyRecords options sets) = reverse sets.items
sets_in (L.Section records) = []

-- several sets as a section keeps them: from the last to the first
abbrev pub KeepsMany : LookupOptions → List RRset → LookupRecords → Type 0
KeepsMany options sets (L.ManyRecords kept_options kept) = (kept_options ≡ options) × (kept.items ≡ reverse sets)
KeepsMany options sets _ = ⊥

-- what an iterator over them has left
abbrev pub left_in : LookupRecordsIter → List Record
left_in I.Empty = []
left_in (I.RecordsIter records) = records
left_in (I.ManyRecordsIter records) = records
left_in (I.SliceIter records) = iter_rest records
