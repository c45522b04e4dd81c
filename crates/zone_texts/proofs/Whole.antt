-- The records of a file with those that it includes
use Rattle.std.proofs.Common.{◌≡◌, ℕ, ◌+◌, min, List, [], ◌++◌, Option, Some, refl, sym, ap, subst, ◌∙◌, arith}
use Rattle.std.specs.Prelude.{map, option_map, count_by, ◌==◌}
use Rattle.zone_proto.specs.Names.{Name}
use Rattle.zone_scanner.specs.Entries.{events_of}
use Rattle.zone_file.specs.declared.context.Context.{Context}
use Rattle.zone_file.specs.declared.placed.PlacedRecord.{PlacedRecord}
use Rattle.zone_file.specs.Zones.{Read, context_of, zone_of}
use Rattle.zone_texts.specs.Inclusions.{Files, Gathered, entries_read, file_read, gathered, most_lines, records_of, with_lines}
use Rattle.zone_texts.proofs.Alone.{alone}

-- what is read of its entries is read of the file
pub records_read : (files : Files) (origin : Name) (name text : List ℕ) (lines : ℕ) (g : Gathered)
    → files.text name ≡ text → lines ≡ min (count_by (λ b. b == 10) text + 1) most_lines
    → entries_read (file_read files 9) (files.beside name) 0 (events_of text) (gathered (context_of origin) [] lines) ≡ Some g
    → records_of files origin name ≡ Some g.records
unfolding file_read
records_read files origin name text lines g same counted is =
    let n : lines ≡ with_lines 0 text = omega (arith, counted) in
    rw (same, ← n) (ap (option_map (λ (x : Gathered). x.records)) is)

-- a file that is a zone file by itself has the records of its text
pub records_alone : (files : Files) (origin : Name) (name text : List ℕ) (records : List PlacedRecord)
    → files.text name ≡ text → zone_of origin text ≡ map Read records
    → records_of files origin name ≡ Some records
records_alone files origin name text records same is =
    let r = alone (file_read files 9) (files.beside name) (events_of text) (context_of origin) [] records (min (count_by (λ b. b == 10) text + 1) most_lines) is in
    records_read files origin name text (min (count_by (λ b. b == 10) text + 1) most_lines) r.behind same refl r.read ∙ ap (λ (rs : List PlacedRecord). Some rs) r.records
