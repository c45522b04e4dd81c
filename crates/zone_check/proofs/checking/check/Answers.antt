use Rattle.std.proofs.Common.{◌≡◌, Some, List, ℕ, subst}
use Rattle.zone_proto.specs.Names.{Name}
use Rattle.zone_file.specs.declared.placed.PlacedRecord.{PlacedRecord}
use Rattle.zone_texts.specs.Inclusions.{Files, records_of}
use Rattle.zone_texts.specs.Readings.{IsReadOf}
use Rattle.zone_check.proofs.Served.{zone_of_files, zone_of_reading}
use Rattle.zone_check.proofs.checking.check.Goals as goal

pub returns-in-Ok-read_files-clause-served : goal.returns-in-Ok-read_files-clause-served
returns-in-Ok-read_files-clause-served g c = λ none unprinted text left z file.
    c.check_reading.ensures.served none unprinted z
    (zone_of_reading c.args.wanted.now.origin text c.in-Ok-read_files.reading.records.items z
    (subst (λ (o : Name). IsReadOf o text c.in-Ok-read_files.reading.records.items) c.in-Ok.ensures.ok (c.in-Ok-read_files.ensures.alone text left)) file)

pub returns-in-Ok-read_files-clause-fit : goal.returns-in-Ok-read_files-clause-fit
returns-in-Ok-read_files-clause-fit g c = λ none unprinted text left.
    (c.in-Ok-read_files.reading.records.items, (subst (λ (o : Name). IsReadOf o text c.in-Ok-read_files.reading.records.items) c.in-Ok.ensures.ok (c.in-Ok-read_files.ensures.alone text left), c.check_reading.ensures.fit none unprinted))

pub returns-in-Ok-read_files-clause-served_files : goal.returns-in-Ok-read_files-clause-served_files
returns-in-Ok-read_files-clause-served_files g c = λ none unprinted text left files known same z file.
    c.check_reading.ensures.served none unprinted z
    (zone_of_files c.args.wanted.now.origin files c.args.wanted.now.file.now c.in-Ok-read_files.reading.records.items z
    (subst (λ (o : Name). records_of files o c.args.wanted.now.file.now ≡ Some c.in-Ok-read_files.reading.records.items) c.in-Ok.ensures.ok (c.in-Ok-read_files.ensures.included text left files known same (c.check_reading.ensures.faultless none))) file)

pub returns-in-Ok-read_files-clause-fit_files : goal.returns-in-Ok-read_files-clause-fit_files
returns-in-Ok-read_files-clause-fit_files g c = λ none unprinted text left files known same. (
  c.in-Ok-read_files.reading.records.items,
  (
    subst (λ (o : Name). records_of files o c.args.wanted.now.file.now ≡ Some c.in-Ok-read_files.reading.records.items) c.in-Ok.ensures.ok (c.in-Ok-read_files.ensures.included text left files known same (c.check_reading.ensures.faultless none)),
    c.check_reading.ensures.fit none unprinted,
  ),
)
