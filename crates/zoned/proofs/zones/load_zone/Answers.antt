use Rattle.zoned.proofs.ServedFiles.{made_alone}
use Rattle.zoned.proofs.zones.load_zone.Goals as goal

pub returns-in-Ok-clause-alone : goal.returns-in-Ok-clause-alone
returns-in-Ok-clause-alone g c = λ text left.
    made_alone c.args.wanted.now.origin text c.in_ok-records.field-0.records.items c.in_ok-loaded.loaded c.in-Ok.zone
    (c.in_ok-records.ensures.alone text left) c.in_ok-loaded.ensures c.in-Ok.ensures
