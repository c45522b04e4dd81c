use Rattle.zone_journal.proofs.Growing.{journals_grow}
use Rattle.zone_journal.proofs.Leading.{cut_journals_lead, journals_lead, torn_journals_lead}
use Rattle.zone_journal.proofs.Shortened.{journals_shorten}
use Rattle.zone_journal.proofs.laws.journals_lead.Goals as goal

pub returns-clause-grown : goal.returns-clause-grown
returns-clause-grown c = journals_grow

pub returns-clause-whole : goal.returns-clause-whole
returns-clause-whole c = journals_lead

pub returns-clause-cut : goal.returns-clause-cut
returns-clause-cut c = cut_journals_lead

pub returns-clause-torn : goal.returns-clause-torn
returns-clause-torn c = torn_journals_lead

pub returns-clause-shorter : goal.returns-clause-shorter
returns-clause-shorter c = journals_shorten
