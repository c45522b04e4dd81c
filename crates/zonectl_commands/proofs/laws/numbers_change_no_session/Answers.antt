use Rattle.zonectl_commands.proofs.TranscriptFacts.{numbers_change_no_session}
use Rattle.zonectl_commands.proofs.laws.numbers_change_no_session.Goals as goal

pub returns : goal.returns
returns g c = numbers_change_no_session _ g.S.Session.carries
