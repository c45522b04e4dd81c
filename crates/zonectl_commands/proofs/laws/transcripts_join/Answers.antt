use Rattle.zonectl_commands.proofs.TranscriptFacts.{transcripts_join}
use Rattle.zonectl_commands.proofs.laws.transcripts_join.Goals as goal

pub returns : goal.returns
returns g c = transcripts_join _ g.S.Session.carries
