use Rattle.zonectl_commands.proofs.TranscriptFacts.{no_command_changes_nothing}
use Rattle.zonectl_commands.proofs.laws.no_command_changes_nothing.Goals as goal

pub returns : goal.returns
returns g c = no_command_changes_nothing _ g.S.Session.carries
