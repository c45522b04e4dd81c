use Rattle.zone_tokens.proofs.NameFacts.{read_as_text}
use Rattle.zone_tokens.proofs.names.read_graphic.Goals as goal

pub returns : goal.returns
returns c = read_as_text c.args.word.now c.in-Ok.text.now c.parse.result c.in-Ok.ensures.cases.0 c.parse.ensures.ok c.parse.ensures.name c.parse.ensures.refusal
