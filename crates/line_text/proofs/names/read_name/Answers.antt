use Rattle.line_text.proofs.ReadingFacts.{refused_name}
use Rattle.line_text.proofs.names.read_name.Goals as goal

pub returns-in-Err : goal.returns-in-Err
returns-in-Err c = record {
  ok = tt;
  refusal = λ e. refused_name c.args.words.now c.take_needed.new.self c.in_ok-word.word.now c.in-Ok.text.now c.in-Err.error c.from.result
      c.in_ok-word.ensures.ok c.in-Ok.ensures.cases.0 c.from.ensures c.in-Err.ensures.refusal e;
}
