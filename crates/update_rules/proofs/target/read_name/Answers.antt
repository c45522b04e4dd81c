use Rattle.update_rules.proofs.WordNames.{refused_word}
use Rattle.update_rules.proofs.target.read_name.Goals as goal

pub returns-in-Err : goal.returns-in-Err
returns-in-Err c =
    refused_word c.args.word.now c.in-Ok.text.now c.in-Err.error c.no_name.result c.in-Ok.ensures.cases.0 c.in-Err.ensures.refusal
    c.no_name.ensures.none c.no_name.ensures.fault
