use Rattle.std.proofs.Common.{refl}
use Rattle.zonectl_commands.proofs.CommandFacts.{other_word}
use Rattle.zonectl_commands.proofs.command.read_arguments.Goals as goal

pub returns-in_default-clause-refusal : goal.returns-in_default-clause-refusal
returns-in_default-clause-refusal c = λ _.
    let none = c.in_default in
    rw (
      other_word _ _ none.not-add,
      other_word _ _ none.not-drop,
      other_word _ _ none.not-kind,
      other_word _ _ none.not-key,
      other_word _ _ none.not-secure,
      other_word _ _ none.not-lookup,
      other_word _ _ none.not-deny,
      other_word _ _ none.not-circle,
      other_word _ _ none.not-transfer,
    ) refl
