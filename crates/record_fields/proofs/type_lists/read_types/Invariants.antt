use Rattle.std.proofs.Common.{◌≡◌, ◌++◌, drop, Ok}
use Rattle.record_fields.specs.Readings.{◌>>=◌}
use Rattle.record_fields.specs.TypeLists.{types_named}
use Rattle.record_fields.proofs.type_lists.read_types.Given as goal

abbrev pub invariant-loop-word : goal.invariant-loop-word
invariant-loop-word l = (types_named (drop l.word-index l.words) >>= λ more. Ok (l.types.items ++ more)) ≡ types_named l.words
