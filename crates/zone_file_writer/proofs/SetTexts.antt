-- Lines of the records of a set, and of its signatures
use Rattle.std.proofs.Common.{◌≡◌, List, [], ◌∷◌, ◌++◌, sym}
use Rattle.std.proofs.lemmas.Grind.{flat_map-append}
use Rattle.zone_proto.specs.declared.record.Record.{Record}
use Rattle.zone_file_writer.specs.Printing.{lines_text, master_text}

pub lines_of_both : (rs ss : List Record) → lines_text rs ++ lines_text ss ≡ lines_text (rs ++ ss)
lines_of_both rs ss = sym (flat_map-append (λ (r : Record). master_text r ++ 10 ∷ []) rs ss)
