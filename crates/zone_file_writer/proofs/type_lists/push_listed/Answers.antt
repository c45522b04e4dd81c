use Rattle.std.proofs.Common.{◌≡◌, ◌++◌, true, rules, string_bytes}
use Rattle.zone_file_writer.specs.TypeLists.{is_map_of}
use Rattle.zone_file_writer.specs.Words.{types_text}
use Rattle.zone_file_writer.proofs.TypeTexts.{types_printed}
use Rattle.zone_file_writer.proofs.type_lists.push_listed.Goals as goal

pub returns : goal.returns
returns c =
    let is : true ≡ is_map_of c.args.octets.now c.args.types.now = search rules in
    let written : string_bytes c.write.new.self ≡ string_bytes c.args.text.now ++ types_text c.args.types.now = search rules in
    types_printed c.args.octets.now (string_bytes c.args.text.now) (string_bytes c.write.new.self) c.args.types.now is written
