-- What an iterator over the suffixes of a name has left.
use Rattle.std.specs.Prelude.{ℕ, List, [], Some, None, Option}
use Rattle.zone_proto.specs.declared.suffixes.Suffixes.{Suffixes}
use Rattle.zone_proto.specs.Names.{suffixes}

abbrev pub left_of : Option (List (List ℕ)) → List (List (List ℕ))
left_of None = []
left_of (Some n) = suffixes n

abbrev pub suffixes_left : Suffixes → List (List (List ℕ))
suffixes_left s = left_of s.rest
