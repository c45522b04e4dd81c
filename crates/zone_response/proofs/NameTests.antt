-- Tests of names, as the program makes them
use Rattle.std.proofs.Common.{◌≡◌, Bool}
use Rattle.std.specs.Prelude.{IsTrue, ◌↔◌}
use Rattle.std.specs.Cmp.{both_ways}
use Rattle.zone_proto.specs.Names.{Name, IsAtOrAbove, is_at_or_above}
use Rattle.zone_proto.proofs.Names.NameTree.{is_at_or_above_sound, is_at_or_above_complete}

pub below_test : (a n : Name) (b : Bool) → IsTrue b ↔ IsAtOrAbove a n → b ≡ is_at_or_above a n
below_test a n b e = both_ways b (is_at_or_above a n) (λ h. is_at_or_above_complete a n (e.0 h)) (λ h. e.1 (is_at_or_above_sound a n h))
