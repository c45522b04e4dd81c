use Rattle.std.proofs.Common.{◌≡◌, ℕ, ◌+◌, ◌*◌, ◌≤◌, length, true}
use Rattle.std.specs.Prelude.{option_map}
use Rattle.std.specs.Option.{option_or}
use Rattle.zone_proto.specs.Names.{is_at_or_above}
use Rattle.zone_response.specs.Descent.{diversion_above, diversion_of}
use Rattle.zone_response.specs.Searches.{names_between}
use Rattle.zone_response.proofs.descent.diversion_from_apex.Given as goal

-- what turns above the name is what turns above the key's name, or else what was found last
abbrev pub invariant-loop-below : goal.invariant-loop-below
invariant-loop-below g l = record {
  left :
      (t : ℕ)
      → diversion_above l.origin l.inner.records l.name t l.name
      ≡ option_or (diversion_above l.origin l.inner.records l.name t l.below.name) (option_map diversion_of l.found);
  inside : is_at_or_above l.origin l.below.name ≡ true;
  no_longer : length l.below.name ≤ length l.name;
  -- and the searches that are left are those for the names that are between
  counted : l.searches + 1 + 2 * length (names_between l.origin l.inner.records l.below.name) ≤ l.fn.searches + 1 + 2 * length (names_between l.origin l.inner.records l.name);
}

abbrev pub decreases-loop-below : goal.decreases-loop-below
decreases-loop-below g l = length l.below.name
