use Rattle.std.proofs.Common.{◌≡◌, ◌+◌, ◌-◌, ◌≤◌}
use Rattle.zone_response.specs.Paths.{behind, path_from, path}
use Rattle.zone_response.specs.Queries.{inquiry_of}
use Rattle.zone_response.specs.Searches.{most_for_path}
use Rattle.zone_response.specs.Sections.{sent_sets}
use Rattle.zone_response.proofs.PathNames.{left_for}
use Rattle.zone_response.proofs.paths.walk.Given as goal

-- what is left of the path, behind what was found, is the whole; and so are the searches for the names that are left, and those that were made
abbrev pub invariant-loop-count : goal.invariant-loop-count
invariant-loop-count g l = record {
  left :
      behind (sent_sets l.so_far.answers) l.so_far.made.items (path_from (inquiry_of g.S.Signer.signature_of l.fn.asked l.inner) (8 - l._count) l.seen.items (sent_sets l.so_far.answers) l.name)
      ≡ path (inquiry_of g.S.Signer.signature_of l.fn.asked l.inner) l.fn.name;
  counted :
      l.searches + left_for (inquiry_of g.S.Signer.signature_of l.fn.asked l.inner) (8 - l._count) l.seen.items (sent_sets l.so_far.answers) l.name
      ≤ l.fn.searches + most_for_path (inquiry_of g.S.Signer.signature_of l.fn.asked l.inner) l.fn.name;
}
