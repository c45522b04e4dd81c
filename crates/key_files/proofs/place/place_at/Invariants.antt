use Rattle.std.proofs.Common.{◌≡◌, drop}
use Rattle.zone_scanner.specs.Signs.{first_place}
use Rattle.key_files.specs.Places.{place_along}
use Rattle.key_files.proofs.place.place_at.Given as goal

abbrev pub invariant-loop-octet : goal.invariant-loop-octet
invariant-loop-octet l = place_along l.place (drop l.octet-index l.octet-items) ≡ place_along first_place l.octet-items
