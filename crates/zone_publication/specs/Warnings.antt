-- Which findings are warnings
use Rattle.std.specs.Prelude.{Bool, true, false, ◌&&◌, not}
use Rattle.zone_publication.specs.declared.finding.What.{What}
use Rattle.zone_publication.specs.declared.finding.What.TheVariants as what

-- the zone is as the standards have it, but may not do what is wanted
abbrev pub is_warning : What → Bool
is_warning (what.EndsSoon tag) = true
is_warning (what.NoGlue n) = true
is_warning (what.TargetIsAlias n) = true
is_warning (what.NoAddress n) = true
is_warning _ = false

-- what is found of a host that a record names
abbrev pub is_of_host : What → Bool
is_of_host (what.NoGlue n) = true
is_of_host (what.TargetIsAlias n) = true
is_of_host (what.NoAddress n) = true
is_of_host _ = false

-- what isn't a fault: a warning, but for those of hosts where these are strictly judged
abbrev pub is_allowed : Bool → What → Bool
is_allowed strict w = is_warning w && not (strict && is_of_host w)
