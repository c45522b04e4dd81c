-- Copies of the sets of a zone
use Rattle.std.specs.Prelude.{◌&&◌, not, Bool, true, filter}
use Rattle.zone_map.specs.Zones.{Sets}
use Rattle.zone_planner.specs.Zones.{is_made_anew}

-- the sets of a zone, without those that are made anew if it is to be signed
abbrev pub copied : Bool → Sets → Sets
copied anew m = filter (λ e. not (anew && is_made_anew e.0.record_type.0)) m

abbrev pub unsigned : Sets → Sets
unsigned m = copied true m
