-- The sets of a denial, as they are lent out of the zone
use Rattle.std.specs.Prelude.{cond, List, [], ◌∷◌, ◌++◌, Option, Some, None, option_copied, option_to_list}
use Rattle.zone_proto.specs.Names.{same_name}
use Rattle.zone_proto.specs.Sets.{RRset}
use Rattle.zone_denial.specs.declared.denial.NsecDenial.{NsecDenial}
use Rattle.zone_denial.specs.declared.denial.NsecDenial.TheVariants.{Own, Closest}

abbrev pub denial_sets : NsecDenial → List RRset
denial_sets (Own s) = s.now ∷ []
denial_sets (Closest above closest) = option_to_list (option_copied above) ++ option_to_list (option_copied closest)

-- the name's own set, if it is that
abbrev pub own_set : NsecDenial → Option RRset
own_set (Own s) = Some s.now
own_set (Closest above closest) = None

-- the first of two sets, unless both are of one owner
abbrev pub unless_same : Option RRset → Option RRset → Option RRset
unless_same None other = None
unless_same (Some s) None = Some s
unless_same (Some s) (Some r) = cond (same_name s.owner r.owner) None (Some s)
