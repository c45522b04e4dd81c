-- The smallest zones that show why the laws of the wildcard at the closest encloser need their premises, computed from
-- the definitions. Each has besides an SOA at its origin no more than is shown
use Rattle.std.proofs.Common.{◌≡◌, true, false, [], ◌∷◌, refl}
use Rattle.std.specs.Prelude.{codes, Some, None, pos}
use Rattle.zone_proto.specs.declared.rdata.RData.TheVariants as V
use Rattle.zone_proto.specs.Names.{Name, wildcard_under}
use Rattle.zone_proto.specs.Types.{NS, SOA, NSEC, NSEC3}
use Rattle.zone_map.specs.Wildcards.{asked_wildcard, asked_wildcard_exists, closest_encloser as longest_existing}
use Rattle.zone_map.specs.Zones.{Sets, owns, owns_at_or_below}
use Rattle.zone_denial.specs.Authority.{is_below_cut}
use Rattle.zone_denial.specs.Nsec3Circle.{nsec3_data}
use Rattle.zone_denial.specs.Nsec3Denial.{closest_encloser}
use Rattle.zone_denial.specs.Nsec3Names.{nsec3_names}
use Rattle.zone_denial.specs.NsecDenial.{nsec_encloser}
use Rattle.zone_denial.proofs.Examples.NsecExamples.{origin, at_origin, entry, address, start, linked}
use Rattle.zone_denial.proofs.Examples.Nsec3Examples.{parameters, announced, b}

abbrev below_b : Name
below_b = codes "x" ∷ b

abbrev wildcard_name : Name
wildcard_name = wildcard_under origin

-- ---- NSEC, and a wildcard that owns nothing but NSEC3: it doesn't exist, so that there is no name b, but it is on the
-- circle

abbrev foreign_wildcard : Sets
foreign_wildcard = linked (start ∷ entry wildcard_name NSEC3 (V.NSEC3 (nsec3_data parameters [] [])) ∷ [])

foreign_wildcard_absent : owns_at_or_below foreign_wildcard b ≡ false
foreign_wildcard_absent = refl

foreign_wildcard_gone : asked_wildcard_exists foreign_wildcard b ≡ false
foreign_wildcard_gone = refl

foreign_wildcard_encloser : nsec_encloser origin foreign_wildcard b ≡ origin
foreign_wildcard_encloser = refl

foreign_wildcard_on : owns foreign_wildcard wildcard_name NSEC ≡ true
foreign_wildcard_on = refl

-- ---- NSEC, and a name b that owns nothing but NSEC3: it is the encloser of x.b for a denial, and not for a search

abbrev foreign_name : Sets
foreign_name = linked (start ∷ entry b NSEC3 (V.NSEC3 (nsec3_data parameters [] [])) ∷ [])

foreign_name_denied : nsec_encloser origin foreign_name below_b ≡ b
foreign_name_denied = refl

foreign_name_searched : longest_existing foreign_name below_b ≡ Some origin
foreign_name_searched = refl

-- ---- a name that begins with `*`: no wildcard is asked for *.b, so that there is no such name, though the wildcard at
-- the origin has a set

abbrev starred : Sets
starred = linked (start ∷ address wildcard_name ∷ [])

starred_absent : owns_at_or_below starred (wildcard_under b) ≡ false
starred_absent = refl

starred_unasked : asked_wildcard starred (wildcard_under b) ≡ None
starred_unasked = refl

starred_encloser : nsec_encloser origin starred (wildcard_under b) ≡ origin
starred_encloser = refl

starred_on : owns starred wildcard_name NSEC ≡ true
starred_on = refl

-- ---- below an inner name that owns NS and SOA: a search asks the wildcard *.b.sub for x.b.sub, and the circle has sub
-- as the encloser

abbrev sub : Name
sub = at_origin (codes "sub")

abbrev below_sub : Name
below_sub = codes "b" ∷ sub

abbrev inner : Sets
inner = linked (start ∷ entry sub NS (V.NS (codes "ns" ∷ sub)) ∷ entry sub SOA (V.SOA (record { mname = sub; rname = sub; serial = 7; refresh = pos 7200; retry = pos 600; expire = pos 86400; minimum = 300 })) ∷ address (wildcard_under below_sub) ∷ [])

inner_cut : is_below_cut origin inner (codes "x" ∷ below_sub) ≡ true
inner_cut = refl

inner_denied : nsec_encloser origin inner (codes "x" ∷ below_sub) ≡ sub
inner_denied = refl

inner_searched : longest_existing inner (codes "x" ∷ below_sub) ≡ Some below_sub
inner_searched = refl

-- ---- NSEC3 with opt-out, a wildcard, and an unsigned delegation c.b: x.b isn't there and the wildcard isn't asked for
-- it, but the circle has the origin as its encloser, and the wildcard

abbrev opted_out : Sets
opted_out = announced (start ∷ address wildcard_name ∷ entry (codes "c" ∷ b) NS (V.NS (codes "ns" ∷ b)) ∷ [])

opted_out_absent : owns_at_or_below opted_out below_b ≡ false
opted_out_absent = refl

opted_out_asked : asked_wildcard opted_out below_b ≡ Some (wildcard_under b)
opted_out_asked = refl

opted_out_gone : asked_wildcard_exists opted_out below_b ≡ false
opted_out_gone = refl

opted_out_names : nsec3_names origin opted_out true ≡ origin ∷ wildcard_name ∷ []
opted_out_names = refl

opted_out_encloser : closest_encloser origin opted_out true below_b ≡ Some origin
opted_out_encloser = refl

-- without opt-out b is on the circle, and is the encloser
opted_in_encloser : closest_encloser origin opted_out false below_b ≡ Some b
opted_in_encloser = refl

-- ---- NSEC3, and a wildcard that owns nothing but NSEC: it doesn't exist, and is on the circle

abbrev other_wildcard : Sets
other_wildcard = announced (start ∷ entry wildcard_name NSEC (V.NSEC (record { next_domain_name = origin; types = [] })) ∷ [])

other_wildcard_absent : owns_at_or_below other_wildcard b ≡ false
other_wildcard_absent = refl

other_wildcard_gone : asked_wildcard_exists other_wildcard b ≡ false
other_wildcard_gone = refl

other_wildcard_names : nsec3_names origin other_wildcard false ≡ origin ∷ wildcard_name ∷ []
other_wildcard_names = refl

other_wildcard_encloser : closest_encloser origin other_wildcard false b ≡ Some origin
other_wildcard_encloser = refl
