-- Zones that can be planned, and what nobody signs of them
use Rattle.std.specs.Prelude.{ℕ, ◌==◌, ◌&&◌, ◌||◌, not, Bool, false, cond, List, [], ◌∷◌, filter, filter_map, Option, Some, None}
use Rattle.std.specs.Map.{keys_of}
use Rattle.std.specs.Option.{option_map_or, option_or}
use Rattle.zone_proto.specs.declared.rr_key.RrKey.{RrKey}
use Rattle.zone_proto.specs.Names.{Name, is_above, is_at_or_above}
use Rattle.zone_proto.specs.Types.{NS, CNAME, SOA, DS, DNSKEY, NSEC, is_derived}
use Rattle.zone_map.specs.Zones.{Sets, owns}
use Rattle.zone_denial.specs.Authority.{is_below_cut}
use Rattle.zone_denial.specs.Chains.{is_below_dname}
use Rattle.zone_planning.specs.declared.fault.PlanFault.{PlanFault}
use Rattle.zone_planning.specs.declared.fault.PlanFault.TheVariants as fault

-- ---- why a zone isn't planned

-- the types of sets that are made anew where a zone is signed and its keys are given beside it: those that are derived, and the keys
abbrev pub is_made_anew : ℕ → Bool
is_made_anew t = is_derived t || (t == DNSKEY)

-- why the set under a key can't stand in the zone of an origin: it stands outside of it, is made where the zone is signed, or stands below a DNAME (RFC 6672 section 2.4)
abbrev pub set_fault : Name → Sets → RrKey → Option PlanFault
set_fault origin m k =
    cond (not (is_at_or_above origin k.name)) (Some (fault.Outside k.name))
    (cond (is_derived k.record_type.0) (Some (fault.Made k.name k.record_type))
    (cond (is_below_dname m k.name) (Some (fault.BelowDname k.name)) None))

-- the first of faults
abbrev pub first : List PlanFault → Option PlanFault
first [] = None
first (e ∷ es) = Some e

-- what is wrong with the first set with which something is, by owner in canonical order and type
abbrev pub sets_fault : Name → Sets → Option PlanFault
sets_fault origin m = first (filter_map (set_fault origin m) (keys_of m))

-- what is wrong with what stands at the origin: no SOA, or a CNAME
abbrev pub apex_fault : Name → Sets → Option PlanFault
apex_fault origin m = cond (not (owns m origin SOA)) (Some fault.NoSoa) (cond (owns m origin CNAME) (Some fault.CnameAtOrigin) None)

-- why the zone of an origin isn't planned
abbrev pub zone_fault : Name → Sets → Option PlanFault
zone_fault origin m = option_or (apex_fault origin m) (sets_fault origin m)

-- ---- what nobody signs

-- a name is a zone cut: it stands strictly below the origin, and owns NS (RFC 1034 section 4.2)
abbrev pub is_cut : Name → Sets → Name → Bool
is_cut origin m n = is_above origin n && owns m n NS

-- nobody signs the set under a key: its name stands below a zone cut, or is one, and the set is neither DS nor NSEC (RFC 4035 section 2.2)
abbrev pub is_left_out : Name → Sets → RrKey → Bool
is_left_out origin m k = is_below_cut origin m k.name || (is_cut origin m k.name && not ((k.record_type.0 == DS) || (k.record_type.0 == NSEC)))

-- the keys of these sets, in order
abbrev pub left_out : Name → Sets → List RrKey
left_out origin m = filter (is_left_out origin m) (keys_of m)

-- ---- as they are found in one pass over the keys

-- a name stands below another, if there is one
abbrev pub below : Option Name → Name → Bool
below top n = option_map_or (λ a. is_above a n) top false

-- of the names whose keys pass a test, the last one that stands below none of the others, once a key was seen
abbrev pub top_after : (RrKey → Bool) → Option Name → RrKey → Option Name
top_after is_top top k = cond (is_top k && not (below top k.name)) (Some k.name) top

-- the same as set_fault, where a name stands below a DNAME if it stands below this one
abbrev pub set_fault_below : Name → Option Name → RrKey → Option PlanFault
set_fault_below origin dname k =
    cond (not (is_at_or_above origin k.name)) (Some (fault.Outside k.name))
    (cond (is_derived k.record_type.0) (Some (fault.Made k.name k.record_type))
    (cond (below dname k.name) (Some (fault.BelowDname k.name)) None))
