-- The keys of the sets that the names of a circle own
use Rattle.std.specs.Prelude.{ℕ, Bool, false, ◌&&◌, not, cond, List, filter, ◌==◌, Option, Some, None}
use Rattle.std.specs.Map.{keys_of}
use Rattle.std.specs.Option.{option_map_or}
use Rattle.std.specs.Ordering.{eq_by_cmp}
use Rattle.zone_proto.specs.declared.rr_key.RrKey.{RrKey}
use Rattle.zone_proto.specs.Names.{Name, name_cmp, is_above, is_at_or_above}
use Rattle.zone_proto.specs.Types.{NS}
use Rattle.zone_map.specs.Zones.{Sets}
use Rattle.zone_denial.specs.Authority.{is_authoritative}

-- a key of another type than t, of a name that has a denial of type t
abbrev pub is_circle_key : Name → Sets → ℕ → RrKey → Bool
is_circle_key origin m t k = not (k.record_type.0 == t) && is_authoritative origin m t k.name

-- these keys of a zone, ascending: what is left of a zone for its denials of type t (RFC 4035 section 2.3)
abbrev pub authoritative_keys : Name → Sets → ℕ → List RrKey
authoritative_keys origin m t = filter (is_circle_key origin m t) (keys_of m)

-- a zone cut that is at or before n, and not above it, if names that follow n may be below it: n is the cut itself,
-- since the names below a cut stand together after it
abbrev pub cut_kept : Option Name → Name → Option Name
cut_kept None n = None
cut_kept (Some a) n = cond (eq_by_cmp name_cmp a n) (Some a) None

-- the same after key k, that of a name below none of these: the name itself, if it is a zone cut
abbrev pub cut_after : Name → Option Name → RrKey → Option Name
cut_after origin cut k = cond ((k.record_type.0 == NS) && is_above origin k.name) (Some k.name) (cut_kept cut k.name)

-- a name is below a zone cut, if there is one
abbrev pub below : Option Name → Name → Bool
below cut n = option_map_or (λ a. is_above a n) cut false

-- the cut after a key was passed; and whether the key is of another type than t, and its name is in the zone and not
-- below the cut
abbrev pub next_cut : Name → Option Name → RrKey → Option Name
next_cut origin cut k = cond (below cut k.name) cut (cut_after origin cut k)

abbrev pub counts : Name → ℕ → Option Name → RrKey → Bool
counts origin t cut k = not (below cut k.name) && (not (k.record_type.0 == t) && is_at_or_above origin k.name)
