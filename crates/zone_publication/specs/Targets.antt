-- The hosts that NS, MX and SRV records name
use Rattle.std.specs.Prelude.{ℕ, ◌==◌, ◌||◌, ◌&&◌, not, List, [], ◌∷◌, Bool, Option, Some, None, if◌then◌else◌}
use Rattle.std.specs.List.{flat_map, list_any}
use Rattle.zone_proto.specs.declared.record.Record.{Record}
use Rattle.zone_proto.specs.declared.rdata.RData.{RData}
use Rattle.zone_proto.specs.declared.rdata.RData.TheVariants as V
use Rattle.zone_proto.specs.Names.{Name, is_at_or_above, is_root, lower, proper_ancestors, wildcard_under}
use Rattle.zone_proto.specs.Types.{A, AAAA, ANAME, CNAME, NS}
use Rattle.zone_map.specs.Zones.{Sets, owns}
use Rattle.zone_publication.specs.declared.finding.Finding.{Finding}
use Rattle.zone_publication.specs.declared.finding.What.TheVariants as what
use Rattle.zone_publication.specs.Delegations.{finding}
use Rattle.zone_publication.specs.Names.{is_below_cut, is_cut}

abbrev pub target_of : RData → Option Name
target_of (V.NS n) = Some n
target_of (V.MX d) = Some d.exchange
target_of (V.SRV d) = Some d.target
target_of _ = None

-- a name with addresses
abbrev pub has_addresses : Sets → Name → Bool
has_addresses m n = owns m n A || (owns m n AAAA || owns m n ANAME)

-- a wildcard above a name may answer for it (RFC 4592 section 2.2.1)
abbrev pub has_wildcard : Sets → Name → Bool
has_wildcard m n = list_any (λ a. has_addresses m (wildcard_under a) || owns m (wildcard_under a) CNAME) (proper_ancestors n)

-- Of a host of the zone, by its name in lower case: it isn't an alias (RFC 2181 section 10.3); and it has an address. Below a zone
-- cut the zone has one of a name server of that cut alone, its glue (RFC 1034 section 4.2.1). Of the root no host is meant (RFC
-- 7505 section 3, RFC 2782).
abbrev pub host_finding : Name → Sets → Name → ℕ → Name → Name → List Finding
host_finding origin m n t target host =
    if is_root host || not (is_at_or_above origin host) then []
    else (if owns m host CNAME then finding n t (what.TargetIsAlias target) ∷ []
    else (if has_addresses m host then []
    else (if is_cut origin m host || is_below_cut origin m host then
    (if t == NS && is_at_or_above n host then finding n t (what.NoGlue target) ∷ [] else [])
    else (if has_wildcard m host then [] else finding n t (what.NoAddress target) ∷ []))))

abbrev pub target_finding : Name → Sets → Name → ℕ → Option Name → List Finding
target_finding origin m n t None = []
target_finding origin m n t (Some target) = host_finding origin m n t target (lower target)

abbrev pub targets : Name → Sets → Name → ℕ → List Record → List Finding
targets origin m n t rs = flat_map (λ r. target_finding origin m n t (target_of r.rdata)) rs
