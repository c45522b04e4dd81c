-- What the digest of a zone is made of: its records in canonical form and order (RFC 8976 section 3.3.1)
use Rattle.std.specs.Prelude.{ℕ, not, Bool, cond, List, [], ◌∷◌, ◌++◌, map, filter, flat_map, nat_le, nat_lt}
use Rattle.zone_proto.specs.declared.rdata.RData.{RData}
use Rattle.zone_proto.specs.declared.rdata.RData.TheVariants as V
use Rattle.zone_proto.specs.declared.record.Record.{Record}
use Rattle.zone_proto.specs.declared.rr_key.RrKey.{RrKey}
use Rattle.zone_proto.specs.Keys.{key, key_eq}
use Rattle.zone_proto.specs.Names.{Name, lower, same_name, wire_form}
use Rattle.zone_proto.specs.Sets.{RRset}
use Rattle.zone_proto.specs.Types.{RRSIG}
use Rattle.zone_map.specs.Zones.{Sets}
use Rattle.message_writing.specs.PlainText.{plain_text}
use Rattle.zone_planning.specs.Canonical.{in_order}
use Rattle.zone_planning.specs.SignedData.{records_text, set_text}

-- the type of a zone's digest (RFC 8976 section 2)
abbrev pub zonemd_type : ℕ
zonemd_type = 63

-- ---- the records of one owner

-- the records of a set in canonical form and order, each once, with the set's TTL
abbrev pub own_text : RRset → List ℕ
own_text s = set_text s.ttl s

-- the data of a signature in canonical form: the signer's name is in lower case (RFC 4034 section 6.2, RFC 6840 section 5.1)
abbrev pub signature_octets : RData → List ℕ
signature_octets (V.RRSIG r) = plain_text (V.RRSIG (record r { signer_name = lower r.signer_name }))
signature_octets d = plain_text d

-- the signatures of a set, the same way
abbrev pub signatures_text : RRset → List ℕ
signatures_text s = records_text (wire_form (lower s.owner)) RRSIG s.ttl (in_order (map (λ (r : Record). signature_octets r.rdata) s.signatures))

-- Of the sets of an owner, by type: those up to the type RRSIG, the signatures, which are of that type, and the sets of greater types. The data of a signature begin with the
-- type that it covers, so signatures in the order of their sets are in canonical order.
abbrev pub owner_text : List RRset → List ℕ
owner_text sets =
    flat_map own_text (filter (λ (s : RRset). nat_le s.record_type RRSIG) sets)
    ++ (flat_map signatures_text sets ++ flat_map own_text (filter (λ (s : RRset). nat_lt RRSIG s.record_type) sets))

-- ---- the zone

-- a set is digested, with its signatures, unless it is the zone's own ZONEMD set (RFC 8976 section 3.3.1.1), which stands under this key
abbrev pub is_digested : RrKey → RrKey × RRset → Bool
is_digested own e = not (key_eq own e.0)

abbrev pub digested_sets : RrKey → Sets → List RRset
digested_sets own m = map (λ (e : RrKey × RRset). e.1) (filter (is_digested own) m)

-- a set before groups of sets: in the first one if that has the same owner, and otherwise by itself
abbrev pub before_groups : RRset → List (List RRset) → List (List RRset)
before_groups s [] = (s ∷ []) ∷ []
before_groups s ([] ∷ gs) = (s ∷ []) ∷ gs
before_groups s ((f ∷ g) ∷ gs) = cond (same_name s.owner f.owner) ((s ∷ f ∷ g) ∷ gs) ((s ∷ []) ∷ (f ∷ g) ∷ gs)

-- sets by owner: those of one owner follow each other in a zone
abbrev pub by_owner : List RRset → List (List RRset)
by_owner [] = []
by_owner (s ∷ ss) = before_groups s (by_owner ss)

-- the records of all sets but the one under this key, owner by owner
abbrev pub sets_text : RrKey → Sets → List ℕ
sets_text own m = flat_map owner_text (by_owner (digested_sets own m))

-- the key of the zone's own ZONEMD set, at its origin
abbrev pub zonemd_key : Name → RrKey
zonemd_key origin = key origin zonemd_type

-- the records of the zone
abbrev pub zone_text : Name → Sets → List ℕ
zone_text origin m = sets_text (zonemd_key origin) m
