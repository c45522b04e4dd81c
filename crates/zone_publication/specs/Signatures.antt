-- The signatures of a zone (RFC 4035 section 2.2), without the keys that make them
use Rattle.std.specs.Prelude.{ℕ, ◌+◌, ◌-◌, ◌/◌, ◌%◌, ◌==◌, ◌||◌, ◌&&◌, not, List, [], ◌∷◌, ◌++◌, length, nat_lt, Bool, true, false, Option, Some, None, if◌then◌else◌}
use Rattle.std.specs.List.{flat_map, list_any}
use Rattle.zone_proto.specs.declared.record.Record.{Record}
use Rattle.zone_proto.specs.declared.rdata.RData.{RData}
use Rattle.zone_proto.specs.declared.rdata.RData.TheVariants as V
use Rattle.zone_proto.specs.declared.rdata.signing.DNSKEY.{DNSKEY as KeyData}
use Rattle.zone_proto.specs.declared.rdata.signing.RRSIG.{RRSIG as SignatureData}
use Rattle.zone_proto.specs.Names.{Name, is_wildcard, name_eq, lower}
use Rattle.zone_proto.specs.Sets.{RRset}
use Rattle.zone_proto.specs.Types.{DNSKEY, DS, NSEC, RRSIG}
use Rattle.zone_map.specs.Zones.{Sets, set_at}
use Rattle.zone_publication.specs.declared.finding.Finding.{Finding}
use Rattle.zone_publication.specs.declared.finding.What.{What}
use Rattle.zone_publication.specs.declared.finding.What.TheVariants as what
use Rattle.zone_publication.specs.declared.dates.Period.{Period}
use Rattle.zone_publication.specs.Dates.{ahead, is_not_before}
use Rattle.zone_publication.specs.Delegations.{finding}
use Rattle.zone_publication.specs.Names.{is_below_dname, is_cut}

-- The algorithms of the zone's keys, each once: of the DNSKEY records at the apex with the flag of zone keys (RFC 4034 section
-- 2.1.1)
abbrev pub is_zone_key : KeyData → Bool
is_zone_key d = d.flags / 256 % 2 == 1

abbrev pub with_algorithm : List ℕ → RData → List ℕ
with_algorithm algorithms (V.DNSKEY d) =
    if is_zone_key d && not (list_any (λ a. a == d.algorithm) algorithms) then algorithms ++ d.algorithm ∷ [] else algorithms
with_algorithm algorithms _ = algorithms

abbrev pub with_algorithms : List ℕ → List Record → List ℕ
with_algorithms algorithms [] = algorithms
with_algorithms algorithms (r ∷ rs) = with_algorithms (with_algorithm algorithms r.rdata) rs

abbrev pub algorithms_in : Option RRset → List ℕ
algorithms_in None = []
algorithms_in (Some s) = with_algorithms [] s.records

abbrev pub apex_algorithms : Name → Sets → List ℕ
apex_algorithms origin m = algorithms_in (set_at m origin DNSKEY)

-- Each set of the zone's own is signed, of a zone cut the DS and the NSEC alone (RFC 4035 section 2.2); what is below a DNAME may be
-- or not
abbrev pub is_to_be_signed : Name → Sets → Name → ℕ → Bool
is_to_be_signed origin m n t =
    if t == RRSIG || is_below_dname origin m n then false
    else (if is_cut origin m n then t == DS || t == NSEC else true)

-- the labels of an owner, without the root and a leading `*` (RFC 4034 section 3.1.3)
abbrev pub signed_labels : Name → ℕ
signed_labels n = if is_wildcard n then length n - 1 else length n

-- what is wrong with a signature, first of all: who made it, for which owner and TTL, and when it holds
abbrev pub when_held : Period → SignatureData → Option What
when_held period d =
    if not (is_not_before period.moment d.inception) then Some (what.NotYetValid d.key_tag)
    else (if not (is_not_before d.expiration period.moment) then Some (what.Expired d.key_tag)
    else (if nat_lt (ahead d.expiration period.moment) period.soon then Some (what.EndsSoon d.key_tag)
    else None))

abbrev pub what_is_wrong : Name → Period → Name → ℕ → SignatureData → Option What
what_is_wrong origin period n ttl d =
    if not (name_eq (lower d.signer_name) origin) then Some (what.WrongSigner d.key_tag)
    else (if not (d.num_labels == signed_labels n) then Some (what.WrongLabels d.key_tag)
    else (if not (d.original_ttl == ttl) then Some (what.WrongTtl d.key_tag)
    else when_held period d))

abbrev pub found : Name → ℕ → Option What → List Finding
found n t None = []
found n t (Some w) = finding n t w ∷ []

abbrev pub signature_finding : Name → Period → Name → ℕ → ℕ → RData → List Finding
signature_finding origin period n t ttl (V.RRSIG d) = found n t (what_is_wrong origin period n ttl d)
signature_finding origin period n t ttl _ = []

-- "There MUST be an RRSIG for each RRset using at least one DNSKEY of each algorithm in the zone apex DNSKEY RRset"
abbrev pub is_of_algorithm : ℕ → RData → Bool
is_of_algorithm a (V.RRSIG d) = d.algorithm == a
is_of_algorithm a _ = false

abbrev pub lacking : Name → ℕ → List Record → ℕ → List Finding
lacking n t signatures a = if list_any (λ (r : Record). is_of_algorithm a r.rdata) signatures then [] else finding n t (what.NoSignature a) ∷ []

-- of a set of a zone whose apex has keys of these algorithms, if any
abbrev pub signatures : Name → Period → List ℕ → Sets → Name → ℕ → RRset → List Finding
signatures origin period algorithms m n t s =
    if not (is_to_be_signed origin m n t) then []
    else flat_map (lacking n t s.signatures) algorithms
    ++ (if length algorithms == 0 then [] else flat_map (λ (r : Record). signature_finding origin period n t s.ttl r.rdata) s.signatures)
