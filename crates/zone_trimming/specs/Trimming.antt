-- The denials of a zone that is to be signed as the standards have them at delegations and in NSEC3PARAM (RFC 4035 section 2.3, RFC 5155 sections 4.1.2 and 7.1)
use Rattle.std.specs.Prelude.{ℕ, ◌==◌, ◌&&◌, ◌||◌, not, Bool, false, List, map, filter, fold, cond, option_map}
use Rattle.std.specs.List.{list_any}
use Rattle.zone_proto.specs.declared.rdata.RData.{RData}
use Rattle.zone_proto.specs.declared.rdata.RData.TheVariants as V
use Rattle.zone_proto.specs.declared.record.Record.{Record}
use Rattle.zone_proto.specs.declared.record_type.RecordType.{RecordType}
use Rattle.zone_proto.specs.Sets.{RRset, empty_set, record_of}
use Rattle.zone_proto.specs.Types.{NS, CNAME, SOA, DS, NSEC, NSEC3, RRSIG}
use Rattle.zone_denial.specs.Nsec3Sets.{with_taken}
use Rattle.zone_signing.specs.Secured.{SetsBy}

abbrev pub has_type : List RecordType → ℕ → Bool
has_type types t = list_any (λ (u : RecordType). u.0 == t) types

-- a list with NS and no SOA is that of a delegation
abbrev pub is_of_delegation : List RecordType → Bool
is_of_delegation types = has_type types NS && not (has_type types SOA)

-- of a delegation the parent has NS, DS and NSEC, and RRSIG where one of the latter two is there to be signed; CNAME and NSEC3, of which a list tells too, stay where they are listed
abbrev pub stays_listed : List RecordType → ℕ → Bool
stays_listed types t =
    (t == NS) || ((t == CNAME) || ((t == DS) || ((t == NSEC) || ((t == NSEC3) || ((t == RRSIG) && (has_type types DS || has_type types NSEC))))))

abbrev pub trimmed_types : List RecordType → List RecordType
trimmed_types types = cond (is_of_delegation types) (filter (λ (t : RecordType). stays_listed types t.0) types) types

-- a denial with its list so, and the parameters of NSEC3 without flags
abbrev pub trimmed_data : RData → RData
trimmed_data (V.NSEC d) = V.NSEC (record d { types = trimmed_types d.types })
trimmed_data (V.NSEC3 d) = V.NSEC3 (record d { types = trimmed_types d.types })
trimmed_data (V.NSEC3PARAM d) = V.NSEC3PARAM (record d { opt_out = false })
trimmed_data d = d

-- the set of denial whose records are so, of its owner, TTL and serial, inserted one after the other
abbrev pub trimmed_set : RRset → RRset
trimmed_set s = fold (with_taken s.serial) (empty_set s.owner s.record_type s.serial) (map (λ (r : Record). record_of s (trimmed_data r.rdata)) s.records)

-- sets of denial by name and type, each so
abbrev pub trimmed_at : SetsBy → SetsBy
trimmed_at sets n t = option_map trimmed_set (sets n t)
