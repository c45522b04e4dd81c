-- A response by its sections: what is sent, as sets of records
use Rattle.std.specs.Prelude.{ℕ, Bool, false, ◌&&◌, cond, List, [], ◌∷◌, filter, map, ◌==◌, Option}
use Rattle.std.specs.List.{list_any}
use Rattle.std.specs.declared.alloc.Global.{Global}
use Rattle.std.specs.declared.vec.Vec.{Vec}
use Rattle.zone_proto.specs.declared.rdata.RData.{RData}
use Rattle.zone_proto.specs.declared.rdata.RData.TheVariants as V
use Rattle.zone_proto.specs.declared.record.Record.{Record}
use Rattle.zone_proto.specs.declared.response_code.ResponseCode.{ResponseCode}
use Rattle.zone_proto.specs.Names.{Name, same_name}
use Rattle.zone_proto.specs.Sets.{RRset}
use Rattle.zone_lookup.specs.FoundSets.{found_set}
use Rattle.zone_response.specs.declared.response.Part.{Part}
use Rattle.zone_response.specs.declared.response.Part.TheVariants as part
use Rattle.zone_response.specs.declared.response.Response.{Response}
use Rattle.zone_response.specs.declared.response.Sent.{Sent}

-- the code, whether the server is an authority for the first name that is answered, and the sections (RFC 1035 section 4.1); of the additional section, the glue that has to go (RFC 9471 section 3.1) stands apart; and the name at which a chain of aliases left the zone
pub record Sections : Type 0 where
  pub code : ResponseCode
  pub authoritative : Bool
  pub answers : List RRset
  pub authorities : List RRset
  pub additionals : List RRset
  pub glue : List RRset
  pub left_at : Option Name

-- ---- a set as it is sent

-- the type that a signature covers (RFC 4034 section 3.1.1)
abbrev pub covers : ℕ → RData → Bool
covers t (V.RRSIG d) = d.type_covered.0 == t
covers t _ = false

-- the signatures of a set that cover its type
abbrev pub own_signatures : RRset → List Record
own_signatures s = filter (λ (r : Record). covers s.record_type r.rdata) s.signatures

-- it has one
abbrev pub is_signed : RRset → Bool
is_signed s = list_any (λ (r : Record). covers s.record_type r.rdata) s.signatures

-- a record with another TTL
abbrev pub with_ttl : ℕ → Record → Record
with_ttl ttl r = record r { ttl = ttl }

-- all records of a set are sent with one TTL (RFC 2181 section 5.2), and so do its signatures (RFC 4034 section 3): the
-- records, with the signatures or without them, or the signatures alone
abbrev pub sent : Part → ℕ → RRset → RRset
sent part.Records ttl s = record s { ttl = ttl; records = map (with_ttl ttl) s.records; signatures = [] }
sent part.Signed ttl s = record s { ttl = ttl; records = map (with_ttl ttl) s.records; signatures = map (with_ttl ttl) (own_signatures s) }
sent part.Signatures ttl s = record s { ttl = ttl; records = []; signatures = map (with_ttl ttl) (own_signatures s) }

-- with the set's own TTL
abbrev pub as_it_is : Part → RRset → RRset
as_it_is p s = sent p s.ttl s

-- signatures go with the records where the query asks for DNSSEC (RFC 4035 section 3.1.1)
abbrev pub part_for : Bool → Part
part_for signed = cond signed part.Signed part.Records

-- sets of one owner and type
abbrev pub is_alike : RRset → RRset → Bool
is_alike s r = (r.record_type == s.record_type) && same_name r.owner s.owner

-- a set, unless one alike is among others: a set appears once in a section (RFC 2181 section 5.5)
abbrev pub unless_among : List RRset → RRset → List RRset
unless_among sets s = cond (list_any (is_alike s) sets) [] (s ∷ [])

-- ---- as the program keeps it

abbrev pub sent_set : Sent → RRset
sent_set s = sent s.part s.ttl (found_set s.set)

abbrev pub sent_sets : Vec Sent Global → List RRset
sent_sets v = map sent_set v.items

abbrev pub sections : Response → Sections
sections r = record {
  code = r.code;
  authoritative = r.authoritative;
  answers = sent_sets r.answers;
  authorities = sent_sets r.authorities;
  additionals = sent_sets r.additionals;
  glue = sent_sets r.glue;
  left_at = r.left_at;
}
