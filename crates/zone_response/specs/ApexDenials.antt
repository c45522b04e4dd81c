-- Names one label below the origin of a zone that don't exist, where nothing at the origin or at the wildcard below it changes what is said of them
use Rattle.std.specs.Prelude.{◌≡◌, Bool, true, false, [], Some, None}
use Rattle.zone_proto.specs.declared.response_code.ResponseCode.TheVariants as code
use Rattle.zone_proto.specs.Names.{Name, wildcard_of, wildcard_under}
use Rattle.zone_proto.specs.Sets.{RRset}
use Rattle.zone_proto.specs.Types.{IN, SOA, DNAME}
use Rattle.zone_map.specs.Walks.{IsChild}
use Rattle.zone_map.specs.Wildcards.{exists}
use Rattle.zone_map.specs.Zones.{Sets, set_at}
use Rattle.zone_response.specs.Queries.{Zone, Query}
use Rattle.zone_response.specs.QueryTypes.{is_no_data}
use Rattle.zone_response.specs.Responses.{authority_sets, lacks_proofs, IsResponse}
use Rattle.zone_response.specs.Sections.{Sections}
use Rattle.zone_response.specs.Steps.{End, missing}

-- the origin owns this SOA set, and no DNAME set; and the wildcard below it doesn't exist (RFC 4592 section 2.2.1)
pub record HasPlainApex (m : Sets) (origin : Name) (soa : RRset) : Type 0 where
  pub soa_is : set_at m origin SOA ≡ Some soa
  pub dname : set_at m origin DNAME ≡ None
  pub wildcard : exists m (wildcard_under origin) ≡ false

pub record IsMissingChild (m : Sets) (origin x : Name) : Type 0 where
  pub child : IsChild x origin
  pub absent : exists m x ≡ false

-- a search for it ends without it, and without the wildcard below the origin
abbrev pub missing_child : Name → End
missing_child x = missing x (Some (wildcard_of x)) false

-- the name error (RFC 2308 section 2.1): the SOA, and with DNSSEC the sets that prove it
abbrev pub child_denial : Zone → RRset → Bool → Name → Sections
child_denial z soa signed x = record {
  code = code.NXDomain;
  authoritative = true;
  answers = [];
  authorities = authority_sets z signed soa [] (missing_child x);
  additionals = [];
  glue = [];
  left_at = None;
}

-- That is the response to a query for data of such a name.
abbrev pub MissingChildrenAreDenied : Type 0
MissingChildrenAreDenied = (z : Zone) (q : Query) (soa : RRset) → HasPlainApex z.sets z.origin soa → IsMissingChild z.sets z.origin q.name → q.class ≡ IN
    → is_no_data q.record_type ≡ false → lacks_proofs z q.signed [] (missing_child q.name) ≡ false → IsResponse z q (child_denial z soa q.signed q.name)
