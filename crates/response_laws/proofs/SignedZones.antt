-- The premises of the law of NSEC are met by zones as dnssec-signzone and ldns-signzone write them: with glue at the
-- name of an unsigned delegation, whose list has NS alone of what is there, and with the remains of a chain of NSEC3
-- sets; and names below a DNAME may be left out
use Rattle.std.proofs.Common.{◌≡◌, ℕ, true, false, List, [], ◌∷◌, ◌++◌, map, refl}
use Rattle.std.specs.Prelude.{codes, Some, None, length}
use Rattle.zone_proto.specs.declared.nx_proof_kind.NxProofKind.TheVariants as kind
use Rattle.zone_proto.specs.declared.rdata.RData.TheVariants as V
use Rattle.zone_proto.specs.declared.response_code.ResponseCode.TheVariants as code
use Rattle.zone_proto.specs.declared.rr_key.RrKey.{RrKey}
use Rattle.zone_proto.specs.Keys.{key}
use Rattle.zone_proto.specs.Names.{Name, wire_form}
use Rattle.zone_proto.specs.Sets.{RRset}
use Rattle.zone_proto.specs.Types.{A, NS, SOA, RRSIG, NSEC, NSEC3, DNAME}
use Rattle.zone_proto.proofs.SetLaws.{IsSet-alone}
use Rattle.zone_proto.proofs.Texts.TextFaults.{name_by_tests}
use Rattle.zone_map.specs.Zones.{Sets, owns, IsStoredAt, IsZone}
use Rattle.zone_map.proofs.Stored.{IsZone-none, IsZone-put}
use Rattle.zone_denial.specs.Chains.{next_owner, IsRightList, IsInNsecChain, IsNsecChain}
use Rattle.zone_denial.specs.NsecCircle.{next_of, types_of}
use Rattle.zone_denial.proofs.Examples.NsecExamples.{origin, at_origin, entry, address, start}
use Rattle.zone_response.specs.declared.response.Part.TheVariants as part
use Rattle.zone_response.specs.Paths.{path}
use Rattle.zone_response.specs.Queries.{Zone}
use Rattle.zone_response.specs.Responses.{IsResponse}
use Rattle.zone_response.specs.Sections.{Sections, sent, as_it_is}
use Rattle.response_laws.specs.ProvedSayings.{DeniesByNsec, IsProvedReferral, IsProvedUnsigned}
use Rattle.response_laws.proofs.ChainTests.{each_set, lists, listed, agreeing, right_at_delegation, right_elsewhere, owners_authoritative, all_own, is_unreferred}
use Rattle.response_laws.proofs.MetPremises.{soa_stored}
use Rattle.response_laws.proofs.Responses.{response_proves_what_it_says}
use Rattle.response_laws.proofs.SayingExamples.{asked}

-- a delegation whose server has its own name
abbrev b : Name
b = at_origin (codes "b")

abbrev servers : RrKey × RRset
servers = entry b NS (V.NS b)

abbrev nsec : Name → Name → List ℕ → RrKey × RRset
nsec n next types = entry n NSEC (V.NSEC (record { next_domain_name = next; types = map (λ t. record { 0 = t }) types }))

abbrev signed : Sets
signed = start ∷ nsec origin b (SOA ∷ RRSIG ∷ NSEC ∷ []) ∷ address b ∷ servers ∷ nsec b origin (NS ∷ RRSIG ∷ NSEC ∷ []) ∷ []

-- the remains of a chain of NSEC3 sets
abbrev hashed : Name
hashed = at_origin (codes "v")

abbrev remains : RrKey × RRset
remains = entry hashed NSEC3 (V.NSEC3 (record { algorithm = 1; opt_out = false; iterations = 0; salt = []; next_hashed_owner_name = 1 ∷ []; types = [] }))

abbrev zone : Zone
zone = record { origin = origin; sets = signed ++ remains ∷ []; denials = signed; nx_proof_kind = Some kind.Nsec; digest_of = λ algorithm salt n iterations. None; sign = λ signed s. [] }

-- ---- its sets of denial are a chain

signed_zone : IsZone signed
signed_zone =
    IsZone-put (start ∷ nsec origin b (SOA ∷ RRSIG ∷ NSEC ∷ []) ∷ address b ∷ servers ∷ []) (key b NSEC) (nsec b origin (NS ∷ RRSIG ∷ NSEC ∷ [])).1
    (IsZone-put (start ∷ nsec origin b (SOA ∷ RRSIG ∷ NSEC ∷ []) ∷ address b ∷ []) (key b NS) servers.1
    (IsZone-put (start ∷ nsec origin b (SOA ∷ RRSIG ∷ NSEC ∷ []) ∷ []) (key b A) (address b).1
    (IsZone-put (start ∷ []) (key origin NSEC) (nsec origin b (SOA ∷ RRSIG ∷ NSEC ∷ [])).1 (IsZone-put [] (key origin SOA) start.1 IsZone-none soa_stored) origin_stored) address_stored) servers_stored) child_stored
  where
    origin_stored : IsStoredAt origin NSEC (nsec origin b (SOA ∷ RRSIG ∷ NSEC ∷ [])).1
    origin_stored = record { named = name_by_tests origin refl refl; owner = refl; record_type = refl; filled = λ e. cc; set = IsSet-alone origin NSEC _ refl refl }

    address_stored : IsStoredAt b A (address b).1
    address_stored = record { named = name_by_tests b refl refl; owner = refl; record_type = refl; filled = λ e. cc; set = IsSet-alone b A _ refl refl }

    servers_stored : IsStoredAt b NS servers.1
    servers_stored = record { named = name_by_tests b refl refl; owner = refl; record_type = refl; filled = λ e. cc; set = IsSet-alone b NS _ refl refl }

    child_stored : IsStoredAt b NSEC (nsec b origin (NS ∷ RRSIG ∷ NSEC ∷ [])).1
    child_stored = record { named = name_by_tests b refl refl; owner = refl; record_type = refl; filled = λ e. cc; set = IsSet-alone b NSEC _ refl refl }

whole_zone : IsZone (signed ++ remains ∷ [])
whole_zone = IsZone-put signed (key hashed NSEC3) remains.1 signed_zone (record { named = name_by_tests hashed refl refl; owner = refl; record_type = refl; filled = λ e. cc; set = IsSet-alone hashed NSEC3 _ refl refl })

of_origin : IsInNsecChain origin signed origin (nsec origin b (SOA ∷ RRSIG ∷ NSEC ∷ [])).1
of_origin = record {
  single = refl;
  next = refl;
  types = SOA ∷ RRSIG ∷ NSEC ∷ [];
  listed = refl;
  right = right_elsewhere origin signed origin (SOA ∷ RRSIG ∷ NSEC ∷ []) refl refl refl refl;
  own = λ _. listed (SOA ∷ RRSIG ∷ NSEC ∷ []) NSEC refl;
  hashed = agreeing origin signed origin (SOA ∷ RRSIG ∷ NSEC ∷ []) NSEC3 refl;
}

of_child : IsInNsecChain origin signed b (nsec b origin (NS ∷ RRSIG ∷ NSEC ∷ [])).1
of_child = record {
  single = refl;
  next = refl;
  types = NS ∷ RRSIG ∷ NSEC ∷ [];
  listed = refl;
  right = right_at_delegation origin signed b (NS ∷ RRSIG ∷ NSEC ∷ []) refl refl refl refl refl;
  own = λ _. listed (NS ∷ RRSIG ∷ NSEC ∷ []) NSEC refl;
  hashed = agreeing origin signed b (NS ∷ RRSIG ∷ NSEC ∷ []) NSEC3 refl;
}

chain : IsNsecChain origin signed
chain = record {
  zone = signed_zone;
  begins = refl;
  authoritative = owners_authoritative origin signed refl;
  complete = all_own origin signed refl;
  each = each_set NSEC (IsInNsecChain origin signed) signed (tt, (of_origin, (tt, (tt, (of_child, tt)))));
}

denies : DeniesByNsec zone
denies = record { kind = refl; zone = whole_zone; denials = refl; chain = chain; top = is_unreferred zone refl refl }

-- ---- and a referral is proved to be unsigned

abbrev response : Sections
response = record {
  code = code.NoError;
  authoritative = false;
  answers = [];
  authorities = as_it_is part.Records servers.1 ∷ sent part.Signed 60 (nsec b origin (NS ∷ RRSIG ∷ NSEC ∷ [])).1 ∷ [];
  additionals = [];
  glue = as_it_is part.Signed (address b).1 ∷ [];
  left_at = None;
}

refers : IsResponse zone (asked b A) response
unfolding path
refers = record { code = refl; authoritative = refl; answers = refl; authorities = refl; additionals = refl; glue = refl; left_at = refl }

unsigned_proved : IsProvedReferral zone response (IsProvedUnsigned zone response) b
unsigned_proved = (response_proves_what_it_says zone (asked b A) response denies refl refers).says.delegation b refl

-- ---- a chain may leave out a name below a DNAME, or go through it

abbrev d : Name
d = at_origin (codes "d")

abbrev below : Name
below = codes "x" ∷ d

abbrev dname : RrKey × RRset
dname = entry d DNAME (V.Other (record { record_type = record { 0 = DNAME }; octets = wire_form b; other = refl }))

abbrev of_apex : RrKey × RRset
of_apex = nsec origin d (SOA ∷ RRSIG ∷ NSEC ∷ [])

-- the NSEC sets of d and of the name below it, if that is in the chain
abbrev of_owner : Name → RrKey × RRset
of_owner next = nsec d next (DNAME ∷ RRSIG ∷ NSEC ∷ [])

abbrev of_below : RrKey × RRset
of_below = nsec below origin (A ∷ RRSIG ∷ NSEC ∷ [])

abbrev skipping : Sets
skipping = start ∷ of_apex ∷ dname ∷ of_owner origin ∷ address below ∷ []

abbrev going_through : Sets
going_through = start ∷ of_apex ∷ dname ∷ of_owner below ∷ address below ∷ of_below ∷ []

apex_stored : IsStoredAt origin NSEC of_apex.1
apex_stored = record { named = name_by_tests origin refl refl; owner = refl; record_type = refl; filled = λ e. cc; set = IsSet-alone origin NSEC _ refl refl }

dname_stored : IsStoredAt d DNAME dname.1
dname_stored = record { named = name_by_tests d refl refl; owner = refl; record_type = refl; filled = λ e. cc; set = IsSet-alone d DNAME _ refl refl }

below_stored : IsStoredAt below A (address below).1
below_stored = record { named = name_by_tests below refl refl; owner = refl; record_type = refl; filled = λ e. cc; set = IsSet-alone below A _ refl refl }

apex_zone : IsZone (start ∷ of_apex ∷ dname ∷ [])
apex_zone =
    IsZone-put (start ∷ of_apex ∷ []) (key d DNAME) dname.1
    (IsZone-put (start ∷ []) (key origin NSEC) of_apex.1 (IsZone-put [] (key origin SOA) start.1 IsZone-none soa_stored) apex_stored) dname_stored

skipping_zone : IsZone skipping
skipping_zone =
    IsZone-put (start ∷ of_apex ∷ dname ∷ of_owner origin ∷ []) (key below A) (address below).1
    (IsZone-put (start ∷ of_apex ∷ dname ∷ []) (key d NSEC) (of_owner origin).1 apex_zone
    (record { named = name_by_tests d refl refl; owner = refl; record_type = refl; filled = λ e. cc; set = IsSet-alone d NSEC _ refl refl })) below_stored

through_zone : IsZone going_through
through_zone =
    IsZone-put (start ∷ of_apex ∷ dname ∷ of_owner below ∷ address below ∷ []) (key below NSEC) of_below.1
    (IsZone-put (start ∷ of_apex ∷ dname ∷ of_owner below ∷ []) (key below A) (address below).1
    (IsZone-put (start ∷ of_apex ∷ dname ∷ []) (key d NSEC) (of_owner below).1 apex_zone
    (record { named = name_by_tests d refl refl; owner = refl; record_type = refl; filled = λ e. cc; set = IsSet-alone d NSEC _ refl refl })) below_stored)
    (record { named = name_by_tests below refl refl; owner = refl; record_type = refl; filled = λ e. cc; set = IsSet-alone below NSEC _ refl refl })

-- a set of such a chain with a right list
in_chain : (m : Sets) (n : Name) (types : List ℕ) (s : RRset) → length s.records ≡ 1 → next_of s ≡ Some (next_owner origin m n) → types_of s ≡ Some types → IsRightList origin m n types → lists types NSEC ≡ true → lists types NSEC3 ≡ owns m n NSEC3 → IsInNsecChain origin m n s
in_chain m n types s single next is right own hashed = record { single = single; next = next; types = types; listed = is; right = right; own = λ _. listed types NSEC own; hashed = agreeing origin m n types NSEC3 hashed }

skipping_chain : IsNsecChain origin skipping
skipping_chain = record {
  zone = skipping_zone;
  begins = refl;
  authoritative = owners_authoritative origin skipping refl;
  complete = all_own origin skipping refl;
  each = each_set NSEC (IsInNsecChain origin skipping) skipping (
    tt,
    (
      in_chain skipping origin (SOA ∷ RRSIG ∷ NSEC ∷ []) of_apex.1 refl refl refl (right_elsewhere origin skipping origin (SOA ∷ RRSIG ∷ NSEC ∷ []) refl refl refl refl) refl refl,
      (tt, (in_chain skipping d (DNAME ∷ RRSIG ∷ NSEC ∷ []) (of_owner origin).1 refl refl refl (right_elsewhere origin skipping d (DNAME ∷ RRSIG ∷ NSEC ∷ []) refl refl refl refl) refl refl, (tt, tt))),
    ),
  );
}

through_chain : IsNsecChain origin going_through
through_chain = record {
  zone = through_zone;
  begins = refl;
  authoritative = owners_authoritative origin going_through refl;
  complete = all_own origin going_through refl;
  each = each_set NSEC (IsInNsecChain origin going_through) going_through (
    tt,
    (
      in_chain going_through origin (SOA ∷ RRSIG ∷ NSEC ∷ []) of_apex.1 refl refl refl (right_elsewhere origin going_through origin (SOA ∷ RRSIG ∷ NSEC ∷ []) refl refl refl refl) refl refl,
      (
        tt,
        (
          in_chain going_through d (DNAME ∷ RRSIG ∷ NSEC ∷ []) (of_owner below).1 refl refl refl (right_elsewhere origin going_through d (DNAME ∷ RRSIG ∷ NSEC ∷ []) refl refl refl refl) refl refl,
          (tt, (in_chain going_through below (A ∷ RRSIG ∷ NSEC ∷ []) of_below.1 refl refl refl (right_elsewhere origin going_through below (A ∷ RRSIG ∷ NSEC ∷ []) refl refl refl refl) refl refl, tt)),
        ),
      ),
    ),
  );
}
