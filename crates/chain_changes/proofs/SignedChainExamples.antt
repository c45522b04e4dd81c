-- A small zone with a chain of NSEC sets as another signer may write it, listed by hand: of two TTLs, and with a next name in capitals
use Rattle.std.proofs.Common.{◌≡◌, ◌≢◌, ℕ, true, List, [], ◌∷◌, length, take, refl, sym, ap, subst, inl, inr, arith}
use Rattle.std.specs.Prelude.{codes, Some, is_some}
use Rattle.std.specs.Cmp.{both_ways}
use Rattle.std.specs.List.{Contains}
use Rattle.zone_proto.specs.declared.rdata.RData.TheVariants as V
use Rattle.zone_proto.specs.declared.rr_key.RrKey.{RrKey}
use Rattle.zone_proto.specs.Keys.{key}
use Rattle.zone_proto.specs.Names.{Name}
use Rattle.zone_proto.specs.Sets.{RRset}
use Rattle.zone_proto.specs.Types.{A, NS, SOA, RRSIG, NSEC, NSEC3, IN}
use Rattle.zone_proto.proofs.Members.{In, In-Contains, Contains-In}
use Rattle.zone_proto.proofs.SetLaws.{IsSet-alone}
use Rattle.zone_proto.proofs.Texts.TextFaults.{name_by_tests}
use Rattle.zone_map.specs.Zones.{Sets, IsStoredAt, IsZone, set_at, owns, types_at}
use Rattle.zone_map.proofs.Owned.{owner_in, type_in, type_owned}
use Rattle.zone_map.proofs.Stored.{IsZone-none, IsZone-put}
use Rattle.zone_denial.specs.Authority.{is_authoritative}
use Rattle.zone_denial.specs.Chains.{IsRightList, next_owner}
use Rattle.zone_denial.specs.NsecCircle.{next_of, types_of}
use Rattle.zone_denial.specs.NsecSets.{nsec_data}
use Rattle.zone_denial.proofs.Examples.NsecExamples.{origin, at_origin, record_with, entry, address, start}
use Rattle.zone_denial.proofs.Names.AuthoritativeNames.{authoritative_listed}
use Rattle.chain_changes.specs.SignedChains.{IsSignedNsecChain}
use Rattle.chain_changes.proofs.ListsMade.{told_apart}
use Rattle.chain_changes.proofs.SignedSets.{IsSignedSet, signed_from}

-- ---- a zone with a host, and a delegation behind it

abbrev host : Name
host = at_origin (codes "a")

abbrev child : Name
child = at_origin (codes "b")

abbrev servers : RrKey × RRset
servers = entry child NS (V.NS (codes "ns" ∷ child))

-- the NSEC set of an owner that says a next name and types
abbrev says : ℕ → Name → Name → List ℕ → RRset
says ttl n next types = record {
  owner = n;
  record_type = NSEC;
  class = IN;
  ttl = ttl;
  serial = 7;
  records = record (record_with n (V.NSEC (nsec_data next types))) { ttl = ttl } ∷ [];
  signatures = [];
}

abbrev of_origin : RRset
of_origin = says 300 origin host (SOA ∷ RRSIG ∷ NSEC ∷ [])

abbrev of_host : RRset
of_host = says 300 host child (A ∷ RRSIG ∷ NSEC ∷ [])

abbrev of_child : RRset
of_child = says 60 child (codes "EXAMPLE" ∷ []) (NS ∷ RRSIG ∷ NSEC ∷ [])

abbrev zone : Sets
zone = start ∷ (key origin NSEC, of_origin) ∷ address host ∷ (key host NSEC, of_host) ∷ servers ∷ (key child NSEC, of_child) ∷ []

-- ---- its sets are those of a zone

soa_stored : IsStoredAt origin SOA start.1
soa_stored = record { named = name_by_tests origin refl refl; owner = refl; record_type = refl; filled = λ e. cc; set = IsSet-alone origin SOA _ refl refl }

address_stored : IsStoredAt host A (address host).1
address_stored = record { named = name_by_tests host refl refl; owner = refl; record_type = refl; filled = λ e. cc; set = IsSet-alone host A _ refl refl }

servers_stored : IsStoredAt child NS servers.1
servers_stored = record { named = name_by_tests child refl refl; owner = refl; record_type = refl; filled = λ e. cc; set = IsSet-alone child NS _ refl refl }

origin_stored : IsStoredAt origin NSEC of_origin
origin_stored = record { named = name_by_tests origin refl refl; owner = refl; record_type = refl; filled = λ e. cc; set = IsSet-alone origin NSEC _ refl refl }

host_stored : IsStoredAt host NSEC of_host
host_stored = record { named = name_by_tests host refl refl; owner = refl; record_type = refl; filled = λ e. cc; set = IsSet-alone host NSEC _ refl refl }

child_stored : IsStoredAt child NSEC of_child
child_stored = record { named = name_by_tests child refl refl; owner = refl; record_type = refl; filled = λ e. cc; set = IsSet-alone child NSEC _ refl refl }

is_zone : IsZone zone
is_zone =
    IsZone-put (take 5 zone) (key child NSEC) of_child
    (IsZone-put (take 4 zone) (key child NS) servers.1
    (IsZone-put (take 3 zone) (key host NSEC) of_host
    (IsZone-put (take 2 zone) (key host A) (address host).1
    (IsZone-put (take 1 zone) (key origin NSEC) of_origin
    (IsZone-put [] (key origin SOA) start.1 IsZone-none soa_stored)
    origin_stored)
    address_stored)
    host_stored)
    servers_stored)
    child_stored

-- ---- the list of a name that owns one type beside NSEC

module _ (n : Name) (x : ℕ) (are : types_at zone n ≡ x ∷ NSEC ∷ []) where
  abbrev listed : List ℕ
  listed = x ∷ RRSIG ∷ NSEC ∷ []

  owned_of : (t : ℕ) → t ≢ RRSIG → Contains listed t → owns zone n t ≡ true
  owned_of t a c = by (Contains-In t listed c)
    where
      by : In t (x ∷ RRSIG ∷ NSEC ∷ []) → owns zone n t ≡ true
      by (inl e) = type_owned zone n t (subst (λ ts. In t ts) (sym are) (inl e))
      by (inr (inl e)) = absurd (a (sym e))
      by (inr (inr (inl e))) = type_owned zone n t (subst (λ ts. In t ts) (sym are) (inr (inl e)))
      by (inr (inr (inr i))) = absurd i

  listed_of : (t : ℕ) → owns zone n t ≡ true → Contains listed t
  listed_of t k = In-Contains t listed (by (subst (λ ts. In t ts) are (type_in zone n t k)))
    where
      by : In t (x ∷ NSEC ∷ []) → In t (x ∷ RRSIG ∷ NSEC ∷ [])
      by (inl e) = inl e
      by (inr (inl e)) = inr (inr (inl e))
      by (inr (inr i)) = absurd i

  signature : Contains listed RRSIG
  signature = In-Contains RRSIG listed (inr (inl refl))

  right : IsRightList origin zone n listed
  right = record {
    at_delegation = λ d t told. (owned_of t (told_apart t RRSIG told refl), listed_of t);
    exact = λ d t a b c. (owned_of t a, listed_of t);
    signed = λ d h. signature;
  }

  in_chain : (s : RRset) → length s.records ≡ 1 → next_of s ≡ Some (next_owner origin zone n) → types_of s ≡ Some listed → IsSignedSet origin zone n s
  in_chain s single next list = (
    record {
      single = single;
      next = next;
      types = listed;
      listed = list;
      right = right;
      own = λ d. In-Contains NSEC listed (inr (inr (inl refl)));
      hashed = (owned_of NSEC3 (λ e. omega (arith, e)), listed_of NSEC3);
    },
    signature,
  )

-- ---- its NSEC sets are a chain, and each list has RRSIG

-- what is true of the three names is true of each owner of NSEC
of_owner : (P : Name → Type 0) → P origin → P host → P child → (n : Name) → owns zone n NSEC ≡ true → P n
of_owner P p q r n k = by (owner_in zone n NSEC k)
  where
    by : In n (origin ∷ host ∷ child ∷ []) → P n
    by (inl e) = subst P e p
    by (inr (inl e)) = subst P e q
    by (inr (inr (inl e))) = subst P e r
    by (inr (inr (inr i))) = absurd i

has_all : (n : Name) → is_authoritative origin zone NSEC n ≡ true → owns zone n NSEC ≡ true
has_all n k = by (authoritative_listed origin zone NSEC n k)
  where
    by : In n (origin ∷ origin ∷ host ∷ host ∷ child ∷ child ∷ []) → owns zone n NSEC ≡ true
    by (inl e) = ap (λ x. owns zone x NSEC) (sym e)
    by (inr (inl e)) = ap (λ x. owns zone x NSEC) (sym e)
    by (inr (inr (inl e))) = ap (λ x. owns zone x NSEC) (sym e)
    by (inr (inr (inr (inl e)))) = ap (λ x. owns zone x NSEC) (sym e)
    by (inr (inr (inr (inr (inl e))))) = ap (λ x. owns zone x NSEC) (sym e)
    by (inr (inr (inr (inr (inr (inl e)))))) = ap (λ x. owns zone x NSEC) (sym e)
    by (inr (inr (inr (inr (inr (inr i)))))) = absurd i

same_set : (s r : RRset) → Some s ≡ Some r → s ≡ r
same_set s r e = cc

each : (n : Name) → owns zone n NSEC ≡ true → (s : RRset) → set_at zone n NSEC ≡ Some s → IsSignedSet origin zone n s
each =
    of_owner (λ n. (s : RRset) → set_at zone n NSEC ≡ Some s → IsSignedSet origin zone n s)
    (λ s e. subst (λ r. IsSignedSet origin zone origin r) (same_set of_origin s e) (in_chain origin SOA refl of_origin refl refl refl))
    (λ s e. subst (λ r. IsSignedSet origin zone host r) (same_set of_host s e) (in_chain host A refl of_host refl refl refl))
    (λ s e. subst (λ r. IsSignedSet origin zone child r) (same_set of_child s e) (in_chain child NS refl of_child refl refl refl))

is_signed : IsSignedNsecChain origin zone
is_signed =
    signed_from origin zone is_zone refl
    (λ n. both_ways (owns zone n NSEC) (is_authoritative origin zone NSEC n) (of_owner (λ x. is_authoritative origin zone NSEC x ≡ true) refl refl refl n) (has_all n))
    (λ n s e. each n (ap is_some e) s e)
