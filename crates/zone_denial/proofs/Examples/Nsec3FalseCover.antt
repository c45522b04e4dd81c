-- A set that covers nothing of a name isn't taken for one that does. Base32hex has a text of any numbers, and looks at each modulo 256: 320
-- has the text of 64, and yet stands past the end of every circle of octets. So a cover is told by octets alone.
use Rattle.std.proofs.Common.{◌≡◌, ℕ, true, false, List, [], ◌∷◌, refl, sym, ◌∙◌, true≢false, arith}
use Rattle.std.specs.Prelude.{Some}
use Rattle.std.specs.List.{AllByRecursion}
use Rattle.zone_proto.specs.Base32.{base32_text}
use Rattle.zone_proto.specs.HashedOwners.{hashed_owner}
use Rattle.zone_proto.specs.Keys.{key}
use Rattle.zone_proto.specs.Names.{octets_cmp}
use Rattle.zone_proto.specs.Ranges.{IsOctet}
use Rattle.zone_proto.specs.Types.{A, NSEC3, NSEC3PARAM}
use Rattle.zone_proto.proofs.SetLaws.{IsSet-alone}
use Rattle.zone_proto.proofs.Texts.TextFaults.{name_by_tests}
use Rattle.zone_map.specs.Zones.{set_at, IsStoredAt, IsZone}
use Rattle.zone_map.proofs.Stored.{IsZone-put}
use Rattle.zone_denial.specs.Covering.{covers}
use Rattle.zone_denial.specs.Nsec3Laws.{CoversName}
use Rattle.zone_denial.proofs.Examples.NsecExamples.{origin, bare, address}
use Rattle.zone_denial.proofs.Examples.NsecPremises.{bare_zone}
use Rattle.zone_denial.proofs.Examples.Nsec3Examples.{a, b, digest_in, table, announcing, hosts, origin_set, host_set}
use Rattle.zone_denial.proofs.Hashed.TextsApart.{owners_apart}

-- the set of the origin goes from 64 to 128, and b has the digest 32
no_cover : covers octets_cmp (64 ∷ []) (128 ∷ []) (32 ∷ []) ≡ false
no_cover = refl

same_text : base32_text (320 ∷ []) ≡ base32_text (64 ∷ [])
same_text = refl

would_cover : covers octets_cmp (320 ∷ []) (128 ∷ []) (32 ∷ []) ≡ true
would_cover = refl

-- ---- the sets are those of a zone

address_stored : IsStoredAt a A (address a).1
address_stored = record { named = name_by_tests a refl refl; owner = refl; record_type = refl; filled = λ e. cc; set = IsSet-alone a A _ refl refl }

announcing_stored : IsStoredAt origin NSEC3PARAM announcing
announcing_stored = record { named = name_by_tests origin refl refl; owner = refl; record_type = refl; filled = λ e. cc; set = IsSet-alone origin NSEC3PARAM _ refl refl }

host_stored : IsStoredAt (hashed_owner origin (128 ∷ [])) NSEC3 host_set
host_stored = record { named = name_by_tests (hashed_owner origin (128 ∷ [])) refl refl; owner = refl; record_type = refl; filled = λ e. cc; set = IsSet-alone (hashed_owner origin (128 ∷ [])) NSEC3 _ refl refl }

origin_stored : IsStoredAt (hashed_owner origin (64 ∷ [])) NSEC3 origin_set
origin_stored = record { named = name_by_tests (hashed_owner origin (64 ∷ [])) refl refl; owner = refl; record_type = refl; filled = λ e. cc; set = IsSet-alone (hashed_owner origin (64 ∷ [])) NSEC3 _ refl refl }

hosts_zone : IsZone hosts
hosts_zone =
    IsZone-put _ (key (hashed_owner origin (64 ∷ [])) NSEC3) origin_set
    (IsZone-put _ (key (hashed_owner origin (128 ∷ [])) NSEC3) host_set
    (IsZone-put _ (key origin NSEC3PARAM) announcing (IsZone-put bare (key a A) (address a).1 bare_zone address_stored) announcing_stored) host_stored) origin_stored

-- ---- so the set of the origin has one owner, and doesn't cover b

only_owner : (o : List ℕ) → AllByRecursion IsOctet o → set_at hosts (hashed_owner origin o) NSEC3 ≡ Some origin_set → o ≡ 64 ∷ []
only_owner o octets stands =
    owners_apart origin o (64 ∷ []) octets (omega arith, tt) (sym (hosts_zone.stored (hashed_owner origin o) NSEC3 origin_set stands).owner)

uncovered : CoversName origin hosts (digest_in table) origin_set b → ⊥
uncovered c =
    let owner = only_owner c.owner c.octets c.stands in
    let next : c.next ≡ 128 ∷ [] = said c.next c.said in
    let digest : c.digest ≡ 32 ∷ [] = said c.digest c.hashed in
    true≢false (sym c.covered ∙ (λ i. covers octets_cmp (owner i) (next i) (digest i)))
  where
    said : {d : List ℕ} (e : List ℕ) → Some d ≡ Some e → e ≡ d
    said e h = cc
