-- A zone that is secured with denials by NSEC3 as a plan has them, by whatever signers, has a chain of them
use Rattle.std.proofs.Common.{◌≡◌, ℕ, Bool, true, false, not, ◌&&◌, cond, List, refl, ap, ◌∙◌, arith}
use Rattle.std.specs.Prelude.{if◌then◌else◌, IsTrue, Option, Some, None, is_some, option_map, ◌==◌}
use Rattle.std.specs.Option.{option_or}
use Rattle.zone_proto.specs.declared.nx_proof_kind.NxProofKind.TheVariants as kind
use Rattle.zone_proto.specs.declared.rdata.denial.NSEC3PARAM.{NSEC3PARAM as Nsec3Parameters}
use Rattle.zone_proto.specs.declared.rdata.signing.RRSIG.{RRSIG}
use Rattle.zone_proto.specs.declared.rr_key.RrKey.{RrKey}
use Rattle.zone_proto.specs.Keys.{key, key_eq}
use Rattle.zone_proto.specs.Names.{Name, name_eq}
use Rattle.zone_proto.specs.Sets.{RRset}
use Rattle.zone_proto.specs.Signing.{SignedPart}
use Rattle.zone_proto.specs.Stepping.{stepped}
use Rattle.zone_proto.specs.Types.{SOA, NSEC, NSEC3, NSEC3PARAM}
use Rattle.zone_proto.proofs.Names.Tree.{name_eq_itself}
use Rattle.zone_proto.proofs.Ordering.KeyOrder.{key_same}
use Rattle.zone_map.specs.Zones.{Sets, IsZone, set_at, owns}
use Rattle.zone_denial.specs.Nsec3Names.{nsec3_names}
use Rattle.zone_denial.specs.Nsec3Sets.{nsec3_set_at, nsec3_sets_at, announced_set}
use Rattle.zone_denial.specs.Chains.{chain_sets, IsNsec3Chain}
use Rattle.zone_denial.specs.Nsec3Zones.{hash_with, HasDistinctDigests, IsCircleName}
use Rattle.zone_denial.specs.WildcardLaws.{OwnsNone}
use Rattle.zone_denial.proofs.Chains.ChainSets.{all_by_nsec3}
use Rattle.zone_lookup.specs.StartOfAuthority.{serial}
use Rattle.zone_sha1.specs.Digests.{name_digest}
use Rattle.zone_signing.specs.Secured.{IsSecured, secured_set, signed}
use Rattle.zone_trimming.specs.Trimming.{trimmed_set, trimmed_at}
use Rattle.zone_planning.specs.declared.signer.PlanSigner.{PlanSigner}
use Rattle.zone_planner.specs.Plans.{denial_ttl, denied_by_hashes}
use Rattle.signing_laws.specs.TrimmedHashedChains.{HasTrimmedNsec3Sets}
use Rattle.signing_laws.proofs.SignedHashed.{chain_has_parameters}
use Rattle.signing_laws.proofs.TrimmedHashed.{trimmed_is_nsec3_chain}

-- the SOA's key is that of no NSEC3 set
not_apex : (origin n : Name) → key_eq (key origin SOA) (key n NSEC3) ≡ false
not_apex origin n = by (key_eq (key origin SOA) (key n NSEC3)) refl
  where
    by : (b : Bool) → key_eq (key origin SOA) (key n NSEC3) ≡ b → b ≡ false
    by true e = let same : SOA ≡ NSEC3 = ap (λ (k : RrKey). k.record_type.0) (key_same (key origin SOA) (key n NSEC3) e) in absurd (omega (arith, same))
    by false e = refl

some_mapped : {X Y : Type 0} (f : X → Y) (p : Option X) → is_some (option_map f p) ≡ is_some p
some_mapped f None = refl
some_mapped f (Some x) = refl

module _ (made_by : PlanSigner → SignedPart → ℕ → ℕ → Option RRSIG) (now : ℕ) (origin : Name) (signers : List PlanSigner) (m after : Sets) (p : Nsec3Parameters) (is : IsSecured made_by now origin signers (denied_by_hashes origin m p) after) where
  abbrev hash : Name → Option (List ℕ)
  hash = hash_with name_digest p

  abbrev made_at : Name → ℕ → Option RRset
  made_at = nsec3_sets_at origin m hash p (denial_ttl m origin) (serial m origin)

  abbrev Secured : RrKey → RRset → RRset
  Secured k = secured_set made_by now (key origin SOA) signers k

  owned : (n : Name) (t : ℕ) → owns after n t ≡ is_some (denied_by_hashes origin m p n t)
  owned n t = ap is_some (is.each n t) ∙ some_mapped (Secured (key n t)) (denied_by_hashes origin m p n t)

  others : (n : Name) (t : ℕ) → (t == NSEC3) ≡ false → (t == NSEC3PARAM) && name_eq n origin ≡ false → owns after n t ≡ owns m n t
  others n t e f =
      owned n t
      ∙ (λ i.
      is_some
      (option_or
      (option_map trimmed_set
      (cond (e i) (nsec3_set_at origin m hash p (denial_ttl m origin) (serial m origin) n)
      (cond (f i) (Some (announced_set origin m hash p (denial_ttl m origin) (serial m origin))) None)))
      (if not (e i) then set_at m n t else None)))

  denials : (n : Name) → option_map (λ (s : RRset). s.records) (set_at after n NSEC3) ≡ option_map (λ (s : RRset). s.records) (trimmed_at made_at n NSEC3)
  denials n = ap (option_map (λ (s : RRset). s.records)) (is.each n NSEC3) ∙ by (trimmed_at made_at n NSEC3)
    where
      kept : (s : RRset) (b : Bool) → key_eq (key origin SOA) (key n NSEC3) ≡ b → b ≡ false → (signed made_by now signers (if b then stepped s else s)).records ≡ s.records
      kept s true e f = absurd cc
      kept s false e f = refl

      by : (o : Option RRset) → option_map (λ (s : RRset). s.records) (option_map (Secured (key n NSEC3)) (option_or o None)) ≡ option_map (λ (s : RRset). s.records) o
      by None = refl
      by (Some s) = ap Some (kept s (key_eq (key origin SOA) (key n NSEC3)) refl (not_apex origin n))

  announced : owns after origin NSEC3PARAM ≡ true
  announced =
      owned origin NSEC3PARAM
      ∙ (λ i.
      is_some
      (option_or
      (option_map trimmed_set (cond (name_eq_itself origin i) (Some (announced_set origin m hash p (denial_ttl m origin) (serial m origin))) None))
      (set_at m origin NSEC3PARAM)))

  pub has_trimmed : HasTrimmedNsec3Sets origin m hash p (denial_ttl m origin) (serial m origin) after
  has_trimmed = record { others = others; denials = denials; announced = announced }

pub secured_is_nsec3_chain : (made_by : PlanSigner → SignedPart → ℕ → ℕ → Option RRSIG) (now : ℕ) (origin : Name) (signers : List PlanSigner) (beside m after : Sets) (p : Nsec3Parameters)
    → IsZone after → IsTrue (owns m origin SOA) → HasDistinctDigests (IsCircleName origin m p.opt_out) (hash_with name_digest p)
    → IsSecured made_by now origin signers (denied_by_hashes origin m p) after
    → IsNsec3Chain origin beside after (hash_with name_digest p) p (nsec3_names origin after p.opt_out)
secured_is_nsec3_chain made_by now origin signers beside m after p stands soa apart is =
    trimmed_is_nsec3_chain origin beside m after (hash_with name_digest p) p (denial_ttl m origin) (serial m origin) stands soa (has_trimmed made_by now origin signers m after p is) apart

pub secured_sets_stay : (made_by : PlanSigner → SignedPart → ℕ → ℕ → Option RRSIG) (now : ℕ) (origin : Name) (signers : List PlanSigner) (m after : Sets) (p : Nsec3Parameters)
    → IsZone after → IsTrue (owns m origin SOA) → OwnsNone m NSEC → HasDistinctDigests (IsCircleName origin m p.opt_out) (hash_with name_digest p)
    → IsSecured made_by now origin signers (denied_by_hashes origin m p) after
    → chain_sets (Some (kind.Nsec3 p.algorithm p.salt p.iterations p.opt_out)) after ≡ after
secured_sets_stay made_by now origin signers m after p stands soa none apart is =
    let chain = secured_is_nsec3_chain made_by now origin signers m m after p stands soa apart is in
    all_by_nsec3 after stands p.algorithm p.salt p.iterations p.opt_out
    (λ n. (has_trimmed made_by now origin signers m after p is).others n NSEC refl refl ∙ none n)
    (chain_has_parameters origin m after (hash_with name_digest p) p (nsec3_names origin after p.opt_out) chain)
