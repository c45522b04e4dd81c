-- A zone that is secured with denials by NSEC as a plan has them, by whatever signers, has a chain of them
use Rattle.std.proofs.Common.{◌≡◌, ℕ, Bool, true, false, not, ◌&&◌, cond, List, refl, ap, ◌∙◌, arith}
use Rattle.std.specs.Prelude.{if◌then◌else◌, IsTrue, Option, Some, None, is_some, option_map, ◌==◌}
use Rattle.std.specs.Option.{option_or}
use Rattle.zone_proto.specs.declared.rdata.signing.RRSIG.{RRSIG}
use Rattle.zone_proto.specs.declared.rr_key.RrKey.{RrKey}
use Rattle.zone_proto.specs.Keys.{key, key_eq}
use Rattle.zone_proto.specs.Names.{Name, lower}
use Rattle.zone_proto.specs.Sets.{RRset}
use Rattle.zone_proto.specs.Signing.{SignedPart}
use Rattle.zone_proto.specs.Stepping.{stepped}
use Rattle.zone_proto.specs.Types.{SOA, NSEC}
use Rattle.zone_proto.proofs.Ordering.KeyOrder.{key_same}
use Rattle.zone_map.specs.Zones.{Sets, IsZone, set_at, owns}
use Rattle.zone_denial.specs.Authority.{is_authoritative}
use Rattle.zone_denial.specs.Chains.{IsNsecChain}
use Rattle.zone_denial.specs.NsecSets.{nsec_set, nsec_set_at}
use Rattle.zone_lookup.specs.StartOfAuthority.{serial}
use Rattle.zone_signing.specs.Secured.{IsSecured, secured_set, signed}
use Rattle.zone_trimming.specs.TrimmedChains.{HasTrimmedNsecSets}
use Rattle.zone_trimming.specs.Trimming.{trimmed_set, trimmed_at}
use Rattle.zone_trimming.proofs.TrimmedChain.{trimmed_is_nsec_chain}
use Rattle.zone_planning.specs.declared.signer.PlanSigner.{PlanSigner}
use Rattle.zone_planner.specs.Plans.{denial_ttl, denied_by_names}

-- the SOA's key is that of no NSEC set
not_apex : (origin n : Name) → key_eq (key origin SOA) (key n NSEC) ≡ false
not_apex origin n = by (key_eq (key origin SOA) (key n NSEC)) refl
  where
    by : (b : Bool) → key_eq (key origin SOA) (key n NSEC) ≡ b → b ≡ false
    by true e = let same : SOA ≡ NSEC = ap (λ (k : RrKey). k.record_type.0) (key_same (key origin SOA) (key n NSEC) e) in absurd (omega (arith, same))
    by false e = refl

some_mapped : {X Y : Type 0} (f : X → Y) (p : Option X) → is_some (option_map f p) ≡ is_some p
some_mapped f None = refl
some_mapped f (Some x) = refl

module _ (made_by : PlanSigner → SignedPart → ℕ → ℕ → Option RRSIG) (now : ℕ) (origin : Name) (signers : List PlanSigner) (m after : Sets) (is : IsSecured made_by now origin signers (denied_by_names origin m) after) where
  abbrev Secured : RrKey → RRset → RRset
  Secured k = secured_set made_by now (key origin SOA) signers k

  others : (n : Name) (t : ℕ) → (t == NSEC) ≡ false → owns after n t ≡ owns m n t
  others n t e =
      ap is_some (is.each n t)
      ∙ some_mapped (Secured (key n t)) (denied_by_names origin m n t)
      ∙ (λ i. is_some (option_or (option_map trimmed_set (cond (e i && is_authoritative origin m NSEC n) (Some (nsec_set origin m (denial_ttl m origin) (serial m origin) n)) None)) (if not (e i) then set_at m n t else None)))

  denials : (n : Name) → option_map (λ (s : RRset). s.records) (set_at after n NSEC) ≡ option_map (λ (s : RRset). s.records) (trimmed_at (nsec_set_at origin m (denial_ttl m origin) (serial m origin)) n NSEC)
  denials n = ap (option_map (λ (s : RRset). s.records)) (is.each n NSEC) ∙ by (trimmed_at (nsec_set_at origin m (denial_ttl m origin) (serial m origin)) n NSEC)
    where
      kept : (s : RRset) (b : Bool) → key_eq (key origin SOA) (key n NSEC) ≡ b → b ≡ false → (signed made_by now signers (if b then stepped s else s)).records ≡ s.records
      kept s true e f = absurd cc
      kept s false e f = refl

      by : (o : Option RRset) → option_map (λ (s : RRset). s.records) (option_map (Secured (key n NSEC)) (option_or o None)) ≡ option_map (λ (s : RRset). s.records) o
      by None = refl
      by (Some s) = ap Some (kept s (key_eq (key origin SOA) (key n NSEC)) refl (not_apex origin n))

  pub has_trimmed : HasTrimmedNsecSets origin m (denial_ttl m origin) (serial m origin) after
  has_trimmed = record { others = others; denials = denials }

pub secured_is_nsec_chain : (made_by : PlanSigner → SignedPart → ℕ → ℕ → Option RRSIG) (now : ℕ) (origin : Name) (signers : List PlanSigner) (m after : Sets)
    → IsZone m → IsZone after → lower origin ≡ origin → IsTrue (owns m origin SOA)
    → IsSecured made_by now origin signers (denied_by_names origin m) after → IsNsecChain origin after
secured_is_nsec_chain made_by now origin signers m after zone stands low soa is =
    trimmed_is_nsec_chain origin m after (denial_ttl m origin) (serial m origin) zone stands low soa
    (has_trimmed made_by now origin signers m after is)
