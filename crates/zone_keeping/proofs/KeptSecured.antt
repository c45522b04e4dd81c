-- A plan with standing signatures, once what is left blank is answered, is the zone secured by signers that answer so, or by what stands
use Rattle.std.proofs.Common.{◌≡◌, ℕ, List, [], ◌∷◌, refl, sym, ap, ◌∙◌, subst}
use Rattle.std.specs.Prelude.{Option, Some, None, option_map}
use Rattle.std.specs.List.{All}
use Rattle.std.specs.Map.{lookup}
use Rattle.std.proofs.lemmas.List.Elements.{All-head, All-tail}
use Rattle.zone_proto.specs.declared.rdata.signing.DNSKEY.{DNSKEY}
use Rattle.zone_proto.specs.declared.rr_key.RrKey.{RrKey}
use Rattle.zone_proto.specs.Keys.{key, key_eq}
use Rattle.zone_proto.specs.Names.{Name}
use Rattle.zone_proto.specs.Sets.{RRset}
use Rattle.zone_proto.specs.Signing.{SignedPart}
use Rattle.zone_proto.specs.Types.{SOA}
use Rattle.zone_map.specs.Zones.{Sets, set_at, AreStored}
use Rattle.zone_signing.specs.Signatures.{signatures}
use Rattle.zone_signing.specs.Secured.{SetsBy, signed, secured_set, IsSecured}
use Rattle.zone_signing.proofs.Changes.{changed, lookup-changed}
use Rattle.zone_planning.specs.declared.signer.PlanSigner.{PlanSigner}
use Rattle.zone_planning.specs.Answering.{plans, ArePlanned, AreFound}
use Rattle.zone_keeping.specs.declared.span.Span.{Span}
use Rattle.zone_keeping.specs.Keeping.{keeping}
use Rattle.zone_keeping.specs.KeepingLaws.{IsKeptPlan}
use Rattle.zone_keeping.proofs.KeptAnswers.{all_kept, all_answered, all_asked}

module _ (octets_of : PlanSigner → SignedPart → List ℕ) (span : Span) (usable : List (Option DNSKEY)) (old : Sets) (now : ℕ) (origin : Name) (signers : List PlanSigner) (sets : SetsBy) where
  -- each set of a zone that planning signers secured has the blank signatures that they plan
  planned_each : (m : Sets) → IsSecured plans now origin signers sets m → (es : Sets) → All (λ (e : RrKey × RRset). lookup (key_eq e.0) m ≡ Some e.1) es → ArePlanned now signers es
  planned_each m is [] h = tt
  planned_each m is (e ∷ es) h =
      let P : RrKey × RRset → Type 0 = λ e. lookup (key_eq e.0) m ≡ Some e.1 in
      (by (sets e.0.name e.0.record_type.0) (sym (All-head P e es h) ∙ is.each e.0.name e.0.record_type.0), planned_each m is es (All-tail P e es h))
    where
      by : (o : Option RRset) → Some e.1 ≡ option_map (secured_set plans now (key origin SOA) signers (key e.0.name e.0.record_type.0)) o → e.1.signatures ≡ signatures plans now signers e.1
      by None q = absurd cc
      by (Some s) q =
          let same : e.1 ≡ secured_set plans now (key origin SOA) signers (key e.0.name e.0.record_type.0) s = cc in
          subst (λ (x : RRset). x.signatures ≡ signatures plans now signers x) (sym same) refl

  all_changed : (m : Sets) → all_kept octets_of span usable old now signers m ≡ changed (λ k s. signed (keeping octets_of span usable old) now signers s) m
  all_changed [] = refl
  all_changed (e ∷ es) = ap (λ (m : Sets). (e.0, signed (keeping octets_of span usable old) now signers e.1) ∷ m) (all_changed es)

  signed_over : (q : RrKey) (o : Option RRset) → option_map (signed (keeping octets_of span usable old) now signers) (option_map (secured_set plans now (key origin SOA) signers q) o)
      ≡ option_map (secured_set (keeping octets_of span usable old) now (key origin SOA) signers q) o
  signed_over q None = refl
  signed_over q (Some s) = refl

  pub kept_secured : (m : Sets) → IsSecured plans now origin signers sets m → AreFound m → AreStored m → IsKeptPlan octets_of span usable old now origin signers sets m
  kept_secured m is found stored =
      let planned = planned_each m is m found in
      record {
        secured = record {
          each = λ n t.
              ap (λ (x : Sets). set_at x n t) (all_answered octets_of span usable old now signers m planned stored ∙ all_changed m)
              ∙ lookup-changed (λ k s. signed (keeping octets_of span usable old) now signers s) (key n t) m
              ∙ ap (option_map (signed (keeping octets_of span usable old) now signers)) (is.each n t)
              ∙ signed_over (key n t) (sets n t);
        };
        count = all_asked octets_of span usable old now signers m planned stored;
      }
