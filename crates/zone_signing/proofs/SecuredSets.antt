-- Each set of a zone, secured, makes the zone secured
use Rattle.std.proofs.Common.{◌≡◌, ℕ, Bool, true, false, List, [], ◌∷◌, map, refl, sym, ap, ◌∙◌}
use Rattle.std.specs.Prelude.{Option, Some, None, option_map, if◌then◌else◌}
use Rattle.zone_proto.specs.declared.rdata.signing.RRSIG.{RRSIG}
use Rattle.zone_proto.specs.declared.rr_key.RrKey.{RrKey}
use Rattle.zone_proto.specs.Keys.{key, key_eq}
use Rattle.zone_proto.specs.Names.{Name}
use Rattle.zone_proto.specs.Sets.{RRset}
use Rattle.zone_proto.specs.declared.record.Record.{Record}
use Rattle.zone_proto.specs.Signing.{SignedPart}
use Rattle.zone_proto.specs.Stepping.{stepped}
use Rattle.zone_proto.specs.Types.{SOA}
use Rattle.zone_proto.proofs.Ordering.KeyOrder.{key_itself}
use Rattle.zone_map.specs.Renewals.{with_signatures, stepped_under}
use Rattle.zone_map.specs.Zones.{Sets, set_at}
use Rattle.zone_signing.specs.Signatures.{signatures}
use Rattle.zone_signing.specs.Secured.{SetsBy, bare, signed, secured_set, IsSecured, KeepsRecords}
use Rattle.zone_signing.proofs.Changes.{changed, lookup-changed}

module _ {S : Type 0} (signature_of : S → SignedPart → ℕ → ℕ → Option RRSIG) (now : ℕ) (apex : RrKey) (signers : List S) where
  -- the signatures of the zone's SOA are those of its copy with the next serial
  pub signed_next : (k : RrKey) (s next : RRset) (made : List Record) → key_eq apex k ≡ true → next ≡ stepped (bare s) → made ≡ signatures signature_of now signers next
      → made ≡ (secured_set signature_of now apex signers k s).signatures
  signed_next k s next made e n m =
      m ∙ ap (signatures signature_of now signers) n ∙ ap (λ (b : Bool). signatures signature_of now signers (if b then stepped s else s)) (sym e)

  -- the signatures that a set under its key has once it is secured
  abbrev own : RrKey × RRset → List Record
  own e = (secured_set signature_of now apex signers e.0 e.1).signatures

  -- sets with these, of which the zone's SOA then gets the next serial, are the sets secured
  all_renewed : (es : Sets) → stepped_under apex (with_signatures es (map own es)) ≡ changed (secured_set signature_of now apex signers) es
  all_renewed [] = refl
  all_renewed (e ∷ es) =
      ap (λ (s : RRset). (e.0, s) ∷ stepped_under apex (with_signatures es (map own es))) (by (key_eq apex e.0))
      ∙ ap (λ (rest : Sets). (e.0, secured_set signature_of now apex signers e.0 e.1) ∷ rest) (all_renewed es)
    where
      by : (b : Bool) → let next : RRset = if b then stepped e.1 else e.1 in
          let made = signatures signature_of now signers next in
          (if b then stepped (record e.1 { signatures = made }) else record e.1 { signatures = made }) ≡ signed signature_of now signers next
      by true = refl
      by false = refl

  -- so each is found secured
  pub each_renewed : (es after : Sets) → after ≡ stepped_under apex (with_signatures es (map (λ (e : RrKey × RRset). (secured_set signature_of now apex signers e.0 e.1).signatures) es))
      → (n : Name) (t : ℕ) → set_at after n t ≡ option_map (secured_set signature_of now apex signers (key n t)) (set_at es n t)
  each_renewed es after is n t = ap (λ (m : Sets). set_at m n t) (is ∙ all_renewed es) ∙ lookup-changed (secured_set signature_of now apex signers) (key n t) es

-- a zone that is secured keeps its records
pub IsSecured-keeps : {S : Type 0} (signature_of : S → SignedPart → ℕ → ℕ → Option RRSIG) (now : ℕ) (origin : Name) (signers : List S) (sets : SetsBy) (after : Sets)
    → IsSecured signature_of now origin signers sets after → KeepsRecords origin sets after
IsSecured-keeps signature_of now origin signers sets after h =
    record {
      soa = ap (option_map bare) (h.each origin SOA) ∙ stepped_soa (key_eq (key origin SOA) (key origin SOA)) (key_itself (key origin SOA)) (sets origin SOA);
      rest = λ n t other. ap (option_map bare) (h.each n t) ∙ same (key_eq (key origin SOA) (key n t)) other (sets n t);
    }
  where
    stepped_soa : (b : Bool) → b ≡ true → (o : Option RRset)
        → option_map bare (option_map (λ s. signed signature_of now signers (if b then stepped s else s)) o) ≡ option_map (λ s. bare (stepped s)) o
    stepped_soa true e None = refl
    stepped_soa true e (Some s) = refl
    stepped_soa false e o = absurd cc

    same : (b : Bool) → b ≡ false → (o : Option RRset) → option_map bare (option_map (λ s. signed signature_of now signers (if b then stepped s else s)) o) ≡ option_map bare o
    same false e None = refl
    same false e (Some s) = refl
    same true e o = absurd cc
