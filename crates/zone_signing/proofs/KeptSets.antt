-- The sets of a zone, secured where its denials stay
use Rattle.std.proofs.Common.{◌≡◌, ℕ, ◌==◌, Bool, true, false, not, List, refl, sym, ap, ◌∙◌, subst, eqb-true}
use Rattle.std.specs.Prelude.{Option, Some, None, option_map, if◌then◌else◌, IsTrue}
use Rattle.std.specs.Option.{option_or}
use Rattle.zone_proto.specs.declared.rdata.signing.RRSIG.{RRSIG}
use Rattle.zone_proto.specs.declared.rr_key.RrKey.{RrKey}
use Rattle.zone_proto.specs.Keys.{key, key_eq}
use Rattle.zone_proto.specs.Names.{Name}
use Rattle.zone_proto.specs.Sets.{RRset}
use Rattle.zone_proto.specs.Signing.{SignedPart}
use Rattle.zone_proto.specs.Stepping.{stepped}
use Rattle.zone_proto.specs.Types.{SOA}
use Rattle.zone_proto.proofs.Ordering.KeyOrder.{key_same}
use Rattle.zone_map.specs.Standing.{renumbered, with_serial}
use Rattle.zone_map.specs.Upserts.{is_denial_type}
use Rattle.zone_map.specs.Zones.{Sets, set_at}
use Rattle.zone_signing.specs.Secured.{kept_at, signed, secured_set}
use Rattle.zone_signing.proofs.Changes.{lookup-changed}

module _ {S : Type 0} (signature_of : S → SignedPart → ℕ → ℕ → Option RRSIG) (now : ℕ) (origin : Name) (signers : List S) (denials serial : ℕ) (denies : IsTrue (is_denial_type denials)) where
  abbrev secured : RrKey → RRset → RRset
  secured = secured_set signature_of now (key origin SOA) signers

  -- the SOA denies nothing
  no_soa : (n : Name) (t : ℕ) → (t == denials) ≡ true → key_eq (key origin SOA) (key n t) ≡ false
  no_soa n t e = by (key_eq (key origin SOA) (key n t)) refl
    where
      by : (b : Bool) → key_eq (key origin SOA) (key n t) ≡ b → b ≡ false
      by true k =
          let same : SOA ≡ denials = ap (λ (q : RrKey). q.record_type.0) (key_same (key origin SOA) (key n t) k) ∙ eqb-true t denials e in
          let no : false ≡ true = subst (λ d. IsTrue (is_denial_type d)) (sym same) denies in
          absurd cc
      by false k = refl

  -- a set secured and then given a serial is the set with that serial, secured
  swapped : (n : Name) (t : ℕ) (s : RRset) → (t == denials) ≡ true → record (secured (key n t) s) { serial = serial } ≡ secured (key n t) (renumbered serial s)
  swapped n t s e = by (key_eq (key origin SOA) (key n t)) (no_soa n t e)
    where
      by : (b : Bool) → b ≡ false → record (signed signature_of now signers (if b then stepped s else s)) { serial = serial } ≡ signed signature_of now signers (if b then stepped (renumbered serial s) else renumbered serial s)
      by true h = absurd cc
      by false h = refl

  at : (n : Name) (t : ℕ) (o : Option RRset) (b : Bool) → (t == denials) ≡ b
      → option_map (λ (s : RRset). if b then record s { serial = serial } else s) (option_map (secured (key n t)) o)
      ≡ option_map (secured (key n t)) (option_or (if b then option_map (renumbered serial) o else None) (if not b then o else None))
  at n t None true e = refl
  at n t None false e = refl
  at n t (Some s) true e = ap Some (swapped n t s e)
  at n t (Some s) false e = refl

  pub each_kept : (zone after renumbered_after : Sets) → ((n : Name) (t : ℕ) → set_at after n t ≡ option_map (secured (key n t)) (set_at zone n t)) → renumbered_after ≡ with_serial denials serial after
      → (n : Name) (t : ℕ) → set_at renumbered_after n t ≡ option_map (secured (key n t)) (kept_at denials serial zone n t)
  each_kept zone after renumbered_after signed_all is n t =
      let h = λ (k : RrKey) (s : RRset). if k.record_type.0 == denials then record s { serial = serial } else s in
      ap (λ (m : Sets). set_at m n t) is ∙ lookup-changed h (key n t) after ∙ ap (option_map (h (key n t))) (signed_all n t)
      ∙ at n t (set_at zone n t) (t == denials) refl
