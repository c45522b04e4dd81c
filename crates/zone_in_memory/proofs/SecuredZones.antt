-- A zone that is secured
use Rattle.std.proofs.Common.{◌≡◌, ◌≢◌, ℕ, ◌≤◌, ◌<◌, ◌⊎◌, inl, inr, Bool, true, false, List, [], ◌∷◌, refl, sym, ap, ◌∙◌, subst, arith, true≢false, eq-eqb}
use Rattle.std.specs.Prelude.{◌==◌, Option, Some, None, Result, Ok, Err, IfErr, OnOk, OnErr, is_some, option_map, option_and_then, if◌then◌else◌}
use Rattle.zone_proto.specs.declared.nx_proof_kind.NxProofKind.{NxProofKind}
use Rattle.zone_proto.specs.declared.nx_proof_kind.NxProofKind.TheVariants as kind
use Rattle.zone_proto.specs.declared.rdata.RData.{RData}
use Rattle.zone_proto.specs.declared.rdata.RData.TheVariants as V
use Rattle.zone_proto.specs.declared.rdata.denial.NSEC3PARAM.{NSEC3PARAM as Nsec3Parameters}
use Rattle.zone_proto.specs.declared.rdata.signing.RRSIG.{RRSIG}
use Rattle.zone_proto.specs.declared.record.Record.{Record}
use Rattle.zone_proto.specs.declared.rr_key.RrKey.{RrKey}
use Rattle.zone_proto.specs.Keys.{key, key_eq}
use Rattle.zone_proto.specs.Names.{Name, lower}
use Rattle.zone_proto.specs.Sets.{RRset}
use Rattle.zone_proto.specs.Signing.{SignedPart}
use Rattle.zone_proto.specs.Stepping.{stepped, stepped_soa, stepped_data, stepped_records}
use Rattle.zone_proto.specs.Types.{SOA, CNAME, NSEC, NSEC3, NSEC3PARAM}
use Rattle.zone_proto.proofs.Ordering.KeyOrder.{key_itself, key_same}
use Rattle.lookup_types.specs.declared.secure_error.SecureError.{SecureError}
use Rattle.lookup_types.specs.declared.secure_error.SecureError.TheVariants as secure_error
use Rattle.zone_map.specs.Upserts.{is_denial_type, CnamesStandAlone}
use Rattle.zone_map.specs.Zones.{Sets, set_at, owns, IsZone}
use Rattle.zone_denial.specs.Authority.{owns_besides}
use Rattle.zone_denial.specs.NsecLaws.{IsNsecZone}
use Rattle.zone_denial.specs.Nsec3Sets.{HasNsec3Sets}
use Rattle.zone_denial.specs.Nsec3Zones.{hash_with, IsCircleName, IsNsec3Zone, HasDistinctDigests}
use Rattle.zone_denial.proofs.Names.AuthoritativeNames.{same_besides}
use Rattle.zone_denial.proofs.Chain.NsecSecured.{secured_is_circle}
use Rattle.zone_denial.proofs.Hashed.Nsec3Secured.{secured_is_nsec3_circle}
use Rattle.zone_signing.specs.Secured.{signed, secured_set, SetsBy, IsSecured}
use Rattle.zone_signing.specs.Signatures.{last_moment}
use Rattle.zone_signing.proofs.SecuredSets.{IsSecured-keeps}
use Rattle.zone_lookup.specs.Inner.{Inner}
use Rattle.zone_lookup.specs.Securing.{denied_by, nsec3_kind, with_denials, denial_fault}
use Rattle.zone_lookup.specs.StartOfAuthority.{soa, soa_of, first_soa, minimum, serial}
use Rattle.zone_in_memory.specs.Handlers.{Zone}
use Rattle.zone_in_memory.specs.Signing.{IsSecuring}
use Rattle.zone_in_memory.proofs.SecuredDenials.{keeps_others, keeps_beside, nsec_keeps, nsec3_keeps, nsec3_made, nsec3_announced}

-- the data of a stepped set's SOA
next_data : (d : RData) → soa_of (stepped_data d) ≡ option_map stepped_soa (soa_of d)
next_data (V.SOA a) = refl
next_data d = refl

next_first : (rs : List Record) → first_soa (stepped_records rs) ≡ option_map stepped_soa (first_soa rs)
next_first [] = refl
next_first (r ∷ rs) = next_data r.rdata

module _ {S : Type 0} (signature_of : S → SignedPart → ℕ → ℕ → Option RRSIG) (now : ℕ) (digest_of : ℕ → List ℕ → Name → ℕ → Option (List ℕ)) (origin : Name) (signers : List S) (before after : Sets) where
  -- the zone is secured with denials of a kind
  abbrev pub IsSecuredBy : Option NxProofKind → Type 0
  IsSecuredBy kind = IsSecured signature_of now origin signers (with_denials digest_of origin before kind) after

  module _ (kind : Option NxProofKind) (h : IsSecuredBy kind) where
    -- the zone's SOA has the next serial
    soa-secured : soa after origin ≡ option_map stepped_soa (soa before origin)
    soa-secured =
        ap (option_and_then (λ (s : RRset). first_soa s.records)) (h.each origin SOA ∙ ap (option_map (secured_set signature_of now (key origin SOA) signers (key origin SOA))) (keeps_others digest_of origin before kind origin SOA refl refl refl))
        ∙ by (key_eq (key origin SOA) (key origin SOA)) (key_itself (key origin SOA)) (set_at before origin SOA)
      where
        by : (b : Bool) → b ≡ true → (o : Option RRset)
            → option_and_then (λ (s : RRset). first_soa s.records) (option_map (λ (s : RRset). signed signature_of now signers (if b then stepped s else s)) o)
            ≡ option_map stepped_soa (option_and_then (λ (s : RRset). first_soa s.records) o)
        by true e None = refl
        by true e (Some s) = next_first s.records
        by false e o = absurd cc

    -- what is signed is owned, and nothing else
    owned-signed : (n : Name) (t : ℕ) → owns after n t ≡ is_some (with_denials digest_of origin before kind n t)
    owned-signed n t = ap is_some (h.each n t) ∙ by (with_denials digest_of origin before kind n t)
      where
        by : (o : Option RRset) → is_some (option_map (secured_set signature_of now (key origin SOA) signers (key n t)) o) ≡ is_some o
        by None = refl
        by (Some s) = refl

    alone-secured : denial_fault digest_of origin before kind ≡ None → CnamesStandAlone before → CnamesStandAlone after
    alone-secured fits given =
        record {
          alone = λ n t c o.
              let alias = sym (owned-signed n CNAME ∙ ap is_some (keeps_others digest_of origin before kind n CNAME refl refl refl)) ∙ c in
              by n t alias o (keeps_beside digest_of origin before kind fits n t alias);
        }
      where
        by : (n : Name) (t : ℕ) → owns before n CNAME ≡ true → owns after n t ≡ true → (is_denial_type t ≡ true) ⊎ (with_denials digest_of origin before kind n t ≡ set_at before n t) → (t ≡ CNAME) ⊎ (is_denial_type t ≡ true)
        by n t alias o (inl denial) = inr denial
        by n t alias o (inr same) = given.alone n t alias (sym (owned-signed n t ∙ ap is_some same) ∙ o)

    -- a set that isn't the zone's SOA has the records that were to be signed
    records-signed : (n : Name) (t : ℕ) → (t == SOA) ≡ false → option_map (λ (s : RRset). s.records) (set_at after n t) ≡ option_map (λ (s : RRset). s.records) (with_denials digest_of origin before kind n t)
    records-signed n t other = ap (option_map (λ (s : RRset). s.records)) (h.each n t) ∙ kept (with_denials digest_of origin before kind n t)
      where
        apart : key_eq (key origin SOA) (key n t) ≡ false
        apart = go (key_eq (key origin SOA) (key n t)) refl
          where
            go : (b : Bool) → key_eq (key origin SOA) (key n t) ≡ b → b ≡ false
            go true e = absurd (true≢false (sym (eq-eqb t SOA (sym (ap (λ (k : RrKey). k.record_type.0) (key_same (key origin SOA) (key n t) e)))) ∙ other))
            go false e = refl

        kept : (o : Option RRset) → option_map (λ (s : RRset). s.records) (option_map (secured_set signature_of now (key origin SOA) signers (key n t)) o) ≡ option_map (λ (s : RRset). s.records) o
        kept None = refl
        kept (Some s) = by (key_eq (key origin SOA) (key n t)) apart
          where
            by : (b : Bool) → b ≡ false → option_map (λ (r : RRset). r.records) (Some (signed signature_of now signers (if b then stepped s else s))) ≡ Some s.records
            by false e = refl
            by true e = absurd cc

  -- where NSEC denies, its sets are a circle, with the origin on it where that owns a set besides
  module _ (h : IsSecuredBy (Some kind.Nsec)) where
    owned_besides : (n : Name) (t : ℕ) → (t == NSEC) ≡ false → owns after n t ≡ owns before n t
    owned_besides n t other = owned-signed (Some kind.Nsec) h n t ∙ ap is_some (nsec_keeps digest_of origin before n t other)

    IsNsecZone-secured : lower origin ≡ origin → IsZone before → IsZone after → owns_besides before NSEC origin ≡ true → IsNsecZone origin after
    IsNsecZone-secured lowered zone fresh besides =
        record {
          zone = fresh;
          circle = secured_is_circle origin before after (minimum before origin) (serial before origin) zone lowered (record { others = owned_besides; denials = λ n. records-signed (Some kind.Nsec) h n NSEC refl });
          on_circle = same_besides NSEC refl origin before after owned_besides origin ∙ besides;
        }

  -- where NSEC3 denies, its sets are one, where the hash tells names apart
  module _ (p : Nsec3Parameters) (h : IsSecuredBy (Some (nsec3_kind p))) where
    HasNsec3Sets-secured : HasNsec3Sets origin before (hash_with digest_of p) p (minimum before origin) (serial before origin) after
    HasNsec3Sets-secured =
        record {
          others = λ n t other besides. owned-signed (Some (nsec3_kind p)) h n t ∙ ap is_some (nsec3_keeps digest_of origin before p n t other besides);
          denials = λ n. records-signed (Some (nsec3_kind p)) h n NSEC3 refl ∙ ap (option_map (λ (s : RRset). s.records)) (nsec3_made digest_of origin before p n);
          announced = owned-signed (Some (nsec3_kind p)) h origin NSEC3PARAM ∙ ap is_some (nsec3_announced digest_of origin before p);
        }

    IsNsec3Zone-secured : IsZone after → origin ≢ [] → HasDistinctDigests (IsCircleName origin before p.opt_out) (hash_with digest_of p) → IsNsec3Zone origin after (hash_with digest_of p) p
    IsNsec3Zone-secured fresh below_root apart =
        secured_is_nsec3_circle origin before after (hash_with digest_of p) p (minimum before origin) (serial before origin) below_root fresh HasNsec3Sets-secured apart

-- what a call does that swaps the secured sets in, or leaves all as it was
module _ {S H : Type 0} (signature_of : S → SignedPart → ℕ → ℕ → Option RRSIG) (digest_of : H → ℕ → List ℕ → Name → ℕ → Option (List ℕ)) (old : Zone S H) (now : ℕ) (after : Inner S) where
  abbrev before : Sets
  before = old.inner.records

  abbrev kind_of_denials : Option NxProofKind
  kind_of_denials = denied_by old.kind old.inner.signers

  abbrev sets : SetsBy
  sets = with_denials (digest_of old.hash) old.origin before kind_of_denials

  abbrev fault : Option SecureError
  fault = denial_fault (digest_of old.hash) old.origin before kind_of_denials

  pub IsSecuring-made : {A : Type 0} (result : Result A SecureError) → now ≤ last_moment → lower old.origin ≡ old.origin → IsZone before → IsZone after.records
      → OnOk result (IsSecured signature_of now old.origin old.inner.signers sets after.records) → OnOk result (fault ≡ None) → after.signers ≡ old.inner.signers
      → IfErr result (λ e. (e ≡ secure_error.Memory) ⊎ (fault ≡ Some e)) → OnErr result (after ≡ old.inner) → IsSecuring signature_of digest_of old now result (record old { inner = after })
  IsSecuring-made (Ok a) soon lowered zone fresh h fits signers err same =
      record {
        secured = h;
        records = IsSecured-keeps signature_of now old.origin old.inner.signers sets after.records h;
        circle = λ due. IsNsecZone-secured signature_of now (digest_of old.hash) old.origin old.inner.signers before after.records (by due.made) lowered zone fresh due.origin;
        hashed_circle = λ p due.
            IsNsec3Zone-secured signature_of now (digest_of old.hash) old.origin old.inner.signers before after.records p (by due.made) fresh due.below_root due.apart;
        serial = soa-secured signature_of now (digest_of old.hash) old.origin old.inner.signers before after.records kind_of_denials h;
        rest = ap (λ (ss : List S). record old { inner = record { records = after.records; signers = ss } }) signers;
        cnames = alone-secured signature_of now (digest_of old.hash) old.origin old.inner.signers before after.records kind_of_denials h fits;
        late = λ past. absurd (omega (arith, soon, past));
        fits = fits;
        err = tt;
        same = tt;
      }
    where
      by : {k : Option NxProofKind} → kind_of_denials ≡ k → IsSecuredBy signature_of now (digest_of old.hash) old.origin old.inner.signers before after.records k
      by is = subst (λ k. IsSecured signature_of now old.origin old.inner.signers (with_denials (digest_of old.hash) old.origin before k) after.records) is h
  IsSecuring-made (Err e) soon lowered zone fresh h fits signers err same =
      record {
        secured = tt;
        records = tt;
        circle = tt;
        hashed_circle = tt;
        serial = tt;
        rest = ap (λ (ss : List S). record old { inner = record { records = after.records; signers = ss } }) signers;
        cnames = λ given. subst CnamesStandAlone (sym (ap (λ (i : Inner S). i.records) same)) given;
        late = λ past. absurd (omega (arith, soon, past));
        fits = tt;
        err = by err;
        same = ap (λ (i : Inner S). record old { inner = i }) same;
      }
    where
      by : (e ≡ secure_error.Memory) ⊎ (fault ≡ Some e) → (e ≡ secure_error.Memory) ⊎ (((e ≡ secure_error.TimeOutOfRange) × (last_moment < now)) ⊎ (fault ≡ Some e))
      by (inl memory) = inl memory
      by (inr is) = inr (inr is)
