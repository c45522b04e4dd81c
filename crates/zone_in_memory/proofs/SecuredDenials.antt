-- The record sets of a zone that is to be secured, beside those that it has
use Rattle.std.proofs.Common.{◌≡◌, ℕ, ◌⊎◌, inl, inr, Bool, true, false, List, refl, sym, ap, ◌∙◌, true≢false}
use Rattle.std.specs.Prelude.{◌==◌, ◌&&◌, ◌||◌, cond, Option, Some, None}
use Rattle.std.specs.Option.{option_or}
use Rattle.zone_proto.specs.declared.nx_proof_kind.NxProofKind.{NxProofKind}
use Rattle.zone_proto.specs.declared.nx_proof_kind.NxProofKind.TheVariants as kind
use Rattle.zone_proto.specs.declared.rdata.denial.NSEC3PARAM.{NSEC3PARAM as Nsec3Parameters}
use Rattle.zone_proto.specs.Names.{Name, name_eq}
use Rattle.zone_proto.specs.Sets.{RRset}
use Rattle.zone_proto.specs.Types.{CNAME, NSEC, NSEC3, NSEC3PARAM}
use Rattle.zone_proto.proofs.Names.NameTree.{name_eq-Decides}
use Rattle.lookup_types.specs.declared.secure_error.SecureError.{SecureError}
use Rattle.lookup_types.specs.declared.secure_error.SecureError.TheVariants as error
use Rattle.zone_map.specs.Upserts.{is_denial_type}
use Rattle.zone_map.specs.Zones.{Sets, set_at, owns}
use Rattle.zone_denial.specs.NsecSets.{nsec_set_at}
use Rattle.zone_denial.specs.Nsec3Sets.{nsec3_set_at, announced_set, nsec3_fault}
use Rattle.zone_denial.specs.Nsec3Zones.{hash_with}
use Rattle.zone_lookup.specs.Securing.{with_denials, with_nsec3_sets, denial_fault}
use Rattle.zone_lookup.specs.StartOfAuthority.{minimum, serial}

-- the set at the origin that tells the parameters of NSEC3
abbrev pub is_announced : Name → Name → ℕ → Bool
is_announced origin n t = (t == NSEC3PARAM) && name_eq n origin

both_left : (a b : Bool) → a && b ≡ true → b ≡ true
both_left true b h = h
both_left false b h = absurd (true≢false (sym h))

module _ (digest_of : ℕ → List ℕ → Name → ℕ → Option (List ℕ)) (origin : Name) (m : Sets) where
  -- other sets than NSEC ones stay where NSEC denies
  pub nsec_keeps : (n : Name) (t : ℕ) → (t == NSEC) ≡ false → with_denials digest_of origin m (Some kind.Nsec) n t ≡ set_at m n t
  nsec_keeps n t other = ap (λ b. cond b (nsec_set_at origin m (minimum m origin) (serial m origin) n t) (set_at m n t)) other

  module _ (p : Nsec3Parameters) where
    abbrev new_set : Name → Option RRset
    new_set n = nsec3_set_at origin m (hash_with digest_of p) p (minimum m origin) (serial m origin) n

    abbrev announced : RRset
    announced = announced_set origin m (hash_with digest_of p) p (minimum m origin) (serial m origin)

    -- the sets, by what is asked of the type and the name
    abbrev chosen : Bool → Bool → Name → ℕ → Option RRset
    chosen is_nsec3 is_parameters n t = option_or (cond is_nsec3 (new_set n) (cond is_parameters (Some announced) None)) (cond is_nsec3 None (set_at m n t))

    -- other sets than NSEC3 ones and the parameters stay where NSEC3 denies
    pub nsec3_keeps : (n : Name) (t : ℕ) → (t == NSEC3) ≡ false → is_announced origin n t ≡ false → with_nsec3_sets digest_of origin m p n t ≡ set_at m n t
    nsec3_keeps n t other besides = (λ i. chosen (other i) (besides i) n t)

    -- NSEC3 sets are the new ones
    pub nsec3_made : (n : Name) → with_nsec3_sets digest_of origin m p n NSEC3 ≡ new_set n
    nsec3_made n = by (new_set n)
      where
        by : (o : Option RRset) → option_or o None ≡ o
        by None = refl
        by (Some s) = refl

    -- and the parameters are at the origin
    pub nsec3_announced : with_nsec3_sets digest_of origin m p origin NSEC3PARAM ≡ Some announced
    nsec3_announced = ap (λ b. chosen false b origin NSEC3PARAM) ((name_eq-Decides origin origin).1 refl)

    -- beside a CNAME nothing comes in but denials
    nsec3_beside : owns m origin CNAME ≡ false → (n : Name) (t : ℕ) → owns m n CNAME ≡ true → (is_denial_type t ≡ true) ⊎ (with_nsec3_sets digest_of origin m p n t ≡ set_at m n t)
    nsec3_beside absent n t alias = by (t == NSEC3) refl (is_announced origin n t) refl
      where
        denial : (b : Bool) → b || true ≡ true
        denial true = refl
        denial false = refl

        by : (b : Bool) → (t == NSEC3) ≡ b → (c : Bool) → is_announced origin n t ≡ c → (is_denial_type t ≡ true) ⊎ (with_nsec3_sets digest_of origin m p n t ≡ set_at m n t)
        by true is c e = inl (ap (λ b. (t == NSEC) || b) is ∙ denial (t == NSEC))
        by false is false e = inr (nsec3_keeps n t is e)
        by false is true e = absurd (true≢false (sym alias ∙ ap (λ k. owns m k CNAME) ((name_eq-Decides n origin).0 (both_left (t == NSEC3PARAM) (name_eq n origin) e)) ∙ absent))

  -- sets of any other type stay, whatever denies
  pub keeps_others : (k : Option NxProofKind) (n : Name) (t : ℕ) → (t == NSEC) ≡ false → (t == NSEC3) ≡ false → (t == NSEC3PARAM) ≡ false → with_denials digest_of origin m k n t ≡ set_at m n t
  keeps_others None n t a b c = refl
  keeps_others (Some kind.Nsec) n t a b c = nsec_keeps n t a
  keeps_others (Some (kind.Nsec3 algorithm salt iterations opt_out)) n t a b c =
      nsec3_keeps (record { algorithm = algorithm; opt_out = opt_out; iterations = iterations; salt = salt }) n t b (ap (λ d. d && name_eq n origin) c)

  no_alias : (owned : Bool) (fault : Option SecureError) → cond owned (Some error.CnameAtOrigin) fault ≡ None → owned ≡ false
  no_alias true fault e = absurd cc
  no_alias false fault e = refl

  -- beside a CNAME nothing comes in but denials, where the zone gets its denials
  pub keeps_beside : (k : Option NxProofKind) → denial_fault digest_of origin m k ≡ None → (n : Name) (t : ℕ) → owns m n CNAME ≡ true → (is_denial_type t ≡ true) ⊎ (with_denials digest_of origin m k n t ≡ set_at m n t)
  keeps_beside None fits n t alias = inr refl
  keeps_beside (Some kind.Nsec) fits n t alias = by (t == NSEC) refl
    where
      by : (b : Bool) → (t == NSEC) ≡ b → (is_denial_type t ≡ true) ⊎ (with_denials digest_of origin m (Some kind.Nsec) n t ≡ set_at m n t)
      by true is = inl (ap (λ b. b || (t == NSEC3)) is)
      by false is = inr (nsec_keeps n t is)
  keeps_beside (Some (kind.Nsec3 algorithm salt iterations opt_out)) fits n t alias =
      let p : Nsec3Parameters = record { algorithm = algorithm; opt_out = opt_out; iterations = iterations; salt = salt } in
      nsec3_beside p (no_alias (owns m origin CNAME) (nsec3_fault origin m (hash_with digest_of p) opt_out) fits) n t alias
