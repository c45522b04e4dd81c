-- What a response says isn't provable exactly where a name that is hashed for that has no hashed owner
use Rattle.std.proofs.Common.{◌≡◌, Bool, true, false, cond, not, ◌&&◌, List, [], ◌∷◌, refl, ap, ◌∙◌, inl, inr, true≢false}
use Rattle.std.specs.Prelude.{Option, Some, None, Result, Ok, Err}
use Rattle.zone_proto.specs.declared.error.ProtoError.{ProtoError}
use Rattle.zone_proto.specs.declared.nx_proof_kind.NxProofKind.{NxProofKind}
use Rattle.zone_proto.specs.declared.nx_proof_kind.NxProofKind.TheVariants as kind
use Rattle.zone_proto.specs.Names.{Name}
use Rattle.zone_proto.proofs.Members.{In, In-Contains, Contains-In}
use Rattle.zone_response.specs.Denials.{hashed_owner_of, have_owners_by, hashed_names, is_provable}
use Rattle.zone_response.specs.HashedDenials.{has_owner, have_owners}
use Rattle.zone_response.specs.Paths.{Path, path}
use Rattle.zone_response.specs.Queries.{Zone, Query, inquiry}
use Rattle.zone_response.specs.Responses.{ds_at, lacks_proofs, query_hashed}
use Rattle.response_laws.specs.Failures.{IsUnhashed}

-- ---- names

module _ (hash : Name → Result Name ProtoError) where
  -- where not all have a hashed owner, one has none
  one_without : (names : List Name) → have_owners hash names ≡ false → (why : ProtoError) × (x : Name) × In x names × (hash x ≡ Err why)
  one_without [] h = absurd (true≢false h)
  one_without (x ∷ names) h = by (hash x) refl (one_without names) h
    where
      by : (r : Result Name ProtoError) → hash x ≡ r → (have_owners hash names ≡ false → (why : ProtoError) × (y : Name) × In y names × (hash y ≡ Err why)) → has_owner r && have_owners hash names ≡ false
          → (why : ProtoError) × (y : Name) × In y (x ∷ names) × (hash y ≡ Err why)
      by (Ok o) e rest h = let w = rest h in (w.0, w.1, inr w.2, w.3)
      by (Err why) e rest h = (why, x, inl refl, e)

  not_all : (names : List Name) (x : Name) (why : ProtoError) → In x names → hash x ≡ Err why → have_owners hash names ≡ false
  not_all [] x why i e = absurd i
  not_all (y ∷ names) x why (inl q) e = ap (λ r. has_owner r && have_owners hash names) (ap hash q ∙ e)
  not_all (y ∷ names) x why (inr i) e = by (has_owner (hash y)) (not_all names x why i e)
    where
      by : (b : Bool) → have_owners hash names ≡ false → b && have_owners hash names ≡ false
      by true h = h
      by false h = refl

-- ---- the names of a zone

module _ (z : Zone) where
  pub lacking : (k : Option NxProofKind) (names : List Name) → have_owners_by z k names ≡ false → (why : ProtoError) × IsUnhashed z k names why
  lacking (Some (kind.Nsec3 algorithm salt iterations opt_out)) names h = let w = one_without (hashed_owner_of z algorithm salt iterations) names h in (w.0, (w.1, In-Contains w.1 names w.2, w.3))
  lacking (Some kind.Nsec) names h = absurd (true≢false h)
  lacking None names h = absurd (true≢false h)

  lacked : (k : Option NxProofKind) (names : List Name) (why : ProtoError) → IsUnhashed z k names why → have_owners_by z k names ≡ false
  lacked (Some (kind.Nsec3 algorithm salt iterations opt_out)) names why (x, c, e) = not_all (hashed_owner_of z algorithm salt iterations) names x why (Contains-In x names c) e
  lacked (Some kind.Nsec) names why h = absurd h
  lacked None names why h = absurd h

  -- ---- what a query asks

  module _ (q : Query) where
    abbrev p : Path
    p = path (inquiry z q) q.name

    abbrev names : List Name
    names = hashed_names z (ds_at z.sets p.end) p.made p.end

    abbrev provable : Bool
    provable = is_provable z (ds_at z.sets p.end) p.made p.end

    pub unhashed : lacks_proofs z q.signed (path (inquiry z q) q.name).made (path (inquiry z q) q.name).end ≡ true → (why : ProtoError) × (q.signed ≡ true) × IsUnhashed z z.nx_proof_kind (query_hashed z q) why
    unhashed h = by q.signed provable refl h
      where
        by : (signed b : Bool) → provable ≡ b → signed && not b ≡ true → (why : ProtoError) × (signed ≡ true) × IsUnhashed z z.nx_proof_kind (cond signed names []) why
        by true false e h = let w = lacking z.nx_proof_kind names e in (w.0, refl, w.1)
        by true true e h = absurd cc
        by false b e h = absurd cc

    pub unproved : (why : ProtoError) → q.signed ≡ true → IsUnhashed z z.nx_proof_kind (query_hashed z q) why → lacks_proofs z q.signed (path (inquiry z q) q.name).made (path (inquiry z q) q.name).end ≡ true
    unproved why signed h = by q.signed signed h
      where
        by : (signed : Bool) → signed ≡ true → IsUnhashed z z.nx_proof_kind (cond signed names []) why → signed && not provable ≡ true
        by true e h = ap not (lacked z.nx_proof_kind names why h)
        by false e h = absurd cc
