-- What a response says is provable, where each name has a hashed owner or none is hashed
use Rattle.std.proofs.Common.{◌≡◌, Bool, true, false, not, ◌&&◌, List, refl}
use Rattle.std.specs.Prelude.{Option, Some, None, Result, Ok, Err, IsOk}
use Rattle.zone_proto.specs.declared.error.ProtoError.{ProtoError}
use Rattle.zone_proto.specs.declared.nx_proof_kind.NxProofKind.{NxProofKind}
use Rattle.zone_proto.specs.declared.nx_proof_kind.NxProofKind.TheVariants as kind
use Rattle.zone_proto.specs.Names.{Name}
use Rattle.zone_response.specs.Denials.{hashed_names, is_provable}
use Rattle.zone_response.specs.Queries.{Zone}
use Rattle.zone_response.specs.Responses.{ds_at}
use Rattle.response_laws.specs.Agreement.{HasHashedOwners, ProvableByOwners}
use Rattle.response_laws.specs.Failures.{IsUnhashed}
use Rattle.response_laws.proofs.Hashings.{lacking}

refused : (r : Result Name ProtoError) (why : ProtoError) → r ≡ Err why → IsOk r → ⊥
refused (Ok n) why e h = cc
refused (Err e) why f h = cc

-- no name is without a hashed owner then
pub all_hashed : (z : Zone) (k : Option NxProofKind) → HasHashedOwners z k → (names : List Name) (why : ProtoError) → IsUnhashed z k names why → ⊥
all_hashed z (Some (kind.Nsec3 algorithm salt iterations opt_out)) owned names why (x, c, e) = refused _ why e (owned x)
all_hashed z (Some kind.Nsec) owned names why h = h
all_hashed z None owned names why h = h

pub provable_by_owners : ProvableByOwners
provable_by_owners z q p owned = by q.signed owned
  where
    names : List Name
    names = hashed_names z (ds_at z.sets p.end) p.made p.end

    ok : HasHashedOwners z z.nx_proof_kind → (b : Bool) → is_provable z (ds_at z.sets p.end) p.made p.end ≡ b → not b ≡ false
    ok h true e = refl
    ok h false e = let w = lacking z z.nx_proof_kind names e in absurd (all_hashed z z.nx_proof_kind h names w.0 w.1)

    by : (b : Bool) → (b ≡ true → HasHashedOwners z z.nx_proof_kind) → b && not (is_provable z (ds_at z.sets p.end) p.made p.end) ≡ false
    by true h = ok (h refl) (is_provable z (ds_at z.sets p.end) p.made p.end) refl
    by false h = refl
