-- A zone whose NSEC3 sets are renewed has all of them as they are to be, and so a circle and a chain of them
use Rattle.std.proofs.Common.{◌≡◌, Bool, true, false, refl, sym, ap, ◌∙◌}
use Rattle.std.specs.Prelude.{Option, Some, None, is_some, option_map}
use Rattle.zone_proto.specs.Names.{Name}
use Rattle.zone_proto.specs.Sets.{RRset}
use Rattle.zone_proto.specs.Types.{NSEC3, NSEC3PARAM}
use Rattle.zone_map.specs.Zones.{set_at, owns}
use Rattle.zone_denial.specs.Nsec3Sets.{nsec3_set_at}
use Rattle.zone_denial.proofs.Chains.Circles.{nsec3_circle_is_chain}
use Rattle.zone_denial.proofs.Hashed.Nsec3Secured.{secured_is_nsec3_circle}
use Rattle.hashed_changes.specs.Among.{is_among}
use Rattle.hashed_changes.specs.Renewal.{nsec3_records, renewed}
use Rattle.hashed_changes.specs.RenewalLaws.{RenewedAreMade, RenewedIsNsec3Zone, RenewedIsNsec3Chain}
use Rattle.hashed_changes.proofs.OthersStay.{others_stay, apart_after}

some_mapped : {X Y : Type 0} (f : X → Y) (p : Option X) → is_some (option_map f p) ≡ is_some p
some_mapped f None = refl
some_mapped f (Some x) = refl

pub renewed_are_made : RenewedAreMade
renewed_are_made change origin m after put keys names hash parameters ttl serial is_change stood is o = by (is_among (renewed hash origin after names) o) refl
  where
    held : (x : Name) → owns after x NSEC3 ≡ is_some (nsec3_set_at origin m hash parameters ttl serial x)
    held x =
        sym (some_mapped (λ (s : RRset). s.records) (set_at after x NSEC3))
        ∙ ap is_some (stood x)
        ∙ some_mapped (λ (s : RRset). s.records) (option_map change (nsec3_set_at origin m hash parameters ttl serial x))
        ∙ some_mapped change (nsec3_set_at origin m hash parameters ttl serial x)

    by : (b : Bool) → is_among (renewed hash origin after names) o ≡ b → nsec3_records put o ≡ option_map (λ (s : RRset). s.records) (option_map change (nsec3_set_at origin after hash parameters ttl serial o))
    by true e = is.anew o e
    by false e =
        is.kept o e
        ∙ stood o
        ∙ ap (λ (p : Option RRset). option_map (λ (s : RRset). s.records) (option_map change p)) (sym (others_stay origin m after keys names hash parameters ttl serial is_change held o e))

-- ---- as they are made

unchanged : {X : Type 0} (p : Option X) → option_map (λ (x : X). x) p ≡ p
unchanged None = refl
unchanged (Some x) = refl

pub renewed_is_nsec3_zone : RenewedIsNsec3Zone
renewed_is_nsec3_zone origin m after put keys names hash parameters ttl serial below_root zone announced change stood is =
    secured_is_nsec3_circle origin after put hash parameters ttl serial below_root zone (record {
      others = λ n t e f. is.others n t e;
      denials = λ o. made o ∙ same (nsec3_set_at origin after hash parameters ttl serial o);
      announced = is.others origin NSEC3PARAM refl ∙ announced;
    }) (apart_after origin m after keys names hash parameters ttl serial change held)
  where
    same : (p : Option RRset) → option_map (λ (s : RRset). s.records) (option_map (λ (s : RRset). s) p) ≡ option_map (λ (s : RRset). s.records) p
    same p = ap (option_map (λ (s : RRset). s.records)) (unchanged p)

    held : (x : Name) → owns after x NSEC3 ≡ is_some (nsec3_set_at origin m hash parameters ttl serial x)
    held x = sym (some_mapped (λ (s : RRset). s.records) (set_at after x NSEC3)) ∙ ap is_some (stood x) ∙ some_mapped (λ (s : RRset). s.records) (nsec3_set_at origin m hash parameters ttl serial x)

    made : (o : Name) → nsec3_records put o ≡ option_map (λ (s : RRset). s.records) (option_map (λ (s : RRset). s) (nsec3_set_at origin after hash parameters ttl serial o))
    made =
        renewed_are_made (λ s. s) origin m after put keys names hash parameters ttl serial change (λ o. stood o ∙ sym (same (nsec3_set_at origin m hash parameters ttl serial o)))
        (record { others = is.others; anew = λ o e. is.anew o e ∙ sym (same (nsec3_set_at origin after hash parameters ttl serial o)); kept = is.kept })

pub renewed_is_nsec3_chain : RenewedIsNsec3Chain
renewed_is_nsec3_chain origin beside m after put keys names hash parameters ttl serial below_root zone announced change stood is =
    nsec3_circle_is_chain origin beside put hash parameters (renewed_is_nsec3_zone origin m after put keys names hash parameters ttl serial below_root zone announced change stood is)
