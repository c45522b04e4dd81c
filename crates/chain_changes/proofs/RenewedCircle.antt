-- A zone whose NSEC sets are renewed has all of them as they are to be, and so a circle of them
use Rattle.std.proofs.Common.{◌≡◌, ℕ, Bool, true, false, cond, List, refl, sym, ap, ◌∙◌}
use Rattle.std.specs.Prelude.{Option, Some, None, is_some, option_map}
use Rattle.zone_proto.specs.declared.rr_key.RrKey.{RrKey}
use Rattle.zone_proto.specs.Names.{Name}
use Rattle.zone_proto.specs.Sets.{RRset}
use Rattle.zone_proto.specs.Types.{NSEC}
use Rattle.zone_map.specs.Zones.{Sets, set_at, owns}
use Rattle.zone_denial.specs.Authority.{is_authoritative}
use Rattle.zone_denial.specs.NsecSets.{nsec_set, nsec_set_at}
use Rattle.zone_denial.proofs.Chain.NsecSecured.{secured_is_circle}
use Rattle.chain_changes.specs.Renewal.{nsec_records, is_renewed, HaveChanges, IsRenewed}
use Rattle.chain_changes.specs.RenewalLaws.{RenewedIsCircle}
use Rattle.chain_changes.proofs.OthersStay.{others_stay}

pub some_mapped : {X Y : Type 0} (f : X → Y) (p : Option X) → is_some (option_map f p) ≡ is_some p
some_mapped f None = refl
some_mapped f (Some x) = refl

-- sets of denial that are changed each in one way
module _ (change : RRset → RRset) (origin : Name) (m after put : Sets) (keys : List RrKey) (ttl serial : ℕ) (told : HaveChanges keys m after)
    (stood : (n : Name) → nsec_records after n ≡ option_map (λ (s : RRset). s.records) (option_map change (nsec_set_at origin m ttl serial n NSEC)))
    (is : IsRenewed origin keys after (λ n t. option_map change (nsec_set_at origin after ttl serial n t)) put) where
  held : (n : Name) → owns after n NSEC ≡ is_authoritative origin m NSEC n
  held n =
      sym (some_mapped (λ (s : RRset). s.records) (set_at after n NSEC))
      ∙ ap is_some (stood n)
      ∙ some_mapped (λ (s : RRset). s.records) (option_map change (nsec_set_at origin m ttl serial n NSEC))
      ∙ some_mapped change (nsec_set_at origin m ttl serial n NSEC)
      ∙ by (is_authoritative origin m NSEC n)
    where
      by : (b : Bool) → is_some (cond b (Some (nsec_set origin m ttl serial n)) None) ≡ b
      by true = refl
      by false = refl

  pub all_made : (n : Name) → nsec_records put n ≡ option_map (λ (s : RRset). s.records) (option_map change (nsec_set_at origin after ttl serial n NSEC))
  all_made n = by (is_renewed origin after keys n) refl
    where
      by : (b : Bool) → is_renewed origin after keys n ≡ b → nsec_records put n ≡ option_map (λ (s : RRset). s.records) (option_map change (nsec_set_at origin after ttl serial n NSEC))
      by true e = is.anew n e
      by false e =
          is.kept n e
          ∙ stood n
          ∙ ap (λ (o : Option RRset). option_map (λ (s : RRset). s.records) (option_map change o)) (sym (others_stay origin m after keys told held n e ttl serial NSEC))

-- ---- as they are

unchanged : {X : Type 0} (o : Option X) → option_map (λ (x : X). x) o ≡ o
unchanged None = refl
unchanged (Some x) = refl

pub renewed_is_circle : RenewedIsCircle
renewed_is_circle origin m after put keys ttl serial zone low told stood is =
    let same = λ (o : Option RRset). ap (option_map (λ (s : RRset). s.records)) (unchanged o) in
    let by : IsRenewed origin keys after (λ n t. option_map (λ (s : RRset). s) (nsec_set_at origin after ttl serial n t)) put = record {
      others = is.others;
      anew = λ n e. is.anew n e ∙ sym (same (nsec_set_at origin after ttl serial n NSEC));
      kept = is.kept;
    } in
    secured_is_circle origin after put ttl serial zone low (record {
      others = is.others;
      denials =
          λ n. all_made (λ s. s) origin m after put keys ttl serial told (λ a. stood a ∙ sym (same (nsec_set_at origin m ttl serial a NSEC))) by n
          ∙ same (nsec_set_at origin after ttl serial n NSEC);
    })
