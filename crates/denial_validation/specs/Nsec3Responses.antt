-- A name, and what NSEC3 records of a response it is judged by
use Rattle.std.specs.Borrow.{Bor}
use Rattle.std.specs.Prelude.{ℕ, Bool, List, map, Option, option_map, cond, Some, length, ◌&&◌}
use Rattle.std.specs.List.{list_any}
use Rattle.zone_proto.specs.declared.rdata.denial.NSEC3.{NSEC3 as Nsec3Data}
use Rattle.zone_proto.specs.declared.record.Record.{Record}
use Rattle.zone_proto.specs.Names.{Name}
use Rattle.denial_validation.specs.declared.proof.Proof.{Proof}
use Rattle.denial_validation.specs.declared.proof.Proof.TheVariants.{WildcardAnswer}
use Rattle.denial_validation.specs.Judgement.{nsec3_proof}
use Rattle.denial_validation.specs.Nsec3Parameters.{digest_by, common_parameters, records_with}
use Rattle.denial_validation.specs.Nsec3Proofs as of
use Rattle.denial_validation.specs.Nsec3Records.{Nsec3Record}

-- the apex and the name, the hash, the parameters that the records have in common, and the records that have them
pub record Nsec3Response (H : Type 0) : Type 0 where
  pub apex : Name
  pub name : Name
  pub hash : H
  pub parameters : Nsec3Data
  pub records : List Nsec3Record

-- the records that are lent
abbrev pub lent_records : List (Bor Record) → List Record
lent_records lent = map (λ r. r.now) lent

module _ {H : Type 0} (digest_of : H → ℕ → List ℕ → Name → ℕ → Option (List ℕ)) where
  -- what is judged by records; nothing where they have no parameters in common
  abbrev pub nsec3_response : Name → List Record → Name → H → Option (Nsec3Response H)
  nsec3_response apex rs x hash =
      option_map (λ p. record { apex = apex; name = x; hash = hash; parameters = p; records = records_with apex p rs }) (common_parameters (digest_of hash) apex x rs)

  module _ (r : Nsec3Response H) where
    -- the digests of names by these parameters
    abbrev pub hash_of : Name → Option (List ℕ)
    hash_of = digest_by (digest_of r.hash) r.parameters

    -- ---- what the records say of names

    abbrev pub owner_in : Name → Option Name
    owner_in = of.owner_of r.apex hash_of

    abbrev pub is_matched_in : Name → Bool
    is_matched_in = of.is_matched r.apex hash_of r.records

    abbrev pub is_encloser_in : Name → Bool
    is_encloser_in = of.is_encloser r.apex hash_of r.records

    abbrev pub is_handing_on_in : Name → Bool
    is_handing_on_in = of.is_handing_on r.apex hash_of r.records

    abbrev pub is_covered_in : Name → Bool
    is_covered_in = of.is_covered r.apex hash_of r.records

    abbrev pub is_opted_out_in : Name → Bool
    is_opted_out_in = of.is_opted_out r.apex hash_of r.records

    abbrev pub is_denied_in : Name → ℕ → Bool
    is_denied_in = of.is_denied r.apex hash_of r.records

    abbrev pub answer_in : Name → Option Proof
    answer_in = of.wildcard_answer r.apex hash_of r.records

    -- ---- and of the name

    abbrev pub is_handed_on_here : Bool
    is_handed_on_here = of.is_handed_on r.apex hash_of r.records r.name

    abbrev pub shown_here : Option Name
    shown_here = of.shown_encloser r.apex hash_of r.records r.name

    abbrev pub proved_here : Option Name
    proved_here = of.proved_encloser r.apex hash_of r.records r.name

    abbrev pub opted_out_here : Bool
    opted_out_here = of.proves_opted_out r.apex hash_of r.records r.name

    abbrev pub proof_here : ℕ → Option Proof
    proof_here = nsec3_proof r.apex hash_of r.records r.name

-- the wildcard answer by an encloser, if the name next closer, which has this hashed owner, is covered, or else what there is by an encloser below
abbrev pub nearest_answer : {H : Type 0} → Nsec3Response H → Bool → Option Name → Name → Option Proof → Option Proof
nearest_answer r covered owner encloser below =
    cond covered (Some (WildcardAnswer (length encloser) (list_any (λ n. of.covers_owner r.apex n owner && n.opt_out) r.records))) below
