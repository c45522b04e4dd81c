-- What NSEC3 records prove, summed up
use Rattle.std.proofs.Common.{◌≡◌, ℕ, ◌==◌, ◌&&◌, not, cond, Bool, true, false, List, Option, Some, None, option_map, refl, sym, ap, ◌∙◌}
use Rattle.std.specs.Prelude.{if◌then◌else◌}
use Rattle.std.specs.Option.{option_map_or}
use Rattle.zone_proto.specs.declared.rdata.denial.NSEC3.{NSEC3 as Nsec3Data}
use Rattle.zone_proto.specs.declared.record.Record.{Record}
use Rattle.zone_proto.specs.Names.{Name, base_name, is_above, is_at_or_above, wildcard_under}
use Rattle.zone_proto.specs.Types.{DS}
use Rattle.denial_validation.specs.declared.proof.Proof.{Proof}
use Rattle.denial_validation.specs.declared.proof.Proof.TheVariants.{NameError, UnsignedDelegation, NoData, WildcardNoData}
use Rattle.denial_validation.specs.Judgement.{nsec3_proof}
use Rattle.denial_validation.specs.Nsec3Parameters.{common_parameters, digest_by, records_with, concluded}
use Rattle.denial_validation.specs.Nsec3Proofs.{denies_type, matches, is_of_unsigned, is_matched, is_denied, is_covered, is_handed_on, shown_encloser, proved_encloser, wildcard_answer, proves_name_error, proves_no_data, proves_wildcard_no_data, proves_opted_out, shows_unsigned_delegation}
use Rattle.denial_validation.specs.Nsec3Records.{Nsec3Record}
use Rattle.denial_validation.specs.Nsec3Responses.{Nsec3Response, hash_of, nsec3_response}
use Rattle.denial_validation.proofs.EncloserProofs.{wildcard_rest, unmatched_by, matched_none, with_rest, hidden_none}
use Rattle.denial_validation.proofs.ListTests.{list_any-both_none}

-- what is judged by the records of a response is judged by those that were read
pub judged_is : {H : Type 0} (digest_of : H → ℕ → List ℕ → Name → ℕ → Option (List ℕ)) (apex : Name) (rs : List Record) (x : Name) (hash : H) (response : Nsec3Response H)
    → Some response ≡ nsec3_response digest_of apex rs x hash → {A : Type 0} (nothing : A) (judgement : Name → (Name → Option (List ℕ)) → List Nsec3Record → Name → A)
    → judgement response.apex (hash_of digest_of response) response.records response.name ≡ concluded (digest_of hash) apex x rs nothing (λ digest read. judgement apex digest read x)
judged_is {H} digest_of apex rs x hash response read {A} nothing judgement = by (common_parameters (digest_of hash) apex x rs) read
  where
    by : (common : Option Nsec3Data) → Some response ≡ option_map (λ p. record { apex = apex; name = x; hash = hash; parameters = p; records = records_with apex p rs }) common
        → judgement response.apex (hash_of digest_of response) response.records response.name
        ≡ option_map_or (λ p. judgement apex (digest_by (digest_of hash) p) (records_with apex p rs) x) common nothing
    by None e = cc
    by (Some p) e =
        let is : response ≡ record { apex = apex; name = x; hash = hash; parameters = p; records = records_with apex p rs } = cc in
        ap (λ (r : Nsec3Response H). judgement r.apex (hash_of digest_of r) r.records r.name) is

never : (b : Bool) → (b && false) ≡ false
never true = refl
never false = refl

-- the first that holds, by the answers of the tests
abbrev pub first_of : (handed_on ds name_error unsigned no_data wildcard_no_data opted_out : Bool) → Option Proof → Option Proof
first_of handed_on ds name_error unsigned no_data wildcard_no_data opted_out answer =
    if handed_on then None
    else (if ds && opted_out then Some UnsignedDelegation
    else (if name_error then Some (NameError opted_out)
    else (if unsigned then Some UnsignedDelegation
    else (if no_data then Some NoData
    else (if wildcard_no_data then Some (WildcardNoData opted_out)
    else (if opted_out then Some UnsignedDelegation
    else answer))))))

-- below a zone cut or a DNAME that is shown nothing is
pub handed_none : (apex : Name) (hash : Name → Option (List ℕ)) (rs : List Nsec3Record) (x : Name) (t : ℕ) → is_handed_on apex hash rs x ≡ true → nsec3_proof apex hash rs x t ≡ None
handed_none apex hash rs x t e =
    λ i. first_of (e i) (t == DS) (proves_name_error apex hash rs x) (shows_unsigned_delegation apex hash rs x) (proves_no_data apex hash rs x t) (proves_wildcard_no_data apex hash rs x t) (proves_opted_out apex hash rs x) (wildcard_answer apex hash rs x)

module _ (apex : Name) (hash : Name → Option (List ℕ)) (rs : List Nsec3Record) (x : Name) (t : ℕ) (here : is_handed_on apex hash rs x ≡ false) where
  -- where no record matches x, its own record shows nothing
  own_none : is_matched apex hash rs x ≡ false → proves_no_data apex hash rs x t ≡ false
  own_none unmatched = ap (λ b. is_at_or_above apex x && b) (list_any-both_none (λ r. matches apex hash r x) (λ r. denies_type apex r x t) rs unmatched) ∙ never (is_at_or_above apex x)

  cut_none : is_matched apex hash rs x ≡ false → shows_unsigned_delegation apex hash rs x ≡ false
  cut_none unmatched = ap (λ b. is_above apex x && b) (list_any-both_none (λ r. matches apex hash r x) is_of_unsigned rs unmatched) ∙ never (is_above apex x)

  -- where one does, it shows all that is shown
  pub with_own : is_matched apex hash rs x ≡ true → (unsigned no_data : Bool) → unsigned ≡ shows_unsigned_delegation apex hash rs x → no_data ≡ proves_no_data apex hash rs x t
      → nsec3_proof apex hash rs x t ≡ (if unsigned then Some UnsignedDelegation else (if no_data then Some NoData else wildcard_answer apex hash rs x))
  with_own matched unsigned no_data cut own =
      let error = matched_none apex hash rs x (λ r. true) (λ e. is_covered apex hash rs (wildcard_under e)) matched in
      let wildcard = matched_none apex hash rs x (λ r. true) (λ e. is_denied apex hash rs (wildcard_under e) t) matched in
      let kept = matched_none apex hash rs x (λ r. r.opt_out) (λ e. true) matched in
      (λ i. first_of (here i) (t == DS) (error i) (sym cut i) (sym own i) (wildcard i) (kept i) (wildcard_answer apex hash rs x))
      ∙ ap (λ b. if b then Some UnsignedDelegation else (if unsigned then Some UnsignedDelegation else (if no_data then Some NoData else wildcard_answer apex hash rs x))) (never (t == DS))

  -- where the closest encloser is proved it is what the wildcard shows, or what opt-out leaves out, or a wildcard's
  -- answer
  pub with_wildcard : (wildcard_name : Name) → Some (base_name wildcard_name) ≡ proved_encloser apex hash rs x → wildcard_name ≡ wildcard_under (base_name wildcard_name)
      → (covered denied opted_out : Bool) → covered ≡ is_covered apex hash rs wildcard_name → denied ≡ is_denied apex hash rs wildcard_name t → opted_out ≡ proves_opted_out apex hash rs x
      → nsec3_proof apex hash rs x t
      ≡ first_of false (t == DS) covered false false denied opted_out (wildcard_answer apex hash rs x)
  with_wildcard wildcard_name proved is covered denied opted_out cover deny out =
      let unmatched = unmatched_by apex hash rs x (base_name wildcard_name) (sym proved) in
      let error = wildcard_rest apex hash rs x wildcard_name proved is (is_covered apex hash rs) ∙ sym cover in
      let wildcard = wildcard_rest apex hash rs x wildcard_name proved is (λ n. is_denied apex hash rs n t) ∙ sym deny in
      λ i. first_of (here i) (t == DS) (error i) (cut_none unmatched i) (own_none unmatched i) (wildcard i) (sym out i) (wildcard_answer apex hash rs x)

  -- where no record matches x and no closest encloser is proved, it is a wildcard's answer
  pub without_proof : is_matched apex hash rs x ≡ false → proved_encloser apex hash rs x ≡ None → proves_opted_out apex hash rs x ≡ false
      → nsec3_proof apex hash rs x t ≡ wildcard_answer apex hash rs x
  without_proof unmatched unproved kept =
      let error = with_rest apex hash rs x (λ e. is_covered apex hash rs (wildcard_under e)) ∙ ap (λ o. option_map_or (λ e. is_covered apex hash rs (wildcard_under e)) o false) unproved in
      let wildcard = with_rest apex hash rs x (λ e. is_denied apex hash rs (wildcard_under e) t) ∙ ap (λ o. option_map_or (λ e. is_denied apex hash rs (wildcard_under e) t) o false) unproved in
      (λ i. first_of (here i) (t == DS) (error i) (cut_none unmatched i) (own_none unmatched i) (wildcard i) (kept i) (wildcard_answer apex hash rs x))
      ∙ ap (λ b. if b then Some UnsignedDelegation else wildcard_answer apex hash rs x) (never (t == DS))

  -- so it is where no encloser is shown
  pub without_encloser : is_matched apex hash rs x ≡ false → shown_encloser apex hash rs x ≡ None → nsec3_proof apex hash rs x t ≡ wildcard_answer apex hash rs x
  without_encloser unmatched hidden =
      without_proof unmatched (ap (λ b. cond b (shown_encloser apex hash rs x) None) (hidden_none apex hash rs x (λ r. true) (λ e. true) hidden)) (hidden_none apex hash rs x (λ r. r.opt_out) (λ e. true) hidden)
