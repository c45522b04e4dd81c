-- Where neither the name nor an encloser of it is shown, NSEC3 records prove at most an answer of a wildcard; and
-- outside the zone nothing
use Rattle.std.proofs.Common.{◌≡◌, ℕ, Bool, true, false, cond, not, ◌&&◌, List, [], ◌∷◌, refl, sym, ◌∙◌, subst, true≢false, ◌⊎◌, inl, inr}
use Rattle.std.specs.Prelude.{Option, Some, None, reverse, ◌==◌, if◌then◌else◌}
use Rattle.std.specs.List.{list_any}
use Rattle.std.specs.Option.{option_map_or}
use Rattle.std.proofs.lemmas.Grind.{reverse_onto}
use Rattle.zone_proto.specs.Names.{Name, is_above, wildcard_under}
use Rattle.zone_proto.specs.Types.{DS}
use Rattle.zone_proto.proofs.Members.{In, In-from_append}
use Rattle.zone_proto.proofs.Names.NameTree.{above_test, is_at_or_above_complete}
use Rattle.zone_denial.proofs.Chain.NsecBelow.{above_at}
use Rattle.denial_validation.specs.declared.proof.Proof.{Proof}
use Rattle.denial_validation.specs.declared.proof.Proof.TheVariants.{NameError, UnsignedDelegation, NoData, WildcardNoData}
use Rattle.denial_validation.specs.Encloser.{next_closer}
use Rattle.denial_validation.specs.Judgement.{nsec3_proof}
use Rattle.denial_validation.specs.Nsec3Proofs.{is_of_unsigned, matches, covers, is_matched, is_covered, is_denied, is_handed_on, is_encloser, shown_encloser, encloser_and, proves_no_data, proves_opted_out, shows_unsigned_delegation, wildcard_answer}
use Rattle.denial_validation.specs.Nsec3Records.{Nsec3Record}
use Rattle.denial_validation.proofs.WildcardAnswers.{answers_end}
use Rattle.denial_laws.specs.Nsec3Soundness.{Nsec3NothingOutside}
use Rattle.denial_laws.proofs.OwnTypes.{neither}
use Rattle.denial_laws.proofs.Tests.{refuted, right_false}

pub In-from_reverse : {X : Type 0} (y : X) (xs : List X) → In y (reverse xs) → In y xs
In-from_reverse y [] i = i
In-from_reverse y (x ∷ xs) i = by (In-from_append y (reverse xs) (x ∷ []) (subst (In y) (reverse_onto xs x []) i)) (In-from_reverse y xs)
  where
    by : In y (reverse xs) ⊎ In y (x ∷ []) → (In y (reverse xs) → In y xs) → In y (x ∷ xs)
    by (inl j) more = inr (more j)
    by (inr (inl e)) more = inl e
    by (inr (inr j)) more = absurd j

pub same_proof : (p q : Proof) → Some p ≡ Some q → p ≡ q
same_proof p q e = cc

-- ---- where neither the name nor an encloser of it is shown, at most an answer of a wildcard is proved

module _ (origin : Name) (hash : Name → Option (List ℕ)) (rs : List Nsec3Record) (x : Name) (unproved : (cover : Nsec3Record → Bool) (rest : Name → Bool) → encloser_and origin hash rs cover x rest ≡ false)
    (untyped : (t : ℕ) → proves_no_data origin hash rs x t ≡ false) (undelegated : shows_unsigned_delegation origin hash rs x ≡ false)
  where
    out : proves_opted_out origin hash rs x ≡ false
    out = unproved (λ r. r.opt_out) (λ e. true)

    pub only_answers : (t : ℕ) → nsec3_proof origin hash rs x t ≡ cond (is_handed_on origin hash rs x) None (wildcard_answer origin hash rs x)
    only_answers t =
        λ i. if is_handed_on origin hash rs x then None
        else (if right_false (t == DS) (proves_opted_out origin hash rs x) out i then Some UnsignedDelegation
        else (if unproved (λ r. true) (λ e. is_covered origin hash rs (wildcard_under e)) i then Some (NameError (proves_opted_out origin hash rs x))
        else (if undelegated i then Some UnsignedDelegation
        else (if untyped t i then Some NoData
        else (if unproved (λ r. true) (λ e. is_denied origin hash rs (wildcard_under e) t) i then Some (WildcardNoData (proves_opted_out origin hash rs x))
        else (if out i then Some UnsignedDelegation
        else wildcard_answer origin hash rs x))))))

-- ---- outside

pub nsec3_nothing_outside : Nsec3NothingOutside
nsec3_nothing_outside origin hash rs x outside t =
    only_answers origin hash rs x
    (λ cover rest i. not_above i && not (is_matched origin hash rs x) && option_map_or (λ e. is_encloser origin hash rs e && option_map_or (λ c. list_any (λ r. covers origin hash r c && cover r) rs) (next_closer x e) false && rest e) (shown_encloser origin hash rs x) false)
    (λ t i. outside i && is_denied origin hash rs x t) (λ i. not_above i && list_any (λ r. matches origin hash r x && is_of_unsigned r) rs) t
    ∙ by (is_handed_on origin hash rs x)
  where
    not_above : is_above origin x ≡ false
    not_above = refuted (is_above origin x) (λ e. true≢false (sym (is_at_or_above_complete origin x (above_at origin x ((above_test origin x).0 e))) ∙ outside))

    by : (b : Bool) → cond b None (wildcard_answer origin hash rs x) ≡ None
    by true = refl
    by false = (neither (wildcard_answer origin hash rs x) None (answers_end origin hash rs x None not_above)).0
