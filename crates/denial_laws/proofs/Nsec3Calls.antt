-- Records of a denial are in the sets of a zone, no records prove nothing, and what a set of one record says
use Rattle.std.proofs.Common.{◌≡◌, ℕ, Bool, true, false, cond, not, ◌&&◌, List, [], ◌∷◌, length, refl, sym, ap, ◌∙◌, subst, inl, inr, arith}
use Rattle.std.specs.Prelude.{Option, Some, None, Result, Ok, Err, filter, filter_map, flat_map, reverse, option_map}
use Rattle.std.specs.List.{All, Contains}
use Rattle.std.specs.Option.{option_map_or}
use Rattle.std.proofs.lemmas.List.Elements.{All-head}
use Rattle.zone_proto.specs.declared.rdata.denial.NSEC3.{NSEC3 as Nsec3Data}
use Rattle.zone_proto.specs.declared.record.Record.{Record}
use Rattle.zone_proto.specs.Names.{Name, lower, base_name, is_above, is_at_or_above, suffixes}
use Rattle.zone_proto.specs.Sets.{RRset}
use Rattle.zone_proto.specs.Types.{NSEC3}
use Rattle.zone_proto.proofs.Members.{In, In-Contains, Contains-In, In-from_filter_map, In-from_flat_map}
use Rattle.zone_map.specs.Zones.{Sets, set_at}
use Rattle.zone_denial.specs.Nsec3Circle.{first_nsec3}
use Rattle.zone_denial.specs.Nsec3Denial.{nsec3_denial, nsec3_denying_owners, result_and_then}
use Rattle.denial_validation.specs.declared.proof.Proof.TheVariants.{WildcardAnswer}
use Rattle.denial_validation.specs.Judgement.{nsec3_proof}
use Rattle.denial_validation.specs.Nsec3Proofs.{is_matched, is_covered, is_handed_on, shown_encloser, wildcard_answer}
use Rattle.denial_validation.specs.Nsec3Records.{nsec3_data}
use Rattle.denial_laws.specs.Nsec3Calls.{StandInNsec3Sets}
use Rattle.denial_laws.proofs.Nsec3Silence.{only_answers}
use Rattle.denial_laws.proofs.Silence.{find_none}
use Rattle.denial_laws.proofs.Tests.{right_false}

-- ---- the records of a denial are in the sets of the zone

pub denial_stands : {E : Type 0} (m : Sets) (hashed : Name → Result Name E) (wildcard : Bool) (x : Name) (answer : List RRset) → nsec3_denial m hashed wildcard x ≡ Ok answer
    → StandInNsec3Sets m (flat_map (λ (s : RRset). s.records) answer)
denial_stands {E} m hashed wildcard x answer e r c some = by (nsec3_denying_owners m hashed wildcard x) e
  where
    set : (s : RRset) × In s answer × In r s.records
    set = In-from_flat_map (λ (s : RRset). s.records) r answer (Contains-In r (flat_map (λ (s : RRset). s.records) answer) c)

    same_answer : (a b : List RRset) → ◌≡◌ {A = Result (List RRset) E} (Ok a) (Ok b) → a ≡ b
    same_answer a b q = cc

    by : (owners : Result (List Name) E) → result_and_then (λ owners. Ok (filter_map (λ o. set_at m o NSEC3) owners)) owners ≡ Ok answer → (o : Name) × (s : RRset) × (set_at m o NSEC3 ≡ Some s) × Contains s.records r
    by (Ok owners) q =
        let k = In-from_filter_map (λ o. set_at m o NSEC3) set.0 owners (subst (In set.0) (sym (same_answer (filter_map (λ o. set_at m o NSEC3) owners) answer q)) set.1) in
        (k.0, set.0, k.2, In-Contains r set.0.records set.2)
    by (Err k) q = absurd cc

-- ---- no records prove nothing

pub nothing_by_none : (origin : Name) (hash : Name → Option (List ℕ)) (x : Name) (t : ℕ) → nsec3_proof origin hash [] x t ≡ None
nothing_by_none origin hash x t =
    only_answers origin hash [] x (λ cover rest. right_false (is_above origin x && not (is_matched origin hash [] x)) (enclosed rest (shown_encloser origin hash [] x)) (unenclosed rest (shown_encloser origin hash [] x)))
    (λ t. right_false (is_at_or_above origin x) false refl) (right_false (is_above origin x) false refl) t
    ∙ by (is_handed_on origin hash [] x)
  where
    enclosed : (Name → Bool) → Option Name → Bool
    enclosed rest o = option_map_or (λ e. false) o false

    unenclosed : (rest : Name → Bool) (o : Option Name) → enclosed rest o ≡ false
    unenclosed rest None = refl
    unenclosed rest (Some e) = refl

    unanswered : wildcard_answer origin hash [] x ≡ None
    unanswered = ap (option_map (λ c. WildcardAnswer (length (base_name c)) false)) (find_none (is_covered origin hash []) (reverse (filter (is_above origin) (suffixes x))) (λ c i. refl))

    by : (b : Bool) → cond b None (wildcard_answer origin hash [] x) ≡ None
    by true = refl
    by false = unanswered

-- ---- the record of one set

pub single_is : (n : Name) (a : Nsec3Data) (rs : List Record) → length rs ≡ 1 → first_nsec3 rs ≡ Some a → All (λ (r : Record). lower r.name ≡ n) rs → (r : Record) → In r rs → (nsec3_data r.rdata ≡ Some a) × (lower r.name ≡ n)
single_is n a [] one says named r i = absurd i
single_is n a (q ∷ []) one says named r (inl e) = (ap (λ (q : Record). nsec3_data q.rdata) (sym e) ∙ says, ap (λ (q : Record). lower q.name) (sym e) ∙ All-head (λ (r : Record). lower r.name ≡ n) q [] named)
single_is n a (q ∷ []) one says named r (inr i) = absurd i
single_is n a (q ∷ (p ∷ rs)) one says named r i = absurd (omega (arith, one))
