-- Records that neither tell of a name nor are the name's prove nothing; nor do any of a name outside the zone
use Rattle.std.proofs.Common.{◌≡◌, ℕ, Bool, true, false, cond, not, ◌&&◌, ◌||◌, List, [], ◌∷◌, length, refl, sym, ap, ◌∙◌, true≢false, inl, inr}
use Rattle.std.specs.Prelude.{Some, None, find, option_map, option_and_then, if◌then◌else◌}
use Rattle.std.specs.List.{list_any}
use Rattle.zone_proto.specs.Names.{Name, name_cmp, name_eq, is_above, is_at_or_above}
use Rattle.zone_proto.specs.Order.{is_before}
use Rattle.zone_proto.specs.Types.{NS, CNAME, SOA, DS}
use Rattle.zone_proto.proofs.Members.{In, and_left, and_right}
use Rattle.zone_proto.proofs.Names.NameTree.{name_eq-Decides, above_test, is_at_or_above_complete}
use Rattle.zone_denial.proofs.Chain.NsecBelow.{above_at}
use Rattle.denial_validation.specs.declared.proof.Proof.TheVariants.{NameError, UnsignedDelegation, EmptyNonTerminal, NoData, WildcardNoData, WildcardAnswer}
use Rattle.denial_validation.specs.Judgement.{nsec_proof}
use Rattle.denial_validation.specs.NsecProofs.{lists, shows_type, is_of_zone, is_wrong_side, may_apply_to, covers, denies_name, denies_type, shows_empty, shown_encloser, wildcard_is, is_denied, is_bare, denied_and_wildcard, shows_unsigned_delegation, proves_no_data, proves_empty_non_terminal, proves_unsigned_delegation, denied_encloser}
use Rattle.denial_validation.specs.NsecRecords.{NsecRecord}
use Rattle.denial_laws.specs.Soundness.{NothingOutside}

none_any : {X : Type 0} (p : X → Bool) (xs : List X) → ((x : X) → In x xs → p x ≡ false) → list_any p xs ≡ false
none_any p [] h = refl
none_any p (x ∷ xs) h = λ i. h x (inl refl) i || none_any p xs (λ y j. h y (inr j)) i

pub find_none : {X : Type 0} (p : X → Bool) (xs : List X) → ((x : X) → In x xs → p x ≡ false) → find p xs ≡ None
find_none p [] h = refl
find_none p (x ∷ xs) h = ap (λ b. cond b (Some x) (find p xs)) (h x (inl refl)) ∙ find_none p xs (λ y j. h y (inr j))

-- a record covers names below the apex alone
covers_above : (origin : Name) (r : NsecRecord) (x : Name) → covers origin r x ≡ true → is_above origin x ≡ true
covers_above origin r x c =
    and_right (is_of_zone origin r) (is_above origin x)
    (and_left (is_of_zone origin r && is_above origin x) (is_before name_cmp r.owner x)
    (and_left (is_of_zone origin r && is_above origin x && is_before name_cmp r.owner x) (is_before name_cmp x r.next || name_eq r.next origin) c))

pub left_false : (a b : Bool) → a ≡ false → a && b ≡ false
left_false a b e = ap (λ c. c && b) e

-- ---- records that neither tell of a name nor are the name's prove nothing

module _ (origin : Name) (rs : List NsecRecord) (x : Name) (call_concludes : (r : NsecRecord) → In r rs → may_apply_to r x && covers origin r x ≡ false)
    (named : (r : NsecRecord) → In r rs → is_of_zone origin r && name_eq r.owner x ≡ false) (below : (r : NsecRecord) → In r rs → is_above origin r.owner && name_eq r.owner x ≡ false)
  where
    undenied : (r : NsecRecord) → In r rs → denies_name origin r x ≡ false
    undenied r i = left_false (may_apply_to r x && covers origin r x) (not (is_above x r.next)) (call_concludes r i)

    not_wildcard : (test : Name → Bool) → denied_and_wildcard origin rs x test ≡ false
    not_wildcard test = none_any (λ r. denies_name origin r x && wildcard_is test r x) rs (λ r i. left_false (denies_name origin r x) (wildcard_is test r x) (undenied r i))

    unempty : proves_empty_non_terminal origin rs x ≡ false
    unempty = none_any (λ r. shows_empty origin r x) rs (λ r i. left_false (may_apply_to r x && covers origin r x) (is_above x r.next) (call_concludes r i))

    untyped : (t : ℕ) → proves_no_data origin rs x t ≡ false
    untyped t = none_any (λ r. denies_type origin r x t) rs (λ r i. λ k. named r i k && not (shows_type r t) && not (lists r CNAME) && not (is_wrong_side origin r t))

    undelegated : proves_unsigned_delegation origin rs x ≡ false
    undelegated = none_any (λ r. shows_unsigned_delegation origin r x) rs (λ r i. λ k. below r i k && lists r NS && not (lists r DS) && not (lists r SOA))

    unenclosed : denied_encloser origin rs x ≡ None
    unenclosed = ap (option_and_then (λ r. shown_encloser r x)) (find_none (λ r. denies_name origin r x) rs undenied)

    pub silent : (t : ℕ) → nsec_proof origin rs x t ≡ None
    silent t =
        λ i. if not_wildcard (is_denied origin rs) i then Some (NameError false)
        else (if undelegated i then Some UnsignedDelegation
        else (if unempty i then Some EmptyNonTerminal
        else (if untyped t i then Some NoData
        else (if not_wildcard (is_bare origin rs t) i then Some (WildcardNoData false)
        else option_map (λ e. WildcardAnswer (length e) false) (unenclosed i)))))

-- ---- outside

pub nothing_outside : NothingOutside
nothing_outside origin rs x outside = silent origin rs x (λ r i. untold r) (λ r i. unnamed r) (λ r i. unbelow r)
  where
    not_above : is_above origin x ≡ false
    not_above = by (is_above origin x) refl
      where
        by : (b : Bool) → is_above origin x ≡ b → b ≡ false
        by false e = refl
        by true e = absurd (true≢false (sym (is_at_or_above_complete origin x (above_at origin x ((above_test origin x).0 e))) ∙ outside))

    untold : (r : NsecRecord) → may_apply_to r x && covers origin r x ≡ false
    untold r = by (may_apply_to r x && covers origin r x) refl
      where
        by : (b : Bool) → may_apply_to r x && covers origin r x ≡ b → b ≡ false
        by false e = refl
        by true e = absurd (true≢false (sym (covers_above origin r x (and_right (may_apply_to r x) (covers origin r x) e)) ∙ not_above))

    same : (a : Name → Bool) (o : Name) → a x ≡ false → a o && name_eq o x ≡ false
    same a o e = by (name_eq o x) refl
      where
        none : (b : Bool) → (b && false) ≡ false
        none true = refl
        none false = refl

        by : (b : Bool) → name_eq o x ≡ b → a o && name_eq o x ≡ false
        by false q = ap (λ b. a o && b) q ∙ none (a o)
        by true q = left_false (a o) (name_eq o x) (ap a ((name_eq-Decides o x).0 q) ∙ e)

    unnamed : (r : NsecRecord) → is_of_zone origin r && name_eq r.owner x ≡ false
    unnamed r = same (is_at_or_above origin) r.owner outside

    unbelow : (r : NsecRecord) → is_above origin r.owner && name_eq r.owner x ≡ false
    unbelow r = same (is_above origin) r.owner not_above
