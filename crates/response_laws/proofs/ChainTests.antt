-- The sets of denial of a small zone are a chain where these tests of it pass
use Rattle.std.proofs.Common.{◌≡◌, ◌≢◌, ◌↔◌, ℕ, Bool, true, false, cond, not, ◌&&◌, ◌||◌, List, [], ◌∷◌, refl, sym, ap, ◌∙◌, subst, true≢false, ◌⊎◌, inl, inr, eqb-true, eq-eqb}
use Rattle.std.specs.Prelude.{Some, ◌==◌}
use Rattle.std.specs.Bool.{MatchBool}
use Rattle.std.specs.List.{Contains, list_any, list_all}
use Rattle.zone_proto.specs.declared.rr_key.RrKey.{RrKey}
use Rattle.zone_proto.specs.Keys.{key, key_eq}
use Rattle.zone_proto.specs.Names.{Name, is_above, is_at_or_above, IsAtOrAbove, suffixes}
use Rattle.zone_proto.specs.Sets.{RRset}
use Rattle.zone_proto.specs.Types.{NS, CNAME, SOA, DS, RRSIG, NSEC, NSEC3, DNAME}
use Rattle.zone_proto.proofs.Members.{In, In-Contains, Contains-In, In-from_any, any_from_In, and_left, and_right}
use Rattle.zone_proto.proofs.Names.NameTree.{above_test, suffix_from_at_or_above, is_at_or_above_sound, is_at_or_above_complete}
use Rattle.zone_proto.proofs.Ordering.KeyOrder.{key_same}
use Rattle.zone_map.specs.Zones.{Sets, set_at, owns, owners, names_of, types_at}
use Rattle.zone_map.proofs.Owned.{owner_in, type_in}
use Rattle.zone_denial.specs.Authority.{is_authoritative, authoritative_names}
use Rattle.zone_denial.specs.Chains.{is_delegation, has_signature, is_stated_at_delegation, IsRightList, is_below_dname, may_be_left_out}
use Rattle.zone_denial.proofs.Chains.Nsec3Names.{is_named, named_in}
use Rattle.zone_denial.proofs.Names.AuthoritativeNames.{authoritative_listed}
use Rattle.denial_laws.proofs.Tests.{refuted, either}
use Rattle.zone_response.specs.Queries.{Zone}
use Rattle.response_laws.specs.ProvedSayings.{IsUnreferred}

-- ---- of all elements of a list, and all sets of a type

pub each_passes : {A : Type 0} (p : A → Bool) (xs : List A) → list_all p xs ≡ true → (x : A) → In x xs → p x ≡ true
each_passes p [] e x i = absurd i
each_passes p (y ∷ xs) e x (inl q) = ap p (sym q) ∙ and_left (p y) (list_all p xs) e
each_passes p (y ∷ xs) e x (inr i) = each_passes p xs (and_right (p y) (list_all p xs) e) x i

abbrev pub Each : {A : Type 0} → (A → Type 0) → List A → Type 0
Each P [] = Unit {0}
Each P (x ∷ xs) = P x × Each P xs

pub each_is : {A : Type 0} (P : A → Type 0) (xs : List A) → Each P xs → (x : A) → In x xs → P x
each_is P [] h x i = absurd i
each_is P (y ∷ xs) h x (inl q) = subst P q h.0
each_is P (y ∷ xs) h x (inr i) = each_is P xs h.1 x i

abbrev pub EachSet : ℕ → (Name → RRset → Type 0) → Sets → Type 0
EachSet t P m = Each (λ (e : RrKey × RRset). MatchBool (t == e.0.record_type.0) (P e.0.name e.1) (Unit {0})) m

pub each_set : (t : ℕ) (P : Name → RRset → Type 0) (m : Sets) → EachSet t P m → (n : Name) (s : RRset) → set_at m n t ≡ Some s → P n s
each_set t P [] h n s e = absurd cc
each_set t P (e ∷ m) h n s found = by (key_eq (key n t) e.0) refl (each_set t P m h.1 n s)
  where
    same_set : (a b : RRset) → Some a ≡ Some b → a ≡ b
    same_set a b q = cc

    by : (b : Bool) → key_eq (key n t) e.0 ≡ b → (set_at m n t ≡ Some s → P n s) → P n s
    by true q others =
        let same : key n t ≡ e.0 = key_same (key n t) e.0 q in
        let set = same_set e.1 s (ap (λ b. cond b (Some e.1) (set_at m n t)) (sym q) ∙ found) in
        let here : P e.0.name e.1 = subst (λ b. MatchBool b (P e.0.name e.1) (Unit {0})) (eq-eqb t e.0.record_type.0 (ap (λ (k : RrKey). k.record_type.0) same)) h.0 in
        subst (λ (n : Name). P n s) (ap (λ (k : RrKey). k.name) (sym same)) (subst (P e.0.name) set here)
    by false q others = others (ap (λ b. cond b (Some e.1) (set_at m n t)) (sym q) ∙ found)

-- ---- lists of types

abbrev pub lists : List ℕ → ℕ → Bool
lists types t = list_any (λ u. u == t) types

pub listed : (types : List ℕ) (t : ℕ) → lists types t ≡ true → Contains types t
listed types t e = let r = In-from_any (λ u. u == t) types e in In-Contains t types (subst (λ u. In u types) (eqb-true r.0 t r.2) r.1)

pub is_listed : (types : List ℕ) (t : ℕ) → Contains types t → lists types t ≡ true
is_listed types t c = any_from_In (λ u. u == t) t types (Contains-In t types c) (eq-eqb t t refl)

module _ (origin : Name) (m : Sets) (n : Name) (types : List ℕ) where
  abbrev is_free : ℕ → Bool
  is_free t = (t == RRSIG) || (t == NSEC) || (t == NSEC3)

  pub agreeing : (t : ℕ) → lists types t ≡ owns m n t → Contains types t ↔ (owns m n t ≡ true)
  agreeing t same = (λ c. sym same ∙ is_listed types t c, λ o. listed types t (same ∙ o))

  -- at a delegation
  pub right_at_delegation : is_delegation origin m n ≡ true → lists types NS ≡ owns m n NS → lists types CNAME ≡ owns m n CNAME → lists types SOA ≡ owns m n SOA → lists types DS ≡ owns m n DS → IsRightList origin m n types
  right_at_delegation d ns cname soa ds = record { at_delegation = λ _ t k. agreeing t (by t (t == NS) refl (t == CNAME) refl (t == SOA) refl (t == DS) refl k); exact = λ f. absurd (true≢false (sym d ∙ f)); signed = λ f. absurd (true≢false (sym d ∙ f)) }
    where
      at : (t u : ℕ) → (t == u) ≡ true → lists types u ≡ owns m n u → lists types t ≡ owns m n t
      at t u e h = subst (λ t. lists types t ≡ owns m n t) (sym (eqb-true t u e)) h

      by : (t : ℕ) (p : Bool) → (t == NS) ≡ p → (q : Bool) → (t == CNAME) ≡ q → (r : Bool) → (t == SOA) ≡ r → (s : Bool) → (t == DS) ≡ s → is_stated_at_delegation t ≡ true → lists types t ≡ owns m n t
      by t true e q f r g s h k = at t NS e ns
      by t false e true f r g s h k = at t CNAME f cname
      by t false e false f true g s h k = at t SOA g soa
      by t false e false f false g true h k = at t DS h ds
      by t false e false f false g false h k = absurd (true≢false (sym k ∙ (λ i. e i || (f i || (g i || h i)))))

  -- at any other name
  pub right_elsewhere : is_delegation origin m n ≡ false → list_all (λ t. is_free t || owns m n t) types ≡ true → list_all (λ t. is_free t || lists types t) (types_at m n) ≡ true → not (has_signature m n) || lists types RRSIG ≡ true → IsRightList origin m n types
  right_elsewhere d sound complete signed = record {
    at_delegation = λ e. absurd (true≢false (sym e ∙ d));
    exact = λ _ t a w b. (
      λ c. rest t a w b (each_passes (λ t. is_free t || owns m n t) types sound t (Contains-In t types c)),
      λ o. listed types t (rest t a w b (each_passes (λ t. is_free t || lists types t) (types_at m n) complete t (type_in m n t o))),
    );
    signed = λ _ s. listed types RRSIG (ap (λ b. not b || lists types RRSIG) (sym s) ∙ signed);
  }
    where
      rest : {b : Bool} (t : ℕ) → t ≢ RRSIG → t ≢ NSEC → t ≢ NSEC3 → is_free t || b ≡ true → b ≡ true
      rest {b} t a w c e = by (t == RRSIG) refl (t == NSEC) refl (t == NSEC3) refl e
        where
          by : (p : Bool) → (t == RRSIG) ≡ p → (q : Bool) → (t == NSEC) ≡ q → (r : Bool) → (t == NSEC3) ≡ r → (p || q || r) || b ≡ true → b ≡ true
          by true f q g r h k = absurd (a (eqb-true t RRSIG f))
          by false f true g r h k = absurd (w (eqb-true t NSEC g))
          by false f false g true h k = absurd (c (eqb-true t NSEC3 h))
          by false f false g false h k = k

  -- of NSEC in a chain of NSEC3 sets, with what stands beside these
  pub nsec_told : (beside : Sets) → not (owns m n NSEC) || lists types NSEC ≡ true → not (lists types NSEC) || (owns m n NSEC || owns beside n NSEC) ≡ true
      → (owns m n NSEC ≡ true → Contains types NSEC) × (Contains types NSEC → (owns m n NSEC ≡ true) ⊎ (owns beside n NSEC ≡ true))
  nsec_told beside complete sound = (
    λ o. listed types NSEC (ap (λ b. not b || lists types NSEC) (sym o) ∙ complete),
    λ c. either (owns m n NSEC) (owns beside n NSEC) (ap (λ b. not b || (owns m n NSEC || owns beside n NSEC)) (sym (is_listed types NSEC c)) ∙ sound),
  )

-- ---- names

module _ (origin : Name) (m : Sets) where
  -- each owner of NSEC is authoritative, and each authoritative name owns it, or is below a DNAME
  pub owners_authoritative : list_all (is_authoritative origin m NSEC) (owners m NSEC) ≡ true → (n : Name) → owns m n NSEC ≡ true → is_authoritative origin m NSEC n ≡ true
  owners_authoritative h n k = each_passes (is_authoritative origin m NSEC) (owners m NSEC) h n (owner_in m n NSEC k)

  pub all_own : list_all (λ n. owns m n NSEC || is_below_dname m n) (authoritative_names origin m NSEC) ≡ true → (n : Name) → is_authoritative origin m NSEC n ≡ true → (owns m n NSEC ≡ true) ⊎ (is_below_dname m n ≡ true)
  all_own h n k = either (owns m n NSEC) (is_below_dname m n) (each_passes (λ n. owns m n NSEC || is_below_dname m n) (authoritative_names origin m NSEC) h n (authoritative_listed origin m NSEC n k))

  module _ (names : List Name) where
    named : (n : Name) → is_named names n ≡ true → Contains names n
    named n e = In-Contains n names (named_in names n e)

    -- the names between one and the origin
    pub names_between : list_all (λ n. list_all (λ a. not (is_at_or_above origin a) || is_named names a) (suffixes n)) names ≡ true → (n a : Name) → Contains names n → IsAtOrAbove origin a → IsAtOrAbove a n → Contains names a
    names_between h n a c u v =
        named a
        (ap (λ b. not b || is_named names a) (sym (is_at_or_above_complete origin a u))
        ∙ each_passes (λ a. not (is_at_or_above origin a) || is_named names a) (suffixes n) (each_passes (λ n. list_all (λ a. not (is_at_or_above origin a) || is_named names a) (suffixes n)) names h n (Contains-In n names c)) a
        (Contains-In a (suffixes n) (suffix_from_at_or_above n a v)))

    abbrev reaches_authority : Name → Bool
    reaches_authority n = is_at_or_above origin n && list_any (λ c. is_authoritative origin m NSEC3 c && is_at_or_above n c) (names_of m)

    pub names_authoritative : list_all reaches_authority names ≡ true → (n : Name) → Contains names n → IsAtOrAbove origin n × ((c : Name) × (is_authoritative origin m NSEC3 c ≡ true) × IsAtOrAbove n c)
    names_authoritative h n k =
        let e = each_passes reaches_authority names h n (Contains-In n names k) in
        let c = In-from_any (λ c. is_authoritative origin m NSEC3 c && is_at_or_above n c) (names_of m) (and_right (is_at_or_above origin n) (list_any (λ c. is_authoritative origin m NSEC3 c && is_at_or_above n c) (names_of m)) e) in (
          is_at_or_above_sound origin n (and_left (is_at_or_above origin n) (list_any (λ c. is_authoritative origin m NSEC3 c && is_at_or_above n c) (names_of m)) e),
          (c.0, and_left (is_authoritative origin m NSEC3 c.0) (is_at_or_above n c.0) c.2, is_at_or_above_sound n c.0 (and_right (is_authoritative origin m NSEC3 c.0) (is_at_or_above n c.0) c.2)),
        )

    pub names_complete : (opt_out : Bool) → list_all (λ n. is_named names n || may_be_left_out origin m opt_out n) (authoritative_names origin m NSEC3) ≡ true → (n : Name) → is_authoritative origin m NSEC3 n ≡ true
        → Contains names n ⊎ (may_be_left_out origin m opt_out n ≡ true)
    names_complete opt_out h n k = by (is_named names n) refl
      where
        by : (b : Bool) → is_named names n ≡ b → Contains names n ⊎ (may_be_left_out origin m opt_out n ≡ true)
        by true e = inl (named n e)
        by false e =
            inr
            (ap (λ b. b || may_be_left_out origin m opt_out n) (sym e)
            ∙ each_passes (λ n. is_named names n || may_be_left_out origin m opt_out n) (authoritative_names origin m NSEC3) h n (authoritative_listed origin m NSEC3 n k))

-- nothing at the origin or above it refers elsewhere
pub is_unreferred : (z : Zone) → list_all (λ a. not (is_at_or_above a z.origin) || owns z.sets a SOA) (owners z.sets NS) ≡ true → list_all (λ a. not (is_above a z.origin)) (owners z.sets DNAME) ≡ true → IsUnreferred z
is_unreferred z servers dnames = record {
  unreferred = λ a u k.
      ap (λ b. not b || owns z.sets a SOA) (sym (is_at_or_above_complete a z.origin u)) ∙ each_passes (λ a. not (is_at_or_above a z.origin) || owns z.sets a SOA) (owners z.sets NS) servers a (owner_in z.sets a NS k);
  no_dname = λ a u. refuted (owns z.sets a DNAME)
      (λ k. true≢false (sym (each_passes (λ a. not (is_above a z.origin)) (owners z.sets DNAME) dnames a (owner_in z.sets a DNAME k)) ∙ ap not ((above_test a z.origin).1 u)));
}
