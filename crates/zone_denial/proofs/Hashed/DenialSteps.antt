-- The NSEC3 sets of a denial step by step, as they are found
use Rattle.std.proofs.Common.{◌≡◌, ◌==◌, eq-eqb, eqb-true, suc, Bool, true, false, cond, not, ◌&&◌, List, [], ◌∷◌, ◌++◌, length, drop, refl, sym, ap, ◌∙◌, subst, true≢false, arith, inl, inr, ◌⊎◌}
use Rattle.std.specs.Result.{IsErrAnd}
use Rattle.std.specs.Prelude.{IfErr, Option, Some, None, Result, Ok, Err, find, filter, filter_map, is_some, option_to_list, option_copied}
use Rattle.std.specs.Borrow.{Bor}
use Rattle.std.specs.List.{cons_option}
use Rattle.std.specs.Option.{option_map_or, option_or}
use Rattle.std.proofs.lemmas.List.{length-append}
use Rattle.std.proofs.lemmas.List.Elements.{filter_map-append}
use Rattle.zone_proto.specs.declared.error.ProtoError.{ProtoError}
use Rattle.zone_proto.specs.declared.error.ProtoError.TheVariants.{Memory}
use Rattle.zone_proto.specs.Names.{Name, name_cmp, base_name, suffixes, wildcard_of, wildcard_under}
use Rattle.zone_proto.specs.Sets.{RRset}
use Rattle.zone_proto.specs.Order.{is_before, greatest}
use Rattle.zone_proto.specs.Types.{NSEC3}
use Rattle.zone_proto.proofs.Members.{In, In-from_append, In-from_filter}
use Rattle.zone_proto.proofs.Ordering.Orders.{greatest_is}
use Rattle.zone_proto.proofs.Names.Tree.{name_order}
use Rattle.zone_map.specs.Zones.{Sets, set_at, owns, owners, IsZone}
use Rattle.zone_map.proofs.Delegations.{found_above}
use Rattle.zone_map.proofs.Owned.{owner_owned}
use Rattle.zone_denial.specs.Nsec3Denial.{result_and_then, has_match, match_of, cover_of, match_owner, cover_owner, encloser_of, next_closer, wildcard_part, enclosed, nsec3_denial}
use Rattle.zone_denial.specs.Nsec3Lent.{sets_of, owner_cmp, enclosed_sets}
use Rattle.zone_denial.specs.TypeLists.{in_order}
use Rattle.zone_denial.proofs.Chain.NsecEnclosers.{base_is_drop}
use Rattle.zone_denial.proofs.Sets.SetsInOrder.{AllOwn, sets_in_order}

-- ---- refusals

-- a refusal that is handed on is refused for what it was
pub refused_as : {A : Type 0} (r : Result A ProtoError) (P : ProtoError → Type 0) (e : ProtoError) → IsErrAnd r (λ k. k ≡ e) → P e → IfErr r P
refused_as (Ok a) P e h p = tt
refused_as (Err k) P e h p = subst P (sym h) p

-- ---- what matches

module _ {E : Type 0} (m : Sets) (hashed : Name → Result Name E) where
  one_or_none : (h : Name) (o : Option RRset) → set_at m h NSEC3 ≡ o → filter_map (λ n. set_at m n NSEC3) (option_to_list (cond (is_some o) (Some h) None)) ≡ option_to_list o
  one_or_none h None e = refl
  one_or_none h (Some s) e = ap (λ o. cons_option o []) e

  pub sets_of_match : (h : Name) → filter_map (λ n. set_at m n NSEC3) (option_to_list (match_owner m h)) ≡ option_to_list (set_at m h NSEC3)
  sets_of_match h = one_or_none h (set_at m h NSEC3) refl

  given : {A : Type 0} (a b : A) → ◌≡◌ {A = Result A E} (Ok a) (Ok b) → a ≡ b
  given a b e = cc

  -- what matches a name, where its hashed owner is known
  pub sets_matched : (n h : Name) (found : Option RRset) → hashed n ≡ Ok h → found ≡ set_at m h NSEC3 → sets_of m (match_of m hashed n) ≡ Ok (option_to_list found)
  sets_matched n h found is stands = ap (λ r. sets_of m (result_and_then (λ h. Ok (option_to_list (match_owner m h))) r)) is ∙ ap Ok (sets_of_match h ∙ ap option_to_list (sym stands))

  -- and what covers it
  pub sets_covering : (n h : Name) (sets : List RRset) → hashed n ≡ Ok h → sets ≡ filter_map (λ o. set_at m o NSEC3) (option_to_list (cover_owner m h)) → sets_of m (cover_of m hashed n) ≡ Ok sets
  sets_covering n h sets is cover = ap (λ r. sets_of m (result_and_then (λ h. Ok (option_to_list (cover_owner m h))) r)) is ∙ ap Ok (sym cover)

  -- whether it has a match
  has_match_found : (n h : Name) (found : Option RRset) → hashed n ≡ Ok h → found ≡ set_at m h NSEC3 → has_match m hashed n ≡ Ok (is_some found)
  has_match_found n h found is stands = ap (result_and_then (λ h. Ok (owns m h NSEC3))) is ∙ ap (λ o. Ok (is_some o)) (sym stands)

  -- ---- the walk to the encloser

  pub encloser_step : (n : Name) → (drop 1 n ≡ [] → ⊥)
      → encloser_of m hashed n ≡ result_and_then (λ passes. cond passes (Ok (Some (drop 1 n))) (encloser_of m hashed (drop 1 n))) (has_match m hashed (drop 1 n))
  encloser_step [] h = absurd (h refl)
  encloser_step (l ∷ []) h = absurd (h refl)
  encloser_step (l ∷ k ∷ ks) h = refl

  -- the next closer name is what the walk had before the encloser
  pub closer_found : (front n : Name) → (drop 1 n ≡ [] → ⊥) → next_closer (front ++ n) (base_name n) ≡ Some n
  closer_found front [] h = absurd (h refl)
  closer_found [] (l ∷ ls) h = ap (λ b. cond b (Some (l ∷ ls)) (find (λ s. length s == suc (length ls)) (suffixes ls))) (eq-eqb (length (l ∷ ls)) (suc (length ls)) refl)
  closer_found (f ∷ front) (l ∷ ls) h =
      ap (λ b. cond b (Some (f ∷ front ++ l ∷ ls)) (find (λ s. length s == suc (length ls)) (suffixes (front ++ l ∷ ls)))) (by (suc (length (front ++ l ∷ ls)) == suc (length ls)) refl)
      ∙ closer_found front (l ∷ ls) h
    where
      by : (b : Bool) → (suc (length (front ++ l ∷ ls)) == suc (length ls)) ≡ b → b ≡ false
      by true e = absurd (omega (arith, eqb-true (suc (length (front ++ l ∷ ls))) (suc (length ls)) e, length-append front (l ∷ ls)))
      by false e = refl

  -- a step of the walk: it goes on, it is at the encloser, or a name has no hashed owner
  module _ (n above : Name) (is : above ≡ drop 1 n) (inner : above ≡ [] → ⊥) where
    below : drop 1 n ≡ [] → ⊥
    below e = inner (is ∙ e)

    is_base : above ≡ base_name n
    is_base = is ∙ base_is_drop n

    at_step : encloser_of m hashed n ≡ result_and_then (λ passes. cond passes (Ok (Some (drop 1 n))) (encloser_of m hashed (drop 1 n))) (has_match m hashed above)
    at_step = encloser_step n below ∙ ap (λ a. result_and_then (λ passes. cond passes (Ok (Some (drop 1 n))) (encloser_of m hashed (drop 1 n))) (has_match m hashed a)) (sym is)

    walk_on : (h : Name) → hashed above ≡ Ok h → None ≡ set_at m h NSEC3 → encloser_of m hashed n ≡ encloser_of m hashed (drop 1 n)
    walk_on h is stands = at_step ∙ ap (result_and_then (λ passes. cond passes (Ok (Some (drop 1 n))) (encloser_of m hashed (drop 1 n)))) (has_match_found above h None is stands)

    walk_found : (h : Name) (s : RRset) → hashed above ≡ Ok h → Some s ≡ set_at m h NSEC3 → encloser_of m hashed n ≡ Ok (Some (base_name n))
    walk_found h s is stands =
        at_step ∙ ap (result_and_then (λ passes. cond passes (Ok (Some (drop 1 n))) (encloser_of m hashed (drop 1 n)))) (has_match_found above h (Some s) is stands) ∙ ap (λ a. Ok (Some a)) (base_is_drop n)

    -- the set that was found matches the encloser
    pub encloser_matched : (h : Name) (s : RRset) → hashed above ≡ Ok h → Some s ≡ set_at m h NSEC3 → sets_of m (match_of m hashed (base_name n)) ≡ Ok (s ∷ [])
    encloser_matched h s is stands = ap (λ a. sets_of m (match_of m hashed a)) (sym is_base) ∙ sets_matched above h (Some s) is stands

    walk_refused : (e : E) → hashed above ≡ Err e → encloser_of m hashed n ≡ Err e
    walk_refused e h = at_step ∙ ap (λ r. result_and_then (λ passes. cond passes (Ok (Some (drop 1 n))) (encloser_of m hashed (drop 1 n))) (result_and_then (λ h. Ok (owns m h NSEC3)) r)) h

    pub passed_on : (q front : Name) → q ≡ front ++ n → (f : Name) × (q ≡ f ++ drop 1 n)
    passed_on q front e = let r = by n below front in (r.0, e ∙ r.1)
      where
        by : (n : Name) → (drop 1 n ≡ [] → ⊥) → (front : Name) → (f : Name) × (front ++ n ≡ f ++ drop 1 n)
        by [] h front = absurd (h refl)
        by (l ∷ ls) h [] = (l ∷ [], refl)
        by (l ∷ ls) h (x ∷ front) = let r = by (l ∷ ls) h front in (x ∷ r.0, ap (λ ys. x ∷ ys) r.1)

    pub closer_is : (q front : Name) → q ≡ front ++ n → next_closer q (base_name n) ≡ Some n
    closer_is q front e = ap (λ x. next_closer x (base_name n)) e ∙ closer_found front n below

  -- ---- the name's own set

  own_denial : (wildcard : Bool) (q h : Name) (found : Option RRset) → hashed q ≡ Ok h → found ≡ set_at m h NSEC3
      → nsec3_denial m hashed wildcard q ≡ cond (is_some found && not wildcard) (Ok (option_to_list found)) (result_and_then (λ encloser. enclosed_sets m hashed wildcard q encloser) (encloser_of m hashed q))
  own_denial wildcard q h found is stands =
      ap (λ x. sets_of m (result_and_then (λ own. cond (owns m own NSEC3 && not wildcard) (Ok (own ∷ [])) (rest)) x)) is
      ∙ by h found (sym stands) (owns m h NSEC3) (ap is_some (sym stands)) (not wildcard)
    where
      rest : Result (List Name) E
      rest = result_and_then (λ encloser. result_and_then (λ os. Ok (in_order name_cmp os)) (enclosed m hashed wildcard q encloser)) (encloser_of m hashed q)

      through : (r : Result (Option Name) E)
          → sets_of m (result_and_then (λ encloser. result_and_then (λ os. Ok (in_order name_cmp os)) (enclosed m hashed wildcard q encloser)) r)
          ≡ result_and_then (λ encloser. enclosed_sets m hashed wildcard q encloser) r
      through (Ok x) = refl
      through (Err x) = refl

      by : (h : Name) (o : Option RRset) → set_at m h NSEC3 ≡ o → (b : Bool) → b ≡ is_some o → (w : Bool)
          → sets_of m (cond (b && w) (Ok (h ∷ [])) rest) ≡ cond (is_some o && w) (Ok (option_to_list o)) (result_and_then (λ encloser. enclosed_sets m hashed wildcard q encloser) (encloser_of m hashed q))
      by h None e true g w = cc
      by h None e false g w = through (encloser_of m hashed q)
      by h (Some s) e true g true = ap (λ o. Ok (cons_option o [])) e
      by h (Some s) e true g false = through (encloser_of m hashed q)
      by h (Some s) e false g w = cc

-- ---- the sets of the encloser

module _ {E : Type 0} (m : Sets) (hashed : Name → Result Name E) where
  -- where the name's own set isn't the answer
  pub encloser_denial : (wildcard : Bool) (q h : Name) (found : Option RRset) → hashed q ≡ Ok h → found ≡ set_at m h NSEC3 → is_some found && not wildcard ≡ false
      → (encloser : Option Name) → encloser_of m hashed q ≡ Ok encloser → nsec3_denial m hashed wildcard q ≡ enclosed_sets m hashed wildcard q encloser
  encloser_denial wildcard q h found key stands not_own encloser is =
      let rest = λ (a : Option Name). enclosed_sets m hashed wildcard q a in
      own_denial m hashed wildcard q h found key stands ∙ ap (λ b. cond b (Ok (option_to_list found)) (result_and_then rest (encloser_of m hashed q))) not_own ∙ ap (result_and_then rest) is

-- ---- the sets that are found with an encloser

module _ {E : Type 0} (m : Sets) (zone : IsZone m) (hashed : Name → Result Name E) where
  -- owners that were found, which own NSEC3, and their sets
  pub record AreFound (r : Result (List Name) E) (sets : List RRset) : Type 0 where
    pub owners : List Name
    pub is : r ≡ Ok owners
    pub own : AllOwn m zone owners
    pub are : filter_map (λ o. set_at m o NSEC3) owners ≡ sets

  owns_match : (h : Name) → AllOwn m zone (option_to_list (match_owner m h))
  owns_match h = by (owns m h NSEC3) refl
    where
      by : (b : Bool) → owns m h NSEC3 ≡ b → (o : Name) → In o (option_to_list (cond b (Some h) None)) → owns m o NSEC3 ≡ true
      by true e o (inl s) = ap (λ n. owns m n NSEC3) (sym s) ∙ e
      by true e o (inr i) = absurd i
      by false e o i = absurd i

  owns_cover : (h : Name) → AllOwn m zone (option_to_list (cover_owner m h))
  owns_cover h = by (greatest name_cmp before) refl (greatest name_cmp all) refl
    where
      all : List Name
      all = owners m NSEC3

      before : List Name
      before = filter (λ o. is_before name_cmp o h) (owners m NSEC3)

      by : (a : Option Name) → greatest name_cmp before ≡ a → (b : Option Name) → greatest name_cmp all ≡ b → (o : Name) → In o (option_to_list (option_or a b)) → owns m o NSEC3 ≡ true
      by (Some x) e b f o (inl s) = ap (λ n. owns m n NSEC3) (sym s) ∙ owner_owned m x NSEC3 (In-from_filter (λ o. is_before name_cmp o h) x all (greatest_is name_order before x e).among).0
      by (Some x) e b f o (inr i) = absurd i
      by None e (Some x) f o (inl s) = ap (λ n. owns m n NSEC3) (sym s) ∙ owner_owned m x NSEC3 (greatest_is name_order all x f).among
      by None e (Some x) f o (inr i) = absurd i
      by None e None f o i = absurd i

  found_with : (owner_of : Name → Option Name) → ((h : Name) → AllOwn m zone (option_to_list (owner_of h))) → (r : Result Name E) (sets : List RRset)
      → sets_of m (result_and_then (λ h. Ok (option_to_list (owner_of h))) r) ≡ Ok sets → AreFound (result_and_then (λ h. Ok (option_to_list (owner_of h))) r) sets
  found_with owner_of own (Ok h) sets e = record { owners = option_to_list (owner_of h); is = refl; own = own h; are = given m hashed _ _ e }
  found_with owner_of own (Err x) sets e = absurd cc

  pub found_match : (n : Name) (sets : List RRset) → sets_of m (match_of m hashed n) ≡ Ok sets → AreFound (match_of m hashed n) sets
  found_match n sets e = found_with (match_owner m) owns_match (hashed n) sets e

  pub found_cover : (n : Name) (sets : List RRset) → sets_of m (cover_of m hashed n) ≡ Ok sets → AreFound (cover_of m hashed n) sets
  found_cover n sets e = found_with (cover_owner m) owns_cover (hashed n) sets e

  owns_either : (h : Name) → AllOwn m zone (option_to_list (option_or (match_owner m h) (cover_owner m h)))
  owns_either h = by (match_owner m h) (owns_match h)
    where
      by : (o : Option Name) → AllOwn m zone (option_to_list o) → AllOwn m zone (option_to_list (option_or o (cover_owner m h)))
      by None own = owns_cover h
      by (Some o) own = own

  pub found_wildcard : (a : Name) (sets : List RRset) → sets_of m (wildcard_part m hashed a) ≡ Ok sets → AreFound (wildcard_part m hashed a) sets
  found_wildcard a sets e = found_with (λ h. option_or (match_owner m h) (cover_owner m h)) owns_either (hashed (wildcard_under a)) sets e

  -- these in order are the answer where no wildcard answered
  pub enclosed_answers : (q a c : Name) → next_closer q a ≡ Some c → (closer encloser wildcard_name : List RRset) → sets_of m (cover_of m hashed c) ≡ Ok closer → sets_of m (match_of m hashed a) ≡ Ok encloser
      → sets_of m (wildcard_part m hashed a) ≡ Ok wildcard_name → enclosed_sets m hashed false q (Some a) ≡ Ok (in_order owner_cmp (encloser ++ closer ++ wildcard_name))
  enclosed_answers q a c is closer encloser wildcard_name e f g =
      let k = found_cover c closer e in
      let n = found_match a encloser f in
      let s = found_wildcard a wildcard_name g in
      let sorted = λ (r : Result (List Name) E). sets_of m (result_and_then (λ owners. Ok (in_order name_cmp owners)) r) in
      let part = wildcard_part m hashed a in
      ap (λ o. sorted (result_and_then (λ closer. result_and_then (λ encloser. result_and_then (λ wildcard_name. Ok (encloser ++ closer ++ wildcard_name)) part) (match_of m hashed a)) (option_map_or (cover_of m hashed) o (Ok [])))) is
      ∙ ap (λ r. sorted (result_and_then (λ closer. result_and_then (λ encloser. result_and_then (λ wildcard_name. Ok (encloser ++ closer ++ wildcard_name)) part) (match_of m hashed a)) r)) k.is
      ∙ ap (λ r. sorted (result_and_then (λ encloser. result_and_then (λ wildcard_name. Ok (encloser ++ k.owners ++ wildcard_name)) part) r)) n.is
      ∙ ap (λ r. sorted (result_and_then (λ wildcard_name. Ok (n.owners ++ k.owners ++ wildcard_name)) r)) s.is
      ∙ ap Ok (sets_in_order m zone (n.owners ++ k.owners ++ s.owners) (both (n.owners ++ k.owners) s.owners (both n.owners k.owners n.own k.own) s.own) ∙ ap (in_order owner_cmp) (parts n.owners k.owners s.owners n.are k.are s.are))
    where
      both : (xs ys : List Name) → AllOwn m zone xs → AllOwn m zone ys → AllOwn m zone (xs ++ ys)
      both xs ys h k o i = by (In-from_append o xs ys i)
        where
          by : In o xs ⊎ In o ys → owns m o NSEC3 ≡ true
          by (inl j) = h o j
          by (inr j) = k o j

      parts : (xs ys zs : List Name) → filter_map (λ o. set_at m o NSEC3) xs ≡ encloser → filter_map (λ o. set_at m o NSEC3) ys ≡ closer → filter_map (λ o. set_at m o NSEC3) zs ≡ wildcard_name
          → filter_map (λ o. set_at m o NSEC3) (xs ++ ys ++ zs) ≡ encloser ++ closer ++ wildcard_name
      parts xs ys zs h k l =
          filter_map-append (λ o. set_at m o NSEC3) (xs ++ ys) zs ∙ ap (λ rs. rs ++ filter_map (λ o. set_at m o NSEC3) zs) (filter_map-append (λ o. set_at m o NSEC3) xs ys)
          ∙ (λ i. (h i ++ k i) ++ l i)

-- ---- the walk, as far as it has come: it goes on, it found the encloser, or it is refused

module _ (m : Sets) (hashed : Name → Result Name ProtoError) (whole n above : Name) (is : above ≡ drop 1 n) (inner : above ≡ [] → ⊥) (so_far : encloser_of m hashed whole ≡ encloser_of m hashed n) where
  pub goes_on : (h : Name) → hashed above ≡ Ok h → None ≡ set_at m h NSEC3 → encloser_of m hashed whole ≡ encloser_of m hashed (drop 1 n)
  goes_on h key stands = so_far ∙ walk_on m hashed n above is inner h key stands

  pub is_found : (h : Name) (s : RRset) → hashed above ≡ Ok h → Some s ≡ set_at m h NSEC3 → encloser_of m hashed whole ≡ Ok (Some (base_name n))
  is_found h s key stands = so_far ∙ walk_found m hashed n above is inner h s key stands

  pub is_refused : (e : ProtoError) → (e ≡ Memory) ⊎ (hashed above ≡ Err e) → (e ≡ Memory) ⊎ (encloser_of m hashed whole ≡ Err e)
  is_refused e (inl memory) = inl memory
  is_refused e (inr h) = inr (so_far ∙ walk_refused m hashed n above is inner e h)

-- ---- the wildcard at the encloser

-- it is the next closer name with `*` for its first label
closer_wildcard : (q n : Name) → next_closer q (base_name n) ≡ Some n → wildcard_of n ≡ wildcard_under (base_name n)
closer_wildcard q [] closer = absurd (true≢false (sym (found_above (λ s. length s == 1) q [] closer).1))
closer_wildcard q (l ∷ ls) closer = refl

module _ {E : Type 0} (m : Sets) (hashed : Name → Result Name E) (q n : Name) (closer : next_closer q (base_name n) ≡ Some n) where
  wildcard_name_is : (r : Result Name E) → hashed (wildcard_of n) ≡ r → wildcard_part m hashed (base_name n) ≡ result_and_then (λ h. Ok (option_to_list (option_or (match_owner m h) (cover_owner m h)))) r
  wildcard_name_is r is = ap (result_and_then (λ h. Ok (option_to_list (option_or (match_owner m h) (cover_owner m h))))) (ap hashed (sym (closer_wildcard q n closer)) ∙ is)

  -- what matches it or else what covers it was found
  pub wildcard_found : (h : Name) (sets : List RRset) → hashed (wildcard_of n) ≡ Ok h → sets ≡ filter_map (λ o. set_at m o NSEC3) (option_to_list (option_or (match_owner m h) (cover_owner m h)))
      → sets_of m (wildcard_part m hashed (base_name n)) ≡ Ok sets
  wildcard_found h sets is found = ap (sets_of m) (wildcard_name_is (Ok h) is) ∙ ap Ok (sym found)

-- ---- when the name's own set isn't the answer

pub after_wildcard : (own : Option (Bor RRset)) (w : Bool) → w ≡ true → is_some (option_copied own) && not w ≡ false
after_wildcard None w is = refl
after_wildcard (Some s) w is = ap not is

pub without_own : (own : Option (Bor RRset)) (w : Bool) → false ≡ is_some own → is_some (option_copied own) && not w ≡ false
without_own None w is = refl
without_own (Some s) w is = absurd (true≢false (sym is))

-- results that are the same are refused alike
pub refused_too : {X : Type 0} (r s : Result X ProtoError) → r ≡ s → (e : ProtoError) → (e ≡ Memory) ⊎ (s ≡ Err e) → (e ≡ Memory) ⊎ (r ≡ Err e)
refused_too r s same e (inl memory) = inl memory
refused_too r s same e (inr is) = inr (same ∙ is)
