-- Where the first zone of each origin stands in a list
use Rattle.std.proofs.Common.{◌≡◌, ℕ, zero, suc, ◌+◌, ◌<◌, ◌≤◌, get_or, take, subst, Bool, true, false, cond, List, [], ◌∷◌, ◌++◌, length, refl, sym, ap, ◌∙◌, arith, true≢false}
use Rattle.std.specs.Prelude.{Option, Some, None, is_some, option_map, unwrap_or}
use Rattle.std.specs.BTreeMap.{BTreeMap, get, IsOrdered}
use Rattle.std.specs.Option.{option_or}
use Rattle.std.specs.Ordering.{is_eq}
use Rattle.std.proofs.lemmas.List.{length-map, length-take-le, map_more}
use Rattle.zone_proto.specs.Names.{Name, name_cmp, name_eq}
use Rattle.zone_proto.proofs.Names.NameTree.{name_eq-Decides}
use Rattle.zone_proto.proofs.Names.Tree.{name_eq_itself}
use Rattle.zone_denial.proofs.Chain.DenialLists.{same_by_order}
use Rattle.zone_response.specs.declared.question.ServedZone.{ServedZone}
use Rattle.zone_server.specs.ListedZones.{origins, place_of, AreFirstPlaces}
use Rattle.zone_server.proofs.ZonesAsked.{some_more, IsMore}

-- ---- where names stand first

-- one more name behind others
pub place_push : (ns : List Name) (n x : Name) → place_of (ns ++ n ∷ []) x ≡ option_or (place_of ns x) (cond (name_eq n x) (Some (length ns)) None)
place_push [] n x = refl
place_push (m ∷ ns) n x = by (name_eq m x) (place_push ns n x)
  where
    later : (o : Option ℕ) (b : Bool) → option_map suc (option_or o (cond b (Some (length ns)) None)) ≡ option_or (option_map suc o) (cond b (Some (suc (length ns))) None)
    later None true = refl
    later None false = refl
    later (Some i) b = refl

    by : (b : Bool) → place_of (ns ++ n ∷ []) x ≡ option_or (place_of ns x) (cond (name_eq n x) (Some (length ns)) None)
        → cond b (Some 0) (option_map suc (place_of (ns ++ n ∷ []) x)) ≡ option_or (cond b (Some 0) (option_map suc (place_of ns x))) (cond (name_eq n x) (Some (length (m ∷ ns))) None)
    by true ih = refl
    by false ih = ap (option_map suc) ih ∙ later (place_of ns x) (name_eq n x)

-- at the place of a name it stands
pub record StandsAt (ns : List Name) (x : Name) (i : ℕ) : Type 0 where
  pub within : i < length ns
  pub is : (d : Name) → get_or ns i d ≡ x

pub stands : (ns : List Name) (x : Name) (i : ℕ) → place_of ns x ≡ Some i → StandsAt ns x i
stands [] x i h = absurd cc
stands (n ∷ ns) x i h = by (name_eq n x) refl h (λ j k. stands ns x j k)
  where
    moved : (j : ℕ) → suc j ≡ i → StandsAt ns x j → StandsAt (n ∷ ns) x i
    moved j e s = subst (StandsAt (n ∷ ns) x) e (record { within = omega (arith, s.within); is = λ d. s.is d })

    by : (b : Bool) → name_eq n x ≡ b → cond b (Some 0) (option_map suc (place_of ns x)) ≡ Some i → ((j : ℕ) → place_of ns x ≡ Some j → StandsAt ns x j) → StandsAt (n ∷ ns) x i
    by true e h rest = subst (StandsAt (n ∷ ns) x) (ap (λ o. unwrap_or o 0) h) (record { within = omega arith; is = λ d. (name_eq-Decides n x).0 e })
    by false e h rest = let m : IsMore (place_of ns x) i = some_more (place_of ns x) i h in moved m.less m.more (rest m.less m.there)

-- each name has a place, no later than any at which it stands
pub record HasPlace (ns : List Name) (x : Name) (k : ℕ) : Type 0 where
  pub place : ℕ
  pub found : place_of ns x ≡ Some place
  pub no_later : place ≤ k

pub has_place : (ns : List Name) (k : ℕ) (d : Name) → k < length ns → HasPlace ns (get_or ns k d) k
has_place [] k d h = absurd (omega arith)
has_place (n ∷ ns) zero d h = record { place = 0; found = ap (λ b. cond b (Some 0) (option_map suc (place_of ns n))) (name_eq_itself n); no_later = omega arith }
has_place (n ∷ ns) (suc k) d h = by (name_eq n (get_or ns k d)) refl (has_place ns k d (omega arith))
  where
    by : (b : Bool) → name_eq n (get_or ns k d) ≡ b → HasPlace ns (get_or ns k d) k → HasPlace (n ∷ ns) (get_or ns k d) (suc k)
    by true e s = record { place = 0; found = ap (λ c. cond c (Some 0) (option_map suc (place_of ns (get_or ns k d)))) e; no_later = omega arith }
    by false e s = record {
      place = suc s.place;
      found = ap (λ c. cond c (Some 0) (option_map suc (place_of ns (get_or ns k d)))) e ∙ ap (option_map suc) s.found;
      no_later = omega (arith, s.no_later);
    }

-- ---- one more origin in a map of places

module _ (m : BTreeMap Name ℕ) (origin : Name) (i : ℕ) where
  -- a map that has the origin stays as it is
  pub place_stays : is_some (get name_cmp m origin) ≡ true → (x : Name) → get name_cmp m x ≡ option_or (get name_cmp m x) (cond (name_eq origin x) (Some i) None)
  place_stays there x = by (name_eq origin x) refl (get name_cmp m x) refl
    where
      by : (b : Bool) → name_eq origin x ≡ b → (o : Option ℕ) → get name_cmp m x ≡ o → o ≡ option_or o (cond b (Some i) None)
      by true e None f = absurd (true≢false (sym there ∙ ap is_some (ap (get name_cmp m) ((name_eq-Decides origin x).0 e) ∙ f)))
      by false e None f = refl
      by b e (Some k) f = refl

  -- and else it is put
  pub place_put : (n : BTreeMap Name ℕ) → is_some (get name_cmp m origin) ≡ false → ((x : Name) → get name_cmp n x ≡ cond (is_eq (name_cmp origin x)) (Some i) (get name_cmp m x))
      → (x : Name) → get name_cmp n x ≡ option_or (get name_cmp m x) (cond (name_eq origin x) (Some i) None)
  place_put n absent put x = put x ∙ ap (λ b. cond b (Some i) (get name_cmp m x)) (same_by_order origin x) ∙ by (name_eq origin x) refl (get name_cmp m x) refl
    where
      by : (b : Bool) → name_eq origin x ≡ b → (o : Option ℕ) → get name_cmp m x ≡ o → cond b (Some i) o ≡ option_or o (cond b (Some i) None)
      by true e None f = refl
      by false e None f = refl
      by false e (Some k) f = refl
      by true e (Some k) f = absurd (true≢false (sym (ap is_some (ap (get name_cmp m) ((name_eq-Decides origin x).0 e) ∙ f)) ∙ absent))

-- ---- the places of zones

module _ {S H : Type 0} where
  pub as_many : (zs : List (ServedZone S H)) → length (origins zs) ≡ length zs
  as_many zs = length-map zs (λ (z : ServedZone S H). z.origin.now)

  pub first_within : (zs : List (ServedZone S H)) (places : BTreeMap Name ℕ) (x : Name) (i : ℕ) → AreFirstPlaces zs places → get name_cmp places x ≡ Some i → i < length zs
  first_within zs places x i h found = let s : StandsAt (origins zs) x i = stands (origins zs) x i (sym (h.first x) ∙ found) in omega (arith, s.within, as_many zs)

  -- the first places in one zone more
  pub one_more : (zs : List (ServedZone S H)) (i : ℕ) (z : ServedZone S H) (m n : BTreeMap Name ℕ) → i < length zs → z ≡ get_or zs i z → AreFirstPlaces (take i zs) m → (IsOrdered name_cmp m → IsOrdered name_cmp n)
      → ((x : Name) → get name_cmp n x ≡ option_or (get name_cmp m x) (cond (name_eq z.origin.now x) (Some i) None)) → AreFirstPlaces (take (i + 1) zs) n
  one_more zs i z m n within is h ordered put = record { ordered = ordered h.ordered; first = λ x. by x }
    where
      names : origins (take (i + 1) zs) ≡ origins (take i zs) ++ z.origin.now ∷ []
      names =
          map_more (λ (y : ServedZone S H). y.origin.now) zs i z within
          ∙ ap (λ (y : ServedZone S H). origins (take i zs) ++ y.origin.now ∷ []) (sym is)

      long : length (origins (take i zs)) ≡ i
      long = as_many (take i zs) ∙ length-take-le i zs (omega (arith, within))

      by : (x : Name) → get name_cmp n x ≡ place_of (origins (take (i + 1) zs)) x
      by x =
          put x
          ∙ ap (λ o. option_or o (cond (name_eq z.origin.now x) (Some i) None)) (h.first x)
          ∙ ap (λ k. option_or (place_of (origins (take i zs)) x) (cond (name_eq z.origin.now x) (Some k) None)) (sym long)
          ∙ sym (ap (λ ns. place_of ns x) names ∙ place_push (origins (take i zs)) z.origin.now x)
