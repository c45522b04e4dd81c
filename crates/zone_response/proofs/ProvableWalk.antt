-- The walk up a name to its closest provable encloser
use Rattle.std.proofs.Common.{◌≡◌, ℕ, ◌≤◌, Bool, true, false, ◌&&◌, ◌||◌, cond, List, [], ◌∷◌, ◌++◌, drop, refl, sym, ap, ◌∙◌, subst, true≢false, length, arith}
use Rattle.std.specs.Prelude.{Option, Some, None, Result, Ok, Err, IsErr, find, is_some}
use Rattle.zone_proto.specs.declared.error.ProtoError.{ProtoError}
use Rattle.zone_proto.specs.Names.{Name, name_eq, is_at_or_above, proper_ancestors, suffixes}
use Rattle.zone_proto.specs.Sets.{RRset}
use Rattle.zone_proto.specs.Types.{NSEC3}
use Rattle.zone_map.specs.Zones.{Sets, set_at}
use Rattle.zone_response.specs.HashedDenials.{in_zone, upto_first, owner_given, has_owner, hashed_by, have_owners, matching, has_set, provable, tried}

-- ---- names that have hashed owners

other_fails : (b c : Bool) → b || c ≡ false → c ≡ false
other_fails false c e = e
other_fails true c e = absurd (true≢false e)

module _ (hash : Name → Result Name ProtoError) where
  pub owner_had : (x h : Name) → hash x ≡ Ok h → has_owner (hash x) ≡ true
  owner_had x h e = ap has_owner e

  pub refused : (x : Name) → IsErr (hash x) → has_owner (hash x) ≡ false
  refused x h = by (hash x) h
    where
      by : (r : Result Name ProtoError) → IsErr r → has_owner r ≡ false
      by (Ok y) h = cc
      by (Err e) h = refl

  -- one of them has none
  pub first_refused : (x : Name) (names : List Name) → IsErr (hash x) → have_owners hash (x ∷ names) ≡ false
  first_refused x names h = ap (λ b. b && have_owners hash names) (refused x h)

  pub first_had : (x h : Name) (names : List Name) → hash x ≡ Ok h → have_owners hash (x ∷ names) ≡ have_owners hash names
  first_had x h names e = ap (λ b. b && have_owners hash names) (owner_had x h e)

  pub front_had : (names more : List Name) → have_owners hash names ≡ true → have_owners hash (names ++ more) ≡ have_owners hash more
  front_had [] more f = refl
  front_had (x ∷ names) more f = by (has_owner (hash x)) f (front_had names more)
    where
      by : (b : Bool) → b && have_owners hash names ≡ true → (have_owners hash names ≡ true → have_owners hash (names ++ more) ≡ have_owners hash more) → b && have_owners hash (names ++ more) ≡ have_owners hash more
      by true f rest = rest f
      by false f rest = absurd (true≢false (sym f))

  pub both_have : (names more : List Name) → have_owners hash names ≡ true → have_owners hash more ≡ true → have_owners hash (names ++ more) ≡ true
  both_have names more f g = front_had names more f ∙ g

  pub front_lacks : (names more : List Name) → have_owners hash names ≡ false → have_owners hash (names ++ more) ≡ false
  front_lacks [] more f = absurd (true≢false f)
  front_lacks (x ∷ names) more f = by (has_owner (hash x)) f (front_lacks names more)
    where
      by : (b : Bool) → b && have_owners hash names ≡ false → (have_owners hash names ≡ false → have_owners hash (names ++ more) ≡ false) → b && have_owners hash (names ++ more) ≡ false
      by true f rest = rest f
      by false f rest = refl

  pub rest_lacks : (names more : List Name) → have_owners hash more ≡ false → have_owners hash (names ++ more) ≡ false
  rest_lacks [] more f = f
  rest_lacks (x ∷ names) more f = by (has_owner (hash x)) (rest_lacks names more f)
    where
      by : (b : Bool) → have_owners hash (names ++ more) ≡ false → b && have_owners hash (names ++ more) ≡ false
      by true f = f
      by false f = refl

-- ---- the walk

module _ (origin : Name) (m : Sets) (hash : Name → Result Name ProtoError) where
  abbrev hashed : Name → Name
  hashed = hashed_by hash

  -- the zone's names are passed, or the walk has left the zone
  inside_is : (a : Name) → is_at_or_above origin a ≡ true → in_zone origin (suffixes a) ≡ a ∷ in_zone origin (proper_ancestors a)
  inside_is [] e = ap (λ b. cond b ([] ∷ []) []) e
  inside_is (l ∷ a) e = ap (λ b. cond b ((l ∷ a) ∷ in_zone origin (suffixes a)) (in_zone origin (suffixes a))) e

  outside_is : (a : Name) → is_at_or_above origin a ≡ false → in_zone origin (suffixes a) ≡ []
  outside_is [] e = ap (λ b. cond b ([] ∷ []) []) e
  outside_is (l ∷ a) e =
      ap (λ b. cond b ((l ∷ a) ∷ in_zone origin (suffixes a)) (in_zone origin (suffixes a))) e ∙ outside_is a (other_fails (name_eq origin (l ∷ a)) (is_at_or_above origin a) e)

  pub none_outside : (a : Name) → is_at_or_above origin a ≡ false → None ≡ provable origin m hashed (suffixes a)
  none_outside a e = sym (ap (find (has_set origin m hashed)) (outside_is a e))

  pub untried_outside : (a : Name) → is_at_or_above origin a ≡ false → tried origin m hashed (suffixes a) ≡ []
  untried_outside a e = ap (upto_first (has_set origin m hashed)) (outside_is a e)

  -- what comes above a name that isn't the root
  above_is : (a b : Name) → (a ≡ [] → ⊥) → b ≡ drop 1 a → suffixes b ≡ proper_ancestors a
  above_is [] b below e = absurd (below refl)
  above_is (l ∷ a) b below e = ap suffixes e

  module _ (a h : Name) (set : Option RRset) (inside : is_at_or_above origin a ≡ true) (is : hash a ≡ Ok h) (stands : set ≡ set_at m h NSEC3) where
    has : has_set origin m hashed a ≡ is_some set
    has = ap (λ r. is_some (set_at m (owner_given r) NSEC3)) is ∙ ap is_some (sym stands)

    found_is : provable origin m hashed (suffixes a) ≡ cond (is_some set) (Some a) (provable origin m hashed (proper_ancestors a))
    found_is = ap (find (has_set origin m hashed)) (inside_is a inside) ∙ ap (λ b. cond b (Some a) (provable origin m hashed (proper_ancestors a))) has

    pub tried_is : tried origin m hashed (suffixes a) ≡ a ∷ cond (is_some set) [] (tried origin m hashed (proper_ancestors a))
    tried_is = ap (upto_first (has_set origin m hashed)) (inside_is a inside) ∙ ap (λ b. a ∷ cond b [] (tried origin m hashed (proper_ancestors a))) has

    pub hashed_is : have_owners hash (tried origin m hashed (suffixes a)) ≡ have_owners hash (cond (is_some set) [] (tried origin m hashed (proper_ancestors a)))
    hashed_is = ap (have_owners hash) tried_is ∙ first_had hash a h (cond (is_some set) [] (tried origin m hashed (proper_ancestors a))) is

  -- ---- a step of the walk, at a name of the zone

  tried_begins : (a : Name) → is_at_or_above origin a ≡ true → tried origin m hashed (suffixes a) ≡ a ∷ cond (has_set origin m hashed a) [] (tried origin m hashed (proper_ancestors a))
  tried_begins a inside = ap (upto_first (has_set origin m hashed)) (inside_is a inside)

  -- it has no hashed owner
  pub lacks_there : (a : Name) → is_at_or_above origin a ≡ true → IsErr (hash a) → have_owners hash (tried origin m hashed (suffixes a)) ≡ false
  lacks_there a inside e = ap (have_owners hash) (tried_begins a inside) ∙ first_refused hash a (cond (has_set origin m hashed a) [] (tried origin m hashed (proper_ancestors a))) e

  -- so that it is hashed
  pub one_tried : (a : Name) (k : ℕ) → is_at_or_above origin a ≡ true → k ≤ 1 → k ≤ length (tried origin m hashed (suffixes a))
  one_tried a k inside e = subst (λ (names : List Name). k ≤ length names) (sym (tried_begins a inside)) (omega arith)

  module _ (a h : Name) (inside : is_at_or_above origin a ≡ true) (is : hash a ≡ Ok h) where
    -- a set matches it
    module _ (s : RRset) (stands : Some s ≡ set_at m h NSEC3) where
      pub found_there : Some a ≡ provable origin m hashed (suffixes a)
      found_there = sym (found_is a h (Some s) inside is stands)

      pub set_there : matching origin m hashed a ≡ Some s
      set_there = ap (λ r. set_at m (owner_given r) NSEC3) is ∙ sym stands

      pub had_there : have_owners hash (tried origin m hashed (suffixes a)) ≡ true
      had_there = hashed_is a h (Some s) inside is stands

    -- none matches it
    module _ (stands : None ≡ set_at m h NSEC3) where
      pub none_at_root : a ≡ [] → None ≡ provable origin m hashed (suffixes a)
      none_at_root root = sym (found_is a h None inside is stands ∙ ap (λ b. provable origin m hashed (proper_ancestors b)) root)

      pub had_at_root : a ≡ [] → have_owners hash (tried origin m hashed (suffixes a)) ≡ true
      had_at_root root = hashed_is a h None inside is stands ∙ ap (λ b. have_owners hash (tried origin m hashed (proper_ancestors b))) root

      module _ (b : Name) (below : a ≡ [] → ⊥) (shorter : b ≡ drop 1 a) where
        pub found_above : provable origin m hashed (suffixes b) ≡ provable origin m hashed (suffixes a)
        found_above = ap (provable origin m hashed) (above_is a b below shorter) ∙ sym (found_is a h None inside is stands)

        pub had_above : have_owners hash (tried origin m hashed (suffixes b)) ≡ have_owners hash (tried origin m hashed (suffixes a))
        had_above = ap (λ names. have_owners hash (tried origin m hashed names)) (above_is a b below shorter) ∙ sym (hashed_is a h None inside is stands)

        pub one_more_tried : tried origin m hashed (suffixes a) ≡ a ∷ tried origin m hashed (suffixes b)
        one_more_tried = tried_is a h None inside is stands ∙ ap (λ names. a ∷ tried origin m hashed names) (sym (above_is a b below shorter))
