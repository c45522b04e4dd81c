-- The names that a zone is authoritative for
use Rattle.std.proofs.Common.{◌≡◌, ℕ, Bool, true, false, not, ◌&&◌, refl, sym, ap, ◌∙◌, true≢false, eqb-true}
use Rattle.std.specs.Prelude.{◌==◌}
use Rattle.std.specs.Cmp.{both_ways}
use Rattle.zone_proto.specs.Names.{Name, is_above, is_at_or_above}
use Rattle.zone_proto.specs.Types.{NS}
use Rattle.zone_proto.proofs.Members.{In, In-filter, In-from_any, any_from_In, and_left, and_right, not_true}
use Rattle.zone_proto.proofs.Names.NameTree.{above_test, above_is_less}
use Rattle.zone_proto.proofs.Ordering.Orders.{asym}
use Rattle.zone_proto.proofs.Names.Tree.{name_order}
use Rattle.zone_map.specs.Zones.{Sets, owns, owners, types_at, names_of}
use Rattle.zone_map.proofs.Owned.{owner_in, owner_owned, name_in, type_in, type_owned}
use Rattle.zone_denial.specs.Authority.{is_below_cut, owns_besides, is_authoritative, authoritative_names}

-- ---- the three parts of the test

pub authoritative_from : (origin : Name) (m : Sets) (c : ℕ) (n : Name) → is_at_or_above origin n ≡ true → owns_besides m c n ≡ true → is_below_cut origin m n ≡ false → is_authoritative origin m c n ≡ true
authoritative_from origin m c n p q r = λ i. p i && (q i && not (r i))

-- what a name owns besides sets of type c
pub besides_from : (m : Sets) (c : ℕ) (n : Name) (t : ℕ) → not (t == c) ≡ true → owns m n t ≡ true → owns_besides m c n ≡ true
besides_from m c n t d k = any_from_In (λ u. not (u == c)) t (types_at m n) (type_in m n t k) d

pub from_besides : (m : Sets) (c : ℕ) (n : Name) → owns_besides m c n ≡ true → (t : ℕ) × (not (t == c) ≡ true) × (owns m n t ≡ true)
from_besides m c n k = let r = In-from_any (λ u. not (u == c)) (types_at m n) k in (r.0, r.2, type_owned m n r.0 r.1)

-- a name that doesn't own c owns nothing but other types
pub besides_alone : (m : Sets) (c : ℕ) (n : Name) (t : ℕ) → owns m n t ≡ true → owns m n c ≡ false → owns_besides m c n ≡ true
besides_alone m c n t k none = besides_from m c n t (by (t == c) refl) k
  where
    by : (b : Bool) → (t == c) ≡ b → not b ≡ true
    by true e = absurd (true≢false (sym k ∙ ap (owns m n) (eqb-true t c e) ∙ none))
    by false e = refl

-- no name is above and below another
nothing_between : (a b : Name) → is_above a b ≡ true → is_above b a ≡ true → ⊥
nothing_between a b h k = asym name_order a b (above_is_less a b ((above_test a b).0 h)) (above_is_less b a ((above_test b a).0 k))

-- so no zone cut is above the origin
pub origin_uncut : (origin : Name) (m : Sets) → is_below_cut origin m origin ≡ false
origin_uncut origin m = by (is_below_cut origin m origin) refl
  where
    by : (b : Bool) → is_below_cut origin m origin ≡ b → b ≡ false
    by true e =
        let r = In-from_any (λ a. is_above origin a && is_above a origin) (owners m NS) e in
        absurd (nothing_between origin r.0 (and_left (is_above origin r.0) (is_above r.0 origin) r.2) (and_right (is_above origin r.0) (is_above r.0 origin) r.2))
    by false e = refl

-- ---- a name that a zone is authoritative for owns a set

pub authoritative_listed : (origin : Name) (m : Sets) (c : ℕ) (n : Name) → is_authoritative origin m c n ≡ true → In n (authoritative_names origin m c)
authoritative_listed origin m c n k =
    let besides = and_left (owns_besides m c n) (not (is_below_cut origin m n)) (and_right (is_at_or_above origin n) (owns_besides m c n && not (is_below_cut origin m n)) k) in
    let r = from_besides m c n besides in
    In-filter (is_authoritative origin m c) n (names_of m) (name_in m n r.0 r.2) k

-- ---- maps in which names own the same types

-- where the same names own NS, the same zone cuts are above a name
pub same_cuts : (origin : Name) (m after : Sets) → ((n : Name) → owns after n NS ≡ owns m n NS) → (n : Name) → is_below_cut origin after n ≡ is_below_cut origin m n
same_cuts origin m after same n = both_ways (is_below_cut origin after n) (is_below_cut origin m n) (moved after m (λ a. sym (same a))) (moved m after same)
  where
    moved : (a b : Sets) → ((n : Name) → owns b n NS ≡ owns a n NS) → is_below_cut origin a n ≡ true → is_below_cut origin b n ≡ true
    moved a b f k =
        let r = In-from_any (λ w. is_above origin w && is_above w n) (owners a NS) k in
        any_from_In (λ w. is_above origin w && is_above w n) r.0 (owners b NS) (owner_in b r.0 NS (f r.0 ∙ owner_owned a r.0 NS r.1)) r.2

-- types of type c aside, and c isn't NS
abbrev pub OwnSameBesides : ℕ → Sets → Sets → Type 0
OwnSameBesides c m after = (n : Name) (t : ℕ) → (t == c) ≡ false → owns after n t ≡ owns m n t

module _ (c : ℕ) (not_cut : (NS == c) ≡ false) (origin : Name) (m after : Sets) (same : OwnSameBesides c m after) where
  pub same_besides : (n : Name) → owns_besides after c n ≡ owns_besides m c n
  same_besides n = both_ways (owns_besides after c n) (owns_besides m c n) (moved after m same) (moved m after (λ n t e. sym (same n t e)))
    where
      moved : (a b : Sets) → OwnSameBesides c b a → owns_besides a c n ≡ true → owns_besides b c n ≡ true
      moved a b f k = let r = from_besides a c n k in besides_from b c n r.0 r.1 (sym (f n r.0 (not_true (r.0 == c) r.1)) ∙ r.2)

  pub same_authority : (n : Name) → is_authoritative origin after c n ≡ is_authoritative origin m c n
  same_authority n = λ i. is_at_or_above origin n && (same_besides n i && not (same_cuts origin m after (λ a. same a NS not_cut) n i))
