-- The records that stay in a set are of its owner and its type
use Rattle.std.proofs.Common.{◌≡◌, ℕ, Bool, true, false, cond, not, List, [], ◌∷◌, ◌++◌, map, refl, sym, true≢false, Ordering, Less, Equal, Greater}
use Rattle.std.specs.Prelude.{if◌then◌else◌}
use Rattle.std.specs.List.{AllByRecursion}
use Rattle.std.specs.Ordering.{is_eq}
use Rattle.std.proofs.lemmas.List.Elements.{recursion_from_All}
use Rattle.zone_proto.specs.declared.rdata.RData.{RData}
use Rattle.zone_proto.specs.declared.record.Record.{Record}
use Rattle.zone_proto.specs.Data.{same_data, type_of}
use Rattle.zone_proto.specs.Names.{Name, lower, name_cmp, same_name}
use Rattle.zone_proto.specs.Sets.{IsSet, is_single}
use Rattle.zone_proto.proofs.Names.Tree.{name_order}
use Rattle.zone_update.specs.Processing.{beside, others, with_ttl}

tied : (o : Ordering) → is_eq o ≡ true → o ≡ Equal
tied Less h = absurd (true≢false (sym h))
tied Equal h = refl
tied Greater h = absurd (true≢false (sym h))

same_lower : (a b : Name) → same_name a b ≡ true → lower a ≡ lower b
same_lower a b h = name_order.exact (lower a) (lower b) (tied (name_cmp (lower a) (lower b)) h)

module _ (n : Name) where
  -- of an owner, the case of letters aside
  abbrev pub IsOf : Record → Type 0
  IsOf r = lower r.name ≡ lower n

  others_own : (d : RData) (ttl : ℕ) (rs : List Record) → AllByRecursion (λ (r : Record). same_name r.name n ≡ true) rs → AllByRecursion IsOf (map (with_ttl ttl) (others rs d))
  others_own d ttl [] h = tt
  others_own d ttl (x ∷ rs) h = by (not (same_data x.rdata d)) (others_own d ttl rs h.1)
    where
      by : (b : Bool) → AllByRecursion IsOf (map (with_ttl ttl) (others rs d)) → AllByRecursion IsOf (map (with_ttl ttl) (cond b (x ∷ others rs d) (others rs d)))
      by true ih = (same_lower x.name n h.0, ih)
      by false ih = ih

module _ (t : ℕ) where
  abbrev pub IsOfType : Record → Type 0
  IsOfType r = type_of r.rdata ≡ t

  others_types : (d : RData) (ttl : ℕ) (rs : List Record) → AllByRecursion IsOfType rs → AllByRecursion IsOfType (map (with_ttl ttl) (others rs d))
  others_types d ttl [] h = tt
  others_types d ttl (x ∷ rs) h = by (not (same_data x.rdata d)) (others_types d ttl rs h.1)
    where
      by : (b : Bool) → AllByRecursion IsOfType (map (with_ttl ttl) (others rs d)) → AllByRecursion IsOfType (map (with_ttl ttl) (cond b (x ∷ others rs d) (others rs d)))
      by true ih = (h.0, ih)
      by false ih = ih

all_last : {X : Type 0} (P : X → Type 0) (xs : List X) (x : X) → AllByRecursion P xs → P x → AllByRecursion P (xs ++ x ∷ [])
all_last P [] x h p = (p, tt)
all_last P (y ∷ xs) x h p = (h.0, all_last P xs x h.1 p)

-- ---- of a set

module _ (owner : Name) (t : ℕ) (rs : List Record) (rule : IsSet owner t rs) where
  pub left_own : (d : RData) (ttl : ℕ) → AllByRecursion (IsOf owner) (map (with_ttl ttl) (others rs d))
  left_own d ttl = others_own owner d ttl rs (recursion_from_All (λ (r : Record). same_name r.name owner ≡ true) rs rule.owners)

  pub left_types : (d : RData) (ttl : ℕ) → AllByRecursion (IsOfType t) (map (with_ttl ttl) (others rs d))
  left_types d ttl = others_types t d ttl rs (recursion_from_All (λ (r : Record). type_of r.rdata ≡ t) rs rule.types)

  pub beside_own : (r : Record) → lower r.name ≡ lower owner → AllByRecursion (IsOf owner) (beside rs r ++ r ∷ [])
  beside_own r h = all_last (IsOf owner) (beside rs r) r (by (is_single (type_of r.rdata))) h
    where
      by : (b : Bool) → AllByRecursion (IsOf owner) (if b then [] else map (with_ttl r.ttl) (others rs r.rdata))
      by true = tt
      by false = left_own r.rdata r.ttl

  pub beside_types : (r : Record) → type_of r.rdata ≡ t → AllByRecursion (IsOfType t) (beside rs r ++ r ∷ [])
  beside_types r h = all_last (IsOfType t) (beside rs r) r (by (is_single (type_of r.rdata))) h
    where
      by : (b : Bool) → AllByRecursion (IsOfType t) (if b then [] else map (with_ttl r.ttl) (others rs r.rdata))
      by true = tt
      by false = left_types r.rdata r.ttl
