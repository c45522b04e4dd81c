-- The keys next to a name, and the names above it that are in the zone's tree
use Rattle.std.proofs.Common.{◌≡◌, ℕ, ◌-◌, ◌<◌, ◌≤◌, ◌++◌, length, take, drop, true, sym, ap, ◌∙◌, subst, arith, ◌⊎◌, inl, inr}
use Rattle.std.specs.Prelude.{max}
use Rattle.std.proofs.lemmas.Bool.{cases_lt}
use Rattle.std.proofs.lemmas.List.{append_assoc, take-append-drop}
use Rattle.zone_proto.specs.declared.rr_key.RrKey.{RrKey}
use Rattle.zone_proto.specs.Names.{Name, is_at_or_above, IsAbove, IsAtOrAbove}
use Rattle.zone_proto.proofs.Members.{any_from_In}
use Rattle.zone_proto.proofs.Names.NameTree.{is_at_or_above_complete}
use Rattle.zone_map.specs.Zones.{Sets, owns, owns_at_or_below, names_of}
use Rattle.zone_map.proofs.Owned.{name_in}
use Rattle.zone_response.specs.Neighbours.{IsInTree}
use Rattle.zone_response.proofs.NextKeys.{at_from_above, last_length, nested}

-- the last labels of a name are at or above it
last_at : (count : ℕ) (x : Name) → IsAtOrAbove (drop (length x - count) x) x
last_at count x = (take (length x - count) x, sym (take-append-drop (length x - count) x))

pub at_at : (a b x : Name) → IsAtOrAbove a b → IsAtOrAbove b x → IsAtOrAbove a x
at_at a b x (f, e) (g, h) = (g ++ f, h ∙ ap (λ y. g ++ y) e ∙ sym (append_assoc g f a))

-- an ancestor that is no longer than what a name shares with another one is at or above that
pub shared_at : (n o a : Name) (shared : ℕ) → shared ≤ length n → IsAtOrAbove (drop (length n - shared) n) o → IsAbove a n → length a ≤ shared → IsAtOrAbove a o
shared_at n o a shared within w above few =
    let last : Name = drop (length n - shared) n in
    at_at a last o (nested a last n (at_from_above a n above) (last_at shared n) (omega (arith, last_length shared n within, few))) w

-- what is at or above an owner is in the tree
pub owner_in_tree : (m : Sets) (k : RrKey) (a : Name) → owns m k.name k.record_type.0 ≡ true → IsAtOrAbove a k.name → owns_at_or_below m a ≡ true
owner_in_tree m k a owned w = any_from_In (is_at_or_above a) k.name (names_of m) (name_in m k.name k.record_type.0 owned) (is_at_or_above_complete a k.name w)

greater_of : (a b c : ℕ) → c ≡ max a b → (c ≡ a) ⊎ (c ≡ b)
greater_of a b c e = by (cases_lt a b)
  where
    by : (a < b) ⊎ (b ≤ a) → (c ≡ a) ⊎ (c ≡ b)
    by (inl h) = inr (omega (arith, e, h))
    by (inr h) = inl (omega (arith, e, h))

pub greater_in_tree : (m : Sets) (x : Name) (before after count : ℕ) → count ≡ max before after → IsInTree m x before → IsInTree m x after → IsInTree m x count
greater_in_tree m x before after count e h k = by (greater_of before after count e)
  where
    by : (count ≡ before) ⊎ (count ≡ after) → IsInTree m x count
    by (inl f) = subst (λ n. IsInTree m x n) (sym f) h
    by (inr f) = subst (λ n. IsInTree m x n) (sym f) k
