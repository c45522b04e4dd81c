-- Items that are cut from the left: those that are whole, and the octets of the next so far
use Rattle.std.proofs.Common.{◌≡◌, ℕ, List, [], ◌∷◌, ◌++◌, Option, Some, None, refl, sym, ap, ◌∙◌, append_assoc, append-nil}
use Rattle.std.specs.Prelude.{option_map}
use Rattle.service_parameters.specs.Items.{on_first}

-- the first of the items begins with these octets
abbrev pub with_front : List ℕ → List (List ℕ) → List (List ℕ)
with_front item [] = []
with_front item (i ∷ is) = (item ++ i) ∷ is

abbrev pub behind : List (List ℕ) → List ℕ → Option (List (List ℕ)) → Option (List (List ℕ))
behind items item r = option_map (λ is. items ++ with_front item is) r

no_front : (is : List (List ℕ)) → with_front [] is ≡ is
no_front [] = refl
no_front (i ∷ is) = refl

pub begins : (r : Option (List (List ℕ))) → behind [] [] r ≡ r
begins None = refl
begins (Some is) = ap (λ (x : List (List ℕ)). Some x) (no_front is)

pub octet_more : (items : List (List ℕ)) (item : List ℕ) (b : ℕ) (r : Option (List (List ℕ))) → behind items (item ++ b ∷ []) r ≡ behind items item (option_map (on_first b) r)
octet_more items item b None = refl
octet_more items item b (Some []) = refl
octet_more items item b (Some (i ∷ is)) = ap (λ (x : List ℕ). Some (items ++ x ∷ is)) (append_assoc item (b ∷ []) i)

pub item_more : (items : List (List ℕ)) (item : List ℕ) (r : Option (List (List ℕ))) → behind (items ++ item ∷ []) [] r ≡ behind items item (option_map (λ is. [] ∷ is) r)
item_more items item None = refl
item_more items item (Some is) =
    ap (λ (x : List (List ℕ)). Some ((items ++ item ∷ []) ++ x)) (no_front is)
    ∙ ap (λ (x : List (List ℕ)). Some x) (append_assoc items (item ∷ []) is)
    ∙ ap (λ (x : List ℕ). Some (items ++ x ∷ is)) (sym (append-nil item))

pub ends : (items : List (List ℕ)) (item : List ℕ) → behind items item (Some ([] ∷ [])) ≡ Some (items ++ item ∷ [])
ends items item = ap (λ (x : List ℕ). Some (items ++ x ∷ [])) (append-nil item)
