-- Tests that all elements of a list pass
use Rattle.std.proofs.Common.{◌≡◌, Bool, true, ◌&&◌, List, [], ◌∷◌, refl, sym, ap, ◌∙◌, inl, inr}
use Rattle.std.specs.List.{list_all}
use Rattle.std.proofs.lemmas.List.Sums.{AllPass-from_list_all}
use Rattle.zone_proto.proofs.Members.{In, In-Contains}

module _ {A : Type 0} (p : A → Bool) where
  pub all_from_In : (xs : List A) → ((x : A) → In x xs → p x ≡ true) → list_all p xs ≡ true
  all_from_In [] h = refl
  all_from_In (x ∷ xs) h = λ i. h x (inl refl) i && all_from_In xs (λ y j. h y (inr j)) i

  pub In-passes : (xs : List A) → list_all p xs ≡ true → (x : A) → In x xs → p x ≡ true
  In-passes xs h x i = let c = In-Contains x xs i in ap p (sym c.2) ∙ AllPass-from_list_all p xs h c.0 x c.1
