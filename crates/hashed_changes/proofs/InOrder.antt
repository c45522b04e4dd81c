-- The places of affected names in the order of their owners
use Rattle.std.proofs.Common.{◌≡◌, ℕ, ◌<◌, Bool, true, false, cond, List, [], ◌∷◌, ◌++◌, length, sym, ap, ◌∙◌, subst, Less, Equal, Greater, HoldsAt}
use Rattle.std.specs.Prelude.{Some, None, is_some}
use Rattle.std.specs.List.{cons_option}
use Rattle.std.specs.List.Sorted.{IsPartitionPoint}
use Rattle.std.proofs.lemmas.List.{append-nil}
use Rattle.zone_proto.specs.Names.{Name, name_cmp}
use Rattle.hashed_changes.specs.Among.{is_among}
use Rattle.hashed_changes.specs.declared.places.Place.{Place}
use Rattle.hashed_changes.specs.declared.places.Affected.{Affected}
use Rattle.hashed_changes.specs.Places.{fresh_places, owners_of, AreInOrder, ArePlacesInOrder}
use Rattle.hashed_changes.proofs.Counted.{among_from}
use Rattle.hashed_changes.proofs.Halving.{Above, Rise, rise_of, sorted_of, found, found_nowhere}
use Rattle.hashed_changes.proofs.Names.{not_among_from}

abbrev pub owner : Affected → Name
owner a = a.place.owner

abbrev pub place_owner : Place → Name
place_owner p = p.owner

-- ---- an owner is looked for

pub is_found : (xs : List Affected) (n : Name) (i : ℕ) → i < length xs → HoldsAt (λ (a : Affected). name_cmp a.place.owner n ≡ Equal) xs i → true ≡ is_among (owners_of xs) n
is_found xs n i l h = sym (among_from (owners_of xs) n (found owner xs n i l h))

pub isnt_found : (xs : List Affected) (n : Name) (i : ℕ) → IsPartitionPoint (λ (a : Affected). name_cmp a.place.owner n ≡ Less) (λ (a : Affected). name_cmp a.place.owner n ≡ Greater) xs i → false ≡ is_among (owners_of xs) n
isnt_found xs n i parted = sym (not_among_from (owners_of xs) n (found_nowhere owner xs n i parted))

-- ---- the places of those that get sets

fresh_above : (a : Affected) (xs : List Affected) → Above owner a xs → Above place_owner a.place (fresh_places xs)
fresh_above a [] h = tt
fresh_above a (b ∷ xs) h = by (is_some b.types) (fresh_above a xs h.1)
  where
    by : (c : Bool) → Above place_owner a.place (fresh_places xs) → Above place_owner a.place (cons_option (cond c (Some b.place) None) (fresh_places xs))
    by true r = (h.0, r)
    by false r = r

fresh_rise : (xs : List Affected) → Rise owner xs → Rise place_owner (fresh_places xs)
fresh_rise [] h = tt
fresh_rise (a ∷ xs) h = by (is_some a.types) (fresh_above a xs h.0) (fresh_rise xs h.1)
  where
    by : (c : Bool) → Above place_owner a.place (fresh_places xs) → Rise place_owner (fresh_places xs) → Rise place_owner (cons_option (cond c (Some a.place) None) (fresh_places xs))
    by true k r = (k, r)
    by false k r = r

pub fresh_in_order : (xs : List Affected) (fresh : List Place) → fresh ≡ fresh_places xs → AreInOrder xs → ArePlacesInOrder fresh
fresh_in_order xs fresh e up = subst ArePlacesInOrder (sym e) (sorted_of place_owner (fresh_places xs) (fresh_rise xs (rise_of owner xs up)))

module _ (one : Affected) (old : List Place) (gets : Bool) (is : gets ≡ is_some one.types) where
  alone : (b : Bool) → gets ≡ b → fresh_places (one ∷ []) ≡ cons_option (cond b (Some one.place) None) []
  alone b e = ap (λ c. cons_option (cond c (Some one.place) None) []) (sym is ∙ e)

  pub put_behind : (name : Name) (digest : List ℕ) (new : List Place) → gets ≡ true → name ≡ one.place.owner → digest ≡ one.place.digest → new ≡ old ++ record { owner = name; digest = digest } ∷ [] → new ≡ old ++ fresh_places (one ∷ [])
  put_behind name digest new e same alike made =
      made
      ∙ (λ i. old ++ record { owner = same i; digest = alike i } ∷ [])
      ∙ ap (λ (ps : List Place). old ++ ps) (sym (alone true e))

  pub not_put : (new : List Place) → gets ≡ false → new ≡ old → new ≡ old ++ fresh_places (one ∷ [])
  not_put new e same = same ∙ sym (append-nil old) ∙ ap (λ (ps : List Place). old ++ ps) (sym (alone false e))
