-- The places of the names that a change affects, one for one
use Rattle.std.proofs.Common.{◌≡◌, ℕ, suc, ◌+◌, ◌<◌, Bool, true, false, cond, List, [], ◌∷◌, ◌++◌, length, get_or, take, map, add-one, refl, sym, ap, ◌∙◌, subst, inl, inr, IsPermutation}
use Rattle.std.specs.Prelude.{Option, Some, None, option_map}
use Rattle.std.specs.Cmp.{both_ways}
use Rattle.std.proofs.Math.Seq.{take-suc}
use Rattle.std.proofs.lemmas.List.Sorted.{Contains-permutation, IsPermutation-sym}
use Rattle.zone_proto.specs.declared.record_type.RecordType.{RecordType}
use Rattle.zone_proto.specs.HashedOwners.{hashed_owner}
use Rattle.zone_proto.specs.Names.{Name}
use Rattle.zone_proto.proofs.Members.{In, In-Contains, Contains-In, In-filter_map, In-from_filter_map, In-map, In-from_map}
use Rattle.zone_map.specs.Zones.{Sets}
use Rattle.zone_denial.specs.Nsec3Circle.{nsec3_types}
use Rattle.zone_denial.specs.Nsec3Names.{nsec3_names}
use Rattle.hashed_changes.specs.Among.{is_among}
use Rattle.hashed_changes.specs.declared.places.Affected.{Affected}
use Rattle.hashed_changes.specs.AffectedPlaces.{types_of_set, IsAffected, AreInTurn, AreAffected}
use Rattle.hashed_changes.specs.Places.{owners_of}
use Rattle.hashed_changes.specs.Renewal.{hashed_owners}
use Rattle.hashed_changes.proofs.Counted.{among_from}
use Rattle.hashed_changes.proofs.Names.{among_in}

module _ (origin : Name) (m : Sets) (opt_out : Bool) (n : Name) where
  pub no_types : (gets : Bool) → gets ≡ is_among (nsec3_names origin m opt_out) n → gets ≡ false → None ≡ types_of_set origin m opt_out n
  no_types gets e h = sym (ap (λ b. cond b (Some (nsec3_types origin m n)) None) (sym e ∙ h))

  pub some_types : (gets : Bool) (types : List RecordType) → gets ≡ is_among (nsec3_names origin m opt_out) n → gets ≡ true → map (λ (t : RecordType). t.0) types ≡ nsec3_types origin m n
      → Some (map (λ (t : RecordType). t.0) types) ≡ types_of_set origin m opt_out n
  some_types gets types e h is = ap Some is ∙ sym (ap (λ b. cond b (Some (nsec3_types origin m n)) None) (sym e ∙ h))

module _ (origin : Name) (m : Sets) (hash : Name → Option (List ℕ)) (opt_out : Bool) where
  abbrev Are : List Name → List Affected → Type 0
  Are = AreInTurn origin m hash opt_out

  abbrev Is : Name → Affected → Type 0
  Is = IsAffected origin m hash opt_out

  one_behind : (ns : List Name) (places : List Affected) (n : Name) (a : Affected) → Are ns places → Is n a → Are (ns ++ n ∷ []) (places ++ a ∷ [])
  one_behind [] [] n a h k = (k, tt)
  one_behind [] (b ∷ places) n a h k = absurd h
  one_behind (x ∷ ns) [] n a h k = absurd h
  one_behind (x ∷ ns) (b ∷ places) n a h k = (h.0, one_behind ns places n a h.1 k)

  pub one_more_affected : (all : List Name) (i : ℕ) (n : Name) (places new : List Affected) (a : Affected) → i < length all → n ≡ get_or all i n → new ≡ places ++ a ∷ [] → Is n a
      → Are (take i all) places → Are (take (i + 1) all) new
  one_more_affected all i n places new a lt is made k h = rw add-one (
      subst (Are (take (suc i) all)) (sym made)
      (subst (λ (ns : List Name). Are ns (places ++ a ∷ [])) (sym (take-suc all i n lt ∙ ap (λ (x : Name). take i all ++ x ∷ []) (sym is))) (one_behind (take i all) places n a h k)))

  name_of_place : (ns : List Name) (places : List Affected) → Are ns places → (a : Affected) → In a places → (n : Name) × In n ns × Is n a
  name_of_place [] [] h a i = absurd i
  name_of_place [] (b ∷ places) h a i = absurd h
  name_of_place (n ∷ ns) [] h a i = absurd i
  name_of_place (n ∷ ns) (b ∷ places) h a (inl e) = (n, inl refl, subst (Is n) e h.0)
  name_of_place (n ∷ ns) (b ∷ places) h a (inr i) = let r = name_of_place ns places h.1 a i in (r.0, inr r.1, r.2)

  place_of_name : (ns : List Name) (places : List Affected) → Are ns places → (n : Name) → In n ns → (a : Affected) × In a places × Is n a
  place_of_name [] [] h n i = absurd i
  place_of_name [] (b ∷ places) h n i = absurd i
  place_of_name (x ∷ ns) [] h n i = absurd h
  place_of_name (x ∷ ns) (b ∷ places) h n (inl e) = (b, inl refl, subst (λ (y : Name). Is y b) e h.0)
  place_of_name (x ∷ ns) (b ∷ places) h n (inr i) = let r = place_of_name ns places h.1 n i in (r.0, inr r.1, r.2)

  -- sorted they are those of the names, in any order
  pub sorted_places : (ns : List Name) (places sorted : List Affected) → Are ns places → IsPermutation places sorted → AreAffected origin m hash opt_out ns sorted
  sorted_places ns places sorted h moved = record {
    each = λ n c.
        let r = place_of_name ns places h n (Contains-In n ns c) in
        (r.0, Contains-permutation places sorted r.0 moved (In-Contains r.0 places r.1), r.2);
    no_other = λ a c.
        let r = name_of_place ns places h a (Contains-In a places (Contains-permutation sorted places a (IsPermutation-sym places sorted moved) c)) in
        (r.0, In-Contains r.0 ns r.1, r.2);
  }

  -- ---- their owners are the hashed owners of the names

  module _ (ns : List Name) (places : List Affected) (h : AreAffected origin m hash opt_out ns places) where
    hashed : (n : Name) (a : Affected) → Is n a → option_map (hashed_owner origin) (hash n) ≡ Some a.place.owner
    hashed n a k = ap (option_map (hashed_owner origin)) k.digest ∙ ap Some (sym k.owner)

    pub owner_in : (o : Name) → In o (owners_of places) → In o (hashed_owners hash origin ns)
    owner_in o i =
        let a = In-from_map (λ (x : Affected). x.place.owner) o places i in
        let r = h.no_other a.0 (In-Contains a.0 places a.1) in
        In-filter_map (λ n. option_map (hashed_owner origin) (hash n)) r.0 o ns (Contains-In r.0 ns r.1) (hashed r.0 a.0 r.2 ∙ ap Some a.2)

    pub owner_from : (o : Name) → In o (hashed_owners hash origin ns) → In o (owners_of places)
    owner_from o i =
        let n = In-from_filter_map (λ x. option_map (hashed_owner origin) (hash x)) o ns i in
        let r = h.each n.0 (In-Contains n.0 ns n.1) in
        subst (λ x. In x (owners_of places)) (one r.0.place.owner o (sym (hashed n.0 r.0 r.2) ∙ n.2)) (In-map (λ (x : Affected). x.place.owner) r.0 places (Contains-In r.0 places r.1))
      where
        one : (x y : Name) → Some x ≡ Some y → x ≡ y
        one x y e = cc

    pub same_owners : (o : Name) → is_among (owners_of places) o ≡ is_among (hashed_owners hash origin ns) o
    same_owners o =
        both_ways (is_among (owners_of places) o) (is_among (hashed_owners hash origin ns) o)
        (λ e. among_from (hashed_owners hash origin ns) o (owner_in o (among_in (owners_of places) o e)))
        (λ e. among_from (owners_of places) o (owner_from o (among_in (hashed_owners hash origin ns) o e)))
