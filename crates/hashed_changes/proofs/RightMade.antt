-- What is said of all that are made anew is right
use Rattle.std.proofs.Common.{◌≡◌, ℕ, suc, ◌+◌, ◌<◌, List, [], ◌∷◌, ◌++◌, length, get_or, map, drop, drop-cons, add-one, sym, ap, ◌∙◌, subst, append_assoc, ◌⊎◌, inl, inr}
use Rattle.std.specs.Prelude.{Option, Some, None, flat_map, option_map, option_to_list}
use Rattle.std.specs.List.{Contains}
use Rattle.std.proofs.lemmas.List.{map-append}
use Rattle.zone_proto.specs.Names.{Name}
use Rattle.zone_proto.proofs.Members.{In, In-Contains, Contains-In, In-from_append}
use Rattle.zone_map.specs.Zones.{Sets}
use Rattle.zone_denial.specs.Nsec3Sets.{nsec3_set_at}
use Rattle.zone_trimming.specs.Trimming.{trimmed_set}
use Rattle.hashed_changes.specs.declared.around.Around.{Around}
use Rattle.hashed_changes.specs.declared.around.Passed.{Passed}
use Rattle.hashed_changes.specs.declared.places.Place.{Place}
use Rattle.hashed_changes.specs.declared.places.Affected.{Affected}
use Rattle.hashed_changes.specs.declared.renewals.Renewal.{Renewal}
use Rattle.hashed_changes.specs.Passing.{IsAround, IsPassed}
use Rattle.hashed_changes.specs.Places.{fresh_places, owners_of}
use Rattle.hashed_changes.specs.Renewal.{with_nearest}
use Rattle.hashed_changes.specs.Renewals.{AreRight, IsRight, LinksAffected, LinksNearest, set_by}
use Rattle.hashed_changes.proofs.RightSets.{right_of, right_before}

module _ (origin : Name) (after : Sets) (affected : List Affected) where
  pub right_behind : (old new : List Renewal) (r : Renewal) → new ≡ old ++ r ∷ [] → IsRight origin after affected r → AreRight origin after affected old → AreRight origin after affected new
  right_behind old new r made h are x c = by (In-from_append x old (r ∷ []) (subst (λ (rs : List Renewal). In x rs) made (Contains-In x new c)))
    where
      by : In x old ⊎ In x (r ∷ []) → IsRight origin after affected x
      by (inl i) = are x (In-Contains x old i)
      by (inr (inl e)) = subst (IsRight origin after affected) e h
      by (inr (inr i)) = absurd i

  module _ (fresh : List Place) (is : fresh ≡ fresh_places affected) (one : Affected) (p : Passed) (passed : IsPassed origin after (owners_of affected) p) (same : p.owner ≡ one.place.owner) where
    around_one : (k : Option Around) → p.around ≡ k → IsAround origin after (owners_of affected) one.place.owner k
    around_one k e = subst (λ (o : Name). IsAround origin after (owners_of affected) o k) same (subst (IsAround origin after (owners_of affected) p.owner) e passed.around)

    -- an affected name without a nearest owner before it
    pub alone_right : p.around ≡ None → Contains affected one → (r : Renewal) → r.owner ≡ one.place.owner → LinksAffected None fresh one r.link → IsRight origin after affected r
    alone_right none c r own link m keys names hash parameters ttl serial st are =
        subst (λ (o : Name). option_map trimmed_set (nsec3_set_at origin after hash parameters ttl serial o) ≡ option_map trimmed_set (set_by parameters ttl serial o r.link)) (sym own)
        (ap (option_map trimmed_set) (right_of origin m after keys names hash parameters ttl serial st affected are one (Contains-In one affected c) None None (around_one None none) tt r.link
        (subst (λ (ps : List Place). LinksAffected None ps one r.link) is link)))

    pub owner_alone : p.around ≡ None → (old new : List Renewal) (own : Renewal) → new ≡ old ++ own ∷ [] → own.owner ≡ one.place.owner
        → map (λ (r : Renewal). r.owner) new ≡ map (λ (r : Renewal). r.owner) old ++ with_nearest after (owners_of affected) one.place.owner
    owner_alone none old new own made e =
        let owner_of = λ (r : Renewal). r.owner in
        ap (map owner_of) made
        ∙ map-append owner_of old (own ∷ [])
        ∙ (λ i. map owner_of old ++ e i ∷ option_to_list (sym (around_one None none) i))

    module _ (k : Around) (there : p.around ≡ Some k) where
      around : IsAround origin after (owners_of affected) one.place.owner (Some k)
      around = around_one (Some k) there

      -- with one
      pub own_right : Contains affected one → (r : Renewal) → r.owner ≡ one.place.owner → LinksAffected (Some k.kept) fresh one r.link → IsRight origin after affected r
      own_right c r own link m keys names hash parameters ttl serial st are =
          subst (λ (o : Name). option_map trimmed_set (nsec3_set_at origin after hash parameters ttl serial o) ≡ option_map trimmed_set (set_by parameters ttl serial o r.link)) (sym own)
          (ap (option_map trimmed_set) (right_of origin m after keys names hash parameters ttl serial st affected are one (Contains-In one affected c) (Some k.nearest) (Some k.kept) around.0 (around.1, around.2) r.link
          (subst (λ (ps : List Place). LinksAffected (Some k.kept) ps one r.link) is link)))

      -- and that one
      pub before_right : (r : Renewal) → r.owner ≡ k.nearest → LinksNearest after (Some k.kept) fresh k.nearest r.link → IsRight origin after affected r
      before_right r own link m keys names hash parameters ttl serial st are =
          subst (λ (o : Name). option_map trimmed_set (nsec3_set_at origin after hash parameters ttl serial o) ≡ option_map trimmed_set (set_by parameters ttl serial o r.link)) (sym own)
          (right_before origin m after keys names hash parameters ttl serial st affected are one.place.owner k.nearest k.kept around.0 around.1 around.2 r.link
          (subst (λ (ps : List Place). LinksNearest after (Some k.kept) ps k.nearest r.link) is link))

      pub owner_with : (old mid new : List Renewal) (own before : Renewal) → mid ≡ old ++ own ∷ [] → new ≡ mid ++ before ∷ [] → own.owner ≡ one.place.owner → before.owner ≡ k.nearest
          → map (λ (r : Renewal). r.owner) new ≡ map (λ (r : Renewal). r.owner) old ++ with_nearest after (owners_of affected) one.place.owner
      owner_with old mid new own before made more e f =
          let owner_of = λ (r : Renewal). r.owner in
          ap (map owner_of) (more ∙ ap (λ (rs : List Renewal). rs ++ before ∷ []) made ∙ append_assoc old (own ∷ []) (before ∷ []))
          ∙ map-append owner_of old (own ∷ before ∷ [])
          ∙ (λ i. map owner_of old ++ e i ∷ option_to_list ((ap Some f ∙ sym around.0) i))

-- ---- one more owner

pub one_more_owner : (f : Name → List Name) (xs : List Affected) (i : ℕ) (x : Affected) (so_far new whole : List Name) → i < length xs → x ≡ get_or xs i x → new ≡ so_far ++ f x.place.owner
    → so_far ++ flat_map f (owners_of (drop i xs)) ≡ whole → new ++ flat_map f (owners_of (drop (i + 1) xs)) ≡ whole
one_more_owner f xs i x so_far new whole lt is made h = rw add-one (
    ap (λ (ys : List Name). ys ++ flat_map f (owners_of (drop (suc i) xs))) made
    ∙ append_assoc so_far (f x.place.owner) (flat_map f (owners_of (drop (suc i) xs)))
    ∙ ap (λ (ys : List Affected). so_far ++ flat_map f (owners_of ys)) (ap (λ (y : Affected). y ∷ drop (suc i) xs) is ∙ sym (drop-cons xs i x lt))
    ∙ h)
