-- Sets of one type, each that of its owner, of which each is taken once
use Rattle.std.proofs.Common.{◌≡◌, ℕ, Bool, true, false, cond, List, [], ◌∷◌, ◌++◌, refl, sym, ap, ◌∙◌, subst, ◌⊎◌, inl, inr}
use Rattle.std.specs.Prelude.{Some, fold}
use Rattle.std.specs.List.{list_any}
use Rattle.zone_proto.specs.Names.{lower}
use Rattle.zone_proto.specs.Sets.{RRset}
use Rattle.zone_proto.proofs.Members.{In, In-from_any, In-from_append, In-append_left, In-append_right}
use Rattle.zone_map.specs.Zones.{Sets, set_at}
use Rattle.zone_lookup.specs.Runs.{with_new}
use Rattle.zone_response.specs.Denials.{same_owner}
use Rattle.response_laws.proofs.Leads.{same_in_lower}

-- each set is that of its owner and a type
abbrev pub AreOwners : ℕ → Sets → List RRset → Type 0
AreOwners t m sets = (s : RRset) → In s sets → set_at m (lower s.owner) t ≡ Some s

-- sets and others, each once
abbrev pub all_of : List RRset → List RRset → List RRset
all_of sets more = fold (with_new same_owner) sets more

module _ (t : ℕ) (m : Sets) where
  -- sets of one owner are one
  same_set : (s r : RRset) → set_at m (lower s.owner) t ≡ Some s → set_at m (lower r.owner) t ≡ Some r → same_owner r s ≡ true → r ≡ s
  same_set s r e f h =
      let same : lower r.owner ≡ lower s.owner = same_in_lower r.owner s.owner h in
      same_value r s (sym f ∙ ap (λ n. set_at m n t) same ∙ e)
    where
      same_value : (a b : RRset) → Some a ≡ Some b → a ≡ b
      same_value a b e = cc

  -- ---- one set more

  all_with : (sets : List RRset) (s : RRset) → AreOwners t m sets → set_at m (lower s.owner) t ≡ Some s → AreOwners t m (with_new same_owner sets s)
  all_with sets s h e = new (list_any (λ y. same_owner y s) sets)
    where
      new : (b : Bool) → AreOwners t m (cond b sets (sets ++ s ∷ []))
      new true r i = h r i
      new false r i = either (In-from_append r sets (s ∷ []) i)
        where
          either : In r sets ⊎ In r (s ∷ []) → set_at m (lower r.owner) t ≡ Some r
          either (inl q) = h r q
          either (inr (inl q)) = subst (λ v. set_at m (lower v.owner) t ≡ Some v) q e
          either (inr (inr q)) = absurd q

  kept_with : (sets : List RRset) (r s : RRset) → In s sets → In s (with_new same_owner sets r)
  kept_with sets r s i = new (list_any (λ y. same_owner y r) sets)
    where
      new : (b : Bool) → In s (cond b sets (sets ++ r ∷ []))
      new true = i
      new false = In-append_left s sets (r ∷ []) i

  added_with : (sets : List RRset) (s : RRset) → AreOwners t m sets → set_at m (lower s.owner) t ≡ Some s → In s (with_new same_owner sets s)
  added_with sets s h e = new (list_any (λ y. same_owner y s) sets) refl
    where
      new : (b : Bool) → list_any (λ y. same_owner y s) sets ≡ b → In s (cond b sets (sets ++ s ∷ []))
      new true f =
          let r = In-from_any (λ y. same_owner y s) sets f in
          subst (λ v. In v sets) (same_set s r.0 e (h r.0 r.1) r.2) r.1
      new false f = In-append_right s sets (s ∷ []) (inl refl)

  -- ---- several more

  pub owners_of_all : (sets more : List RRset) → AreOwners t m sets → AreOwners t m more → AreOwners t m (all_of sets more)
  owners_of_all sets [] h k = h
  owners_of_all sets (s ∷ more) h k = owners_of_all (with_new same_owner sets s) more (all_with sets s h (k s (inl refl))) (λ r i. k r (inr i))

  pub kept_in_all : (sets more : List RRset) (s : RRset) → In s sets → In s (all_of sets more)
  kept_in_all sets [] s i = i
  kept_in_all sets (r ∷ more) s i = kept_in_all (with_new same_owner sets r) more s (kept_with sets r s i)

  pub more_in_all : (sets more : List RRset) (s : RRset) → AreOwners t m sets → AreOwners t m more → In s more → In s (all_of sets more)
  more_in_all sets [] s h k i = absurd i
  more_in_all sets (r ∷ more) s h k (inl e) =
      kept_in_all (with_new same_owner sets r) more s (subst (λ v. In v (with_new same_owner sets r)) e (added_with sets r h (k r (inl refl))))
  more_in_all sets (r ∷ more) s h k (inr i) = more_in_all (with_new same_owner sets r) more s (all_with sets r h (k r (inl refl))) (λ v j. k v (inr j)) i
