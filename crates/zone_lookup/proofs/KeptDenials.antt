-- The denials of a zone that are kept are those that it gets
use Rattle.std.proofs.Common.{◌≡◌, ℕ, ◌==◌, ◌&&◌, Bool, true, false, cond, List, refl, sym, ap, ◌∙◌, subst, eqb-true}
use Rattle.std.specs.Prelude.{Option, Some, None, if◌then◌else◌, not, option_map}
use Rattle.std.specs.Option.{option_or, IfNone}
use Rattle.zone_proto.specs.declared.rdata.denial.NSEC3PARAM.{NSEC3PARAM as Nsec3Parameters}
use Rattle.zone_proto.specs.Names.{Name, name_eq}
use Rattle.zone_proto.specs.Sets.{RRset}
use Rattle.zone_proto.specs.Types.{NSEC3, NSEC3PARAM}
use Rattle.zone_proto.proofs.Members.{and_left, and_right}
use Rattle.zone_proto.proofs.Names.NameTree.{name_eq-Decides}
use Rattle.zone_map.specs.Standing.{renumbered, standing_at}
use Rattle.zone_map.specs.Zones.{Sets, set_at}
use Rattle.zone_denial.specs.Nsec3Sets.{announced_set, nsec3_set_at, nsec3_sets_at}
use Rattle.zone_denial.specs.Nsec3Zones.{hash_with}
use Rattle.zone_signing.specs.Secured.{kept_at}
use Rattle.zone_lookup.specs.Securing.{with_nsec3_sets}
use Rattle.zone_lookup.specs.StartOfAuthority.{serial, minimum}

module _ (digest_of : ℕ → List ℕ → Name → ℕ → Option (List ℕ)) (origin : Name) (m : Sets) (p : Nsec3Parameters) where
  abbrev made_at : Name → ℕ → Option RRset
  made_at = nsec3_sets_at origin m (hash_with digest_of p) p (minimum m origin) (serial m origin)

  abbrev announced : RRset
  announced = announced_set origin m (hash_with digest_of p) p (minimum m origin) (serial m origin)

  module _ (standing : (n : Name) → standing_at m NSEC3 (serial m origin) n NSEC3 ≡ made_at n NSEC3) (parameters : set_at m origin NSEC3PARAM ≡ made_at origin NSEC3PARAM) where
    announced_there : set_at m origin NSEC3PARAM ≡ Some announced
    announced_there = parameters ∙ ap (λ b. cond b (Some announced) None) ((name_eq-Decides origin origin).1 refl)

    -- of the other types there is the origin's NSEC3PARAM set, which has the parameters
    other : (n : Name) (t : ℕ) (b : Bool) → (t == NSEC3PARAM) && name_eq n origin ≡ b → set_at m n t ≡ option_or (cond b (Some announced) None) (set_at m n t)
    other n t false e = refl
    other n t true e =
        let name : n ≡ origin = (name_eq-Decides n origin).0 (and_right (t == NSEC3PARAM) (name_eq n origin) e) in
        let type' : t ≡ NSEC3PARAM = eqb-true t NSEC3PARAM (and_left (t == NSEC3PARAM) (name_eq n origin) e) in
        (λ j. set_at m (name j) (type' j)) ∙ announced_there

    nsec3_kept : (n : Name) (t : ℕ) → kept_at NSEC3 (serial m origin) m n t ≡ with_nsec3_sets digest_of origin m p n t
    nsec3_kept n t = by (t == NSEC3) refl
      where
        is : Bool
        is = (t == NSEC3PARAM) && name_eq n origin

        by : (b : Bool) → (t == NSEC3) ≡ b → kept_at NSEC3 (serial m origin) m n t ≡ with_nsec3_sets digest_of origin m p n t
        by true e = subst (λ u. kept_at NSEC3 (serial m origin) m n u ≡ with_nsec3_sets digest_of origin m p n u) (sym (eqb-true t NSEC3 e)) (ap (λ s. option_or s None) (standing n))
        by false e =
            (λ j. option_or (cond (e j) (option_map (renumbered (serial m origin)) (set_at m n t)) None) (if not (e j) then set_at m n t else None))
            ∙ other n t is refl
            ∙ sym (λ j. option_or (cond (e j) (nsec3_set_at origin m (hash_with digest_of p) p (minimum m origin) (serial m origin) n) (cond is (Some announced) None)) (cond (e j) None (set_at m n t)))

  -- the same of sets that are told of a zone and with numbers which are these
  abbrev Stand : Sets → ℕ × ℕ → Type 0
  Stand zone numbers = (n : Name) → standing_at zone NSEC3 numbers.1 n NSEC3 ≡ nsec3_sets_at origin zone (hash_with digest_of p) p numbers.0 numbers.1 n NSEC3

  abbrev Announces : Sets → ℕ × ℕ → Type 0
  Announces zone numbers = set_at zone origin NSEC3PARAM ≡ nsec3_sets_at origin zone (hash_with digest_of p) p numbers.0 numbers.1 origin NSEC3PARAM

  pub denials_kept : {A : Type 0} (made : Option A) (zone : Sets) (numbers : ℕ × ℕ) → made ≡ None → zone ≡ m → numbers ≡ (minimum m origin, serial m origin) → IfNone made (Stand zone numbers)
      → IfNone made (Announces zone numbers) → (n : Name) (t : ℕ) → kept_at NSEC3 numbers.1 m n t ≡ with_nsec3_sets digest_of origin m p n t
  denials_kept (Some a) zone numbers none same are stand announces n t = absurd cc
  denials_kept None zone numbers none same are stand announces n t =
      let standing = subst (Stand m) are (subst (λ z. Stand z numbers) same stand) in
      let parameters = subst (Announces m) are (subst (λ z. Announces z numbers) same announces) in
      ap (λ (w : ℕ × ℕ). kept_at NSEC3 w.1 m n t) are ∙ nsec3_kept standing parameters n t
