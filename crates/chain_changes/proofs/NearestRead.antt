-- The owners of NSEC before a name are read back, up to the nearest that is to have one
use Rattle.std.proofs.Common.{◌≡◌, true, false, List, [], ◌∷◌, ◌++◌, sym, ap, ◌∙◌, subst, inl, inr}
use Rattle.std.specs.Prelude.{Some, None, filter}
use Rattle.std.proofs.lemmas.List.{append-nil, append_assoc}
use Rattle.zone_proto.specs.Names.{Name, name_cmp}
use Rattle.zone_proto.specs.Order.{is_before, greatest}
use Rattle.zone_proto.specs.Types.{NSEC}
use Rattle.zone_proto.proofs.Names.Tree.{name_order}
use Rattle.zone_map.specs.DenialOwners.{denial_owners_before}
use Rattle.zone_map.specs.Zones.{Sets, owners, IsZone}
use Rattle.zone_map.proofs.Lists.{owners_ascend}
use Rattle.zone_denial.specs.Authority.{is_authoritative}
use Rattle.zone_denial.proofs.Ascending.{Ascends, Ascends-filter, Ascends-from_sorted}
use Rattle.zone_denial.proofs.ReadBack.{NonePass, none_greatest, found_greatest}
use Rattle.chain_changes.specs.Renewal.{nearest_before}

module _ (origin : Name) (m : Sets) (n : Name) where
  -- some owners are left, and of the others none is to have an NSEC set
  pub record AreRead (left : List Name) : Type 0 where
    pub zone : IsZone m
    pub read : List Name
    pub split : denial_owners_before m NSEC n ≡ left ++ read
    pub none : NonePass name_order (is_authoritative origin m NSEC) read

  pub none_read : (left : List Name) → IsZone m → left ≡ denial_owners_before m NSEC n → AreRead left
  none_read left zone e = record { zone = zone; read = []; split = sym e ∙ sym (append-nil left); none = λ y i. absurd i }

  module _ (left : List Name) (r : AreRead left) where
    -- where none is left, there is no nearest one
    pub none_nearest : left ≡ [] → None ≡ nearest_before origin m n
    none_nearest empty =
        let all : denial_owners_before m NSEC n ≡ r.read = r.split ∙ ap (λ os. os ++ r.read) empty in
        sym (none_greatest name_order (is_authoritative origin m NSEC) (denial_owners_before m NSEC n) (subst (NonePass name_order (is_authoritative origin m NSEC)) (sym all) r.none))

    module _ (front : List Name) (o : Name) (last : left ≡ front ++ o ∷ []) where
      parts : denial_owners_before m NSEC n ≡ front ++ o ∷ r.read
      parts = r.split ∙ ap (λ os. os ++ r.read) last ∙ append_assoc front (o ∷ []) r.read

      ascends : Ascends name_cmp (front ++ o ∷ r.read)
      ascends = subst (Ascends name_cmp) parts (Ascends-filter name_cmp (λ a. is_before name_cmp a n) (owners m NSEC) (Ascends-from_sorted name_cmp (owners m NSEC) (owners_ascend m NSEC r.zone.ordered)))

      -- the last of those that are left is the nearest, if it is to have one
      pub last_nearest : is_authoritative origin m NSEC o ≡ true → Some o ≡ nearest_before origin m n
      last_nearest on =
          sym (ap (λ os. greatest name_cmp (filter (is_authoritative origin m NSEC) os)) parts ∙ found_greatest name_order (is_authoritative origin m NSEC) front r.read o ascends r.none on)

      -- and else it is read
      pub one_read : is_authoritative origin m NSEC o ≡ false → AreRead front
      one_read off = record { zone = r.zone; read = o ∷ r.read; split = parts; none = none }
        where
          none : NonePass name_order (is_authoritative origin m NSEC) (o ∷ r.read)
          none y (inl e) = ap (is_authoritative origin m NSEC) (sym e) ∙ off
          none y (inr i) = r.none y i
