-- The sets of a denial are those of its owners
use Rattle.std.proofs.Common.{◌≡◌, Bool, true, false, cond, [], ◌∷◌, ◌++◌, refl, sym, ap, ◌∙◌, subst, true≢false}
use Rattle.std.specs.Prelude.{Option, Some, None, filter_map, option_and_then, option_to_list, is_some}
use Rattle.std.specs.Cmp.{both_ways}
use Rattle.std.specs.List.{cons_option}
use Rattle.std.specs.Ordering.{is_eq}
use Rattle.zone_proto.specs.Names.{Name, name_eq, name_cmp, lower, same_name}
use Rattle.zone_proto.specs.Sets.{RRset}
use Rattle.zone_proto.specs.Types.{NSEC}
use Rattle.zone_proto.proofs.Ordering.KeyOrder.{equal_of}
use Rattle.zone_proto.proofs.Members.{In-from_filter}
use Rattle.zone_proto.proofs.Names.NameTree.{name_eq-Decides, name_itself}
use Rattle.zone_proto.proofs.Ordering.Orders.{greatest_is}
use Rattle.zone_proto.proofs.Names.Tree.{name_order}
use Rattle.zone_map.specs.Zones.{Sets, set_at, owners, IsZone}
use Rattle.zone_map.proofs.Owned.{owner_owned}
use Rattle.zone_denial.specs.DenialSets.{unless_same}
use Rattle.zone_denial.specs.NsecDenial.{reaches, closest_owner, closest_nsec, both_of, proved_beside, nsec_denial, IsOwnersNsec}

module _ (m : Sets) (zone : IsZone m) where
  -- a set is that of an owner, or neither is there
  abbrev IsSetOf : Option Name → Option RRset → Type 0
  IsSetOf None None = Unit {0}
  IsSetOf (Some n) (Some s) = (set_at m n NSEC ≡ Some s) × (lower s.owner ≡ n)
  IsSetOf None (Some s) = ⊥
  IsSetOf (Some n) None = ⊥

  of_closest : (x : Name) → IsSetOf (closest_owner m x) (closest_nsec m x)
  of_closest x = by (closest_owner m x) refl
    where
      stored : (o : Name) → is_some (set_at m o NSEC) ≡ true → (s : Option RRset) → set_at m o NSEC ≡ s → IsSetOf (Some o) s
      stored o h (Some s) e = (e, (zone.stored o NSEC s e).owner)
      stored o h None e = true≢false (sym h ∙ ap is_some e)

      by : (o : Option Name) → closest_owner m x ≡ o → IsSetOf o (option_and_then (λ o. set_at m o NSEC) o)
      by None e = tt
      by (Some o) e =
          let among = (In-from_filter (reaches m x) o (owners m NSEC) (greatest_is name_order _ o e).among).0 in
          stored o (owner_owned m o NSEC among) (set_at m o NSEC) refl

  of_beside : (p : Option Name) → IsSetOf (option_and_then (closest_owner m) p) (option_and_then (closest_nsec m) p)
  of_beside None = tt
  of_beside (Some p) = of_closest p

pub same_by_order : (a b : Name) → is_eq (name_cmp a b) ≡ name_eq a b
same_by_order a b =
    both_ways (is_eq (name_cmp a b)) (name_eq a b) (λ h. (name_eq-Decides a b).1 (name_order.exact a b (equal_of (name_cmp a b) h)))
    (λ h. ap is_eq (ap (name_cmp a) (sym ((name_eq-Decides a b).0 h)) ∙ name_itself a))

-- sets have the same owner where their names are the same
same_owner : (s r : RRset) (a b : Name) → lower s.owner ≡ a → lower r.owner ≡ b → same_name s.owner r.owner ≡ name_eq a b
same_owner s r a b is own = same_by_order (lower s.owner) (lower r.owner) ∙ ap (λ n. name_eq n (lower r.owner)) is ∙ ap (name_eq a) own

module _ (m : Sets) (zone : IsZone m) where
  one_set : (n : Name) (s : RRset) → set_at m n NSEC ≡ Some s → s ∷ [] ≡ filter_map (λ o. set_at m o NSEC) (n ∷ [])
  one_set n s e = sym (ap (λ o. cons_option o []) e)

  two_sets : (a b : Name) (s r : RRset) → set_at m a NSEC ≡ Some s → set_at m b NSEC ≡ Some r → (same : Bool)
      → option_to_list (cond same None (Some s)) ++ r ∷ [] ≡ filter_map (λ o. set_at m o NSEC) (cond same (b ∷ []) (a ∷ b ∷ []))
  two_sets a b s r e d true = one_set b r d
  two_sets a b s r e d false = ap (λ rs. s ∷ rs) (one_set b r d) ∙ sym (ap (λ o. cons_option o (filter_map (λ o. set_at m o NSEC) (b ∷ []))) e)

  sets_of_both : (a b : Option Name) (beside closest : Option RRset) → IsSetOf m zone a beside → IsSetOf m zone b closest
      → option_to_list (unless_same beside closest) ++ option_to_list closest ≡ filter_map (λ o. set_at m o NSEC) (both_of a b)
  sets_of_both None None None None h k = refl
  sets_of_both None (Some b) None (Some r) h k = one_set b r k.0
  sets_of_both (Some a) None (Some s) None h k = one_set a s h.0
  sets_of_both (Some a) (Some b) (Some s) (Some r) h k =
      ap (λ c. option_to_list (cond c None (Some s)) ++ r ∷ []) (same_owner s r a b h.1 k.1)
      ∙ two_sets a b s r h.0 k.0 (name_eq a b)
  sets_of_both None b (Some s) closest h k = absurd h
  sets_of_both (Some a) b None closest h k = absurd h
  sets_of_both a None beside (Some r) h k = absurd k
  sets_of_both a (Some b) beside None h k = absurd k

  -- a name that owns NSEC is denied by its own set
  pub own_denial : (origin x : Name) (s : RRset) → set_at m x NSEC ≡ Some s → s ∷ [] ≡ nsec_denial origin m x
  own_denial origin x s e =
      one_set x s e
      ∙ sym (ap (λ (o : Option RRset). filter_map (λ o. set_at m o NSEC) (cond (is_some o) (x ∷ []) (both_of (option_and_then (closest_owner m) (proved_beside origin m x)) (closest_owner m x)))) e)

  -- and any other by the closest ones
  pub closest_denial : (origin x : Name) (beside closest : Option RRset) → set_at m x NSEC ≡ None → beside ≡ option_and_then (closest_nsec m) (proved_beside origin m x) → closest ≡ closest_nsec m x
      → option_to_list (unless_same beside closest) ++ option_to_list closest ≡ nsec_denial origin m x
  closest_denial origin x beside closest e is own =
      ap (λ o. option_to_list (unless_same o closest) ++ option_to_list closest) is
      ∙ ap (λ o. option_to_list (unless_same (option_and_then (closest_nsec m) (proved_beside origin m x)) o) ++ option_to_list o) own
      ∙ sets_of_both (option_and_then (closest_owner m) (proved_beside origin m x)) (closest_owner m x) (option_and_then (closest_nsec m) (proved_beside origin m x)) (closest_nsec m x)
      (of_beside m zone (proved_beside origin m x)) (of_closest m zone x)
      ∙ sym (ap (λ (o : Option RRset). filter_map (λ o. set_at m o NSEC) (cond (is_some o) (x ∷ []) (both_of (option_and_then (closest_owner m) (proved_beside origin m x)) (closest_owner m x)))) e)

  -- the closest set is its own owner's
  closest_of_owner : (o : Option Name) (s : Option RRset) → IsSetOf m zone o s → IsOwnersNsec m s
  closest_of_owner o None h = tt
  closest_of_owner None (Some s) h = absurd h
  closest_of_owner (Some n) (Some s) (is, owner) = subst (λ k. set_at m k NSEC ≡ Some s) (sym owner) is

  pub closest_is_owners : (x : Name) (closest : Option RRset) → closest ≡ closest_nsec m x → IsOwnersNsec m closest
  closest_is_owners x closest e = subst (IsOwnersNsec m) (sym e) (closest_of_owner (closest_owner m x) (closest_nsec m x) (of_closest m zone x))
