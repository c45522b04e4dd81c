-- How many owners a search for the closest NSEC set reads: no more than are at or before the name, and on a circle one
use Rattle.std.proofs.Common.{◌≡◌, ◌≤◌, Bool, true, List, length, refl, sym, subst, arith}
use Rattle.std.specs.Prelude.{Option, Some, None, filter}
use Rattle.std.specs.Option.{option_map_or}
use Rattle.std.proofs.lemmas.List.Sums.{length-filter, count_by-le-length}
use Rattle.zone_proto.specs.Names.{Name, name_cmp}
use Rattle.zone_proto.specs.Order.{is_upto, greatest}
use Rattle.zone_proto.specs.Types.{NSEC}
use Rattle.zone_proto.proofs.Members.{and_right}
use Rattle.zone_proto.proofs.Ordering.Orders.{greatest_is, greatest_there}
use Rattle.zone_proto.proofs.Names.Tree.{name_order}
use Rattle.zone_map.specs.DenialOwners.{denial_owners_upto}
use Rattle.zone_denial.specs.NsecDenial.{says_past, closest_owner}
use Rattle.zone_denial.specs.OwnersRead.{ReadsNoneAfter, CircleReadsOne}
use Rattle.zone_denial.proofs.Chain.ClosestSets.{read_among, upto_ascends}
use Rattle.zone_denial.proofs.Chain.NsecClosest.{reaches_from, last_is_closest}
use Rattle.zone_denial.proofs.ReadBack.{from_greatest, top_read}

fewer : {A : Type 0} (p : A → Bool) (xs : List A) → length (filter p xs) ≤ length xs
fewer p xs = subst (λ n. n ≤ length xs) (sym (length-filter p xs)) (count_by-le-length p xs)

pub none_after : ReadsNoneAfter
none_after m x = fewer (λ o. option_map_or (λ closest. is_upto name_cmp closest o) (closest_owner m x) true) (denial_owners_upto m NSEC x)

pub circle_reads_one : CircleReadsOne
circle_reads_one origin m zone circle x = subst (λ (os : List Name). length os ≤ 1) (sym (read_among m x)) (by (greatest name_cmp upto) refl)
  where
    upto : List Name
    upto = denial_owners_upto m NSEC x

    by : (g : Option Name) → greatest name_cmp upto ≡ g → length (from_greatest name_order (says_past m x) upto) ≤ 1
    by None e = subst (λ (os : List Name). length (from_greatest name_order (says_past m x) os) ≤ 1) (sym ((greatest_there name_cmp upto).0 e)) (omega arith)
    by (Some g) e =
        let top = greatest_is name_order upto g e in
        let closest = last_is_closest origin m circle x g top in
        top_read name_order (says_past m x) upto g (upto_ascends m x zone) top (and_right (is_upto name_cmp g x) (says_past m x g) (reaches_from origin m circle x g closest))
