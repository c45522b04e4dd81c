-- Below a zone cut that is in a chain of NSEC sets, the records of the chain prove nothing
use Rattle.std.proofs.Common.{◌≡◌, Bool, true, false, not, List, ◌&&◌, ◌||◌, refl, sym, ap, ◌∙◌, true≢false, ◌⊎◌, inl, inr, Less}
use Rattle.zone_proto.specs.Names.{Name, name_cmp, name_eq, is_above, is_at_or_above, IsAtOrAbove, IsAbove}
use Rattle.zone_proto.specs.Order.{is_upto}
use Rattle.zone_proto.specs.Types.{NS, SOA, NSEC, DNAME}
use Rattle.zone_proto.proofs.Members.{none_passes, and_right}
use Rattle.zone_proto.proofs.Names.NameTree.{name_eq-Decides, above_test, above_is_less, is_at_or_above_complete}
use Rattle.zone_proto.proofs.Names.Tree.{name_order, above_cases, together}
use Rattle.zone_proto.proofs.Ordering.Orders.{asym, before_from_upto, upto_before}
use Rattle.zone_map.specs.Zones.{Sets, owns, owners}
use Rattle.zone_map.proofs.Owned.{owner_in}
use Rattle.zone_denial.specs.Authority.{is_below_cut, owns_besides}
use Rattle.zone_denial.specs.Chains.{is_below_dname, next_owner, IsNsecChain}
use Rattle.zone_denial.proofs.Chain.NsecBelow.{above_at}
use Rattle.zone_denial.proofs.Chains.NsecLists.{lists_all_owned}
use Rattle.denial_validation.specs.NsecProofs.{lists, is_of_zone, may_apply_to, covers}
use Rattle.denial_validation.specs.NsecRecords.{NsecRecord}
use Rattle.denial_laws.specs.Chains.{ChainNothingBelowCut}
use Rattle.denial_laws.specs.Scope.{AreOfZone}
use Rattle.denial_laws.specs.Soundness.{IsTopmostCut, NothingProved}
use Rattle.denial_laws.proofs.Chains.Gaps.{IsBetween, gap}
use Rattle.denial_laws.proofs.Chains.NameErrors.{covers_between}
use Rattle.denial_laws.proofs.Chains.Readings.{record_at, of_owner, told_listed, told_unlisted}
use Rattle.denial_laws.proofs.Silence.{left_false, silent}

-- below the topmost zone cut above a name nothing is proved, if the cut is in the chain
pub nothing_below_owner : (origin : Name) (m : Sets) (rs : List NsecRecord) (x c : Name) → IsNsecChain origin m → AreOfZone m rs → IsTopmostCut origin m x c → owns m c NSEC ≡ true → NothingProved origin rs x
nothing_below_owner origin m rs x c h zone cut on =
    silent origin rs x (λ r i. untold r (of_owner origin m h rs zone r i)) (λ r i. unnamed r (of_owner origin m h rs zone r i)) (λ r i. unbelow r (of_owner origin m h rs zone r i))
  where
    Owned : NsecRecord → Type 0
    Owned r = (o : Name) × (owns m o NSEC ≡ true) × (r ≡ record_at origin m h o)

    -- no owner is below the cut
    none_below : (o : Name) → owns m o NSEC ≡ true → IsAbove c o → ⊥
    none_below o k w =
        none_passes (λ a. is_above origin a && is_above a o) c (owners m NS) uncut (owner_in m c NS cut.delegated) (λ i. (above_test origin c).1 cut.below i && (above_test c o).1 w i)
      where
        whole : is_at_or_above origin o && (owns_besides m NSEC o && not (is_below_cut origin m o)) ≡ true
        whole = h.authoritative o k

        uncut : is_below_cut origin m o ≡ false
        uncut = by (is_below_cut origin m o) refl
          where
            by : (b : Bool) → is_below_cut origin m o ≡ b → b ≡ false
            by false e = refl
            by true e =
                absurd
                (true≢false
                (sym (and_right (owns_besides m NSEC o) (not (is_below_cut origin m o)) (and_right (is_at_or_above origin o) (owns_besides m NSEC o && not (is_below_cut origin m o)) whole)) ∙ ap not e))

    -- what covers the name is the record of the cut, which tells nothing of it
    untold : (r : NsecRecord) → Owned r → may_apply_to r x && covers origin r x ≡ false
    untold r (o, k, q) = ap (λ v. may_apply_to v x && covers origin v x) q ∙ by (covers origin v x) refl
      where
        v : NsecRecord
        v = record_at origin m h o

        of_cut : c ≡ o → may_apply_to v x ≡ false
        of_cut e =
            λ i. not ((ap (λ n. is_above n x) (sym e) ∙ (above_test c x).1 cut.above) i
            && ((told_listed origin m h o NS refl k (ap (λ n. owns m n NS) (sym e) ∙ cut.delegated) i
            && not (told_unlisted origin m h o SOA refl k (ap (λ n. owns m n SOA) (sym e) ∙ cut.no_apex) i))
            || lists v DNAME))

        is_cut : IsBetween origin m x o → c ≡ o
        is_cut b = near (gap origin m h x o b c on)
          where
            at : IsAtOrAbove c o → c ≡ o
            at u = cases (above_cases c o u)
              where
                cases : (c ≡ o) ⊎ IsAbove c o → c ≡ o
                cases (inl e) = e
                cases (inr w) = absurd (none_below o k w)

            near : (is_upto name_cmp c o ≡ true) ⊎ ((name_cmp x (next_owner origin m o) ≡ Less) × (is_upto name_cmp (next_owner origin m o) c ≡ true)) → c ≡ o
            near (inl l) = at (together c o x l (upto_before name_order o x b.after_owner) (above_at c x cut.above))
            near (inr (l, u)) = absurd (asym name_order x (next_owner origin m o) l (before_from_upto name_order (next_owner origin m o) c x u (above_is_less c x cut.above)))

        none : (b : Bool) → (b && false) ≡ false
        none true = refl
        none false = refl

        by : (b : Bool) → covers origin v x ≡ b → may_apply_to v x && covers origin v x ≡ false
        by false e = ap (λ b. may_apply_to v x && b) e ∙ none (may_apply_to v x)
        by true e = left_false (may_apply_to v x) (covers origin v x) (of_cut (is_cut (covers_between origin m h x o k e)))

    -- no record is the name's
    other : (o : Name) → owns m o NSEC ≡ true → name_eq o x ≡ false
    other o k = by (name_eq o x) refl
      where
        by : (b : Bool) → name_eq o x ≡ b → b ≡ false
        by false e = refl
        by true e = absurd (none_below x (ap (λ n. owns m n NSEC) (sym ((name_eq-Decides o x).0 e)) ∙ k) cut.above)

    right_false : (a b : Bool) → b ≡ false → a && b ≡ false
    right_false true b e = e
    right_false false b e = refl

    unnamed : (r : NsecRecord) → Owned r → is_of_zone origin r && name_eq r.owner x ≡ false
    unnamed r (o, k, q) = right_false (is_of_zone origin r) (name_eq r.owner x) (ap (λ v. name_eq v.owner x) q ∙ other o k)

    unbelow : (r : NsecRecord) → Owned r → is_above origin r.owner && name_eq r.owner x ≡ false
    unbelow r (o, k, q) = right_false (is_above origin r.owner) (name_eq r.owner x) (ap (λ v. name_eq v.owner x) q ∙ other o k)

-- as it is where no DNAME is above it
pub nothing_below_cut : ChainNothingBelowCut
nothing_below_cut origin m rs x c h zone cut plain = nothing_below_owner origin m rs x c h zone cut (by (owns m c NSEC) refl)
  where
    by : (b : Bool) → owns m c NSEC ≡ b → b ≡ true
    by true e = refl
    by false e = of ((lists_all_owned origin m h c NS cut.delegated).off e (is_at_or_above_complete origin c (above_at origin c cut.below)))
      where
        of : (is_below_cut origin m c ≡ true) ⊎ (is_below_dname m c ≡ true) → false ≡ true
        of (inl k) = absurd (true≢false (sym k ∙ cut.topmost))
        of (inr k) = absurd (true≢false (sym k ∙ plain))
