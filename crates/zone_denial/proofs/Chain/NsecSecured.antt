-- A zone that gets its NSEC sets has a circle of them
use Rattle.std.proofs.Common.{◌≡◌, ℕ, Bool, true, false, cond, List, [], ◌∷◌, length, map, refl, sym, ap, ◌∙◌, inl, inr, eqb-true}
use Rattle.std.specs.Prelude.{Option, Some, None, filter, is_some, unwrap_or, option_map, ◌==◌}
use Rattle.zone_proto.specs.declared.record_type.RecordType.{RecordType}
use Rattle.zone_proto.specs.Names.{Name, name_cmp, lower}
use Rattle.zone_proto.specs.Order.{is_before, least}
use Rattle.zone_proto.specs.Sets.{RRset}
use Rattle.zone_proto.specs.Types.{NSEC, RRSIG}
use Rattle.zone_proto.proofs.Members.{In, In-filter, In-from_filter}
use Rattle.zone_proto.proofs.Ordering.Orders.{greatest_same, greatest_is, number_order}
use Rattle.zone_proto.proofs.Names.Tree.{name_order}
use Rattle.zone_map.specs.Zones.{IsZone, Sets, set_at, owns, types_at, names_of}
use Rattle.zone_map.proofs.Lists.{owner_lowered}
use Rattle.zone_map.proofs.Owned.{name_owned, type_in, type_owned}
use Rattle.zone_denial.specs.Authority.{is_authoritative, authoritative_names}
use Rattle.zone_denial.specs.NsecCircle.{IsNsecCircle, first_nsec, nsec_next}
use Rattle.zone_denial.specs.NsecLaws.{SecuredIsCircle}
use Rattle.zone_denial.specs.NsecSets.{HasNsecSets, nsec_set, nsec_set_at}
use Rattle.zone_denial.specs.TypeLists.{nsec_types}
use Rattle.zone_denial.proofs.Names.AuthoritativeNames.{OwnSameBesides, same_authority, authoritative_listed}
use Rattle.zone_denial.proofs.InOrder.{flipped, in_order_same}

-- ---- the next names and the lists are the same before and after

module _ (origin : Name) (m after : Sets) (same : OwnSameBesides NSEC m after) where
  pub same_next : (n : Name) → nsec_next origin after n ≡ nsec_next origin m n
  same_next n = ap (λ p. unwrap_or p origin) (greatest_same (flipped name_order) (later after) (later m) (moved after m (λ a k. sym (same_authority NSEC refl origin m after same a) ∙ k)) (moved m after (λ a k. same_authority NSEC refl origin m after same a ∙ k)))
    where
      later : Sets → List Name
      later k = filter (is_before name_cmp n) (authoritative_names origin k NSEC)

      moved : (a b : Sets) → ((x : Name) → is_authoritative origin a NSEC x ≡ true → is_authoritative origin b NSEC x ≡ true) → (x : Name) → In x (later a) → In x (later b)
      moved a b f x i =
          let r = In-from_filter (is_before name_cmp n) x (authoritative_names origin a NSEC) i in
          let s = In-from_filter (is_authoritative origin a NSEC) x (names_of a) r.0 in
          In-filter (is_before name_cmp n) x (authoritative_names origin b NSEC) (authoritative_listed origin b NSEC x (f x s.1)) r.1

  pub same_types : (n : Name) → nsec_types after n ≡ nsec_types m n
  same_types n = in_order_same number_order (NSEC ∷ RRSIG ∷ types_at after n) (NSEC ∷ RRSIG ∷ types_at m n) (moved after m same) (moved m after (λ n t e. sym (same n t e)))
    where
      moved : (a b : Sets) → OwnSameBesides NSEC b a → (t : ℕ) → In t (NSEC ∷ RRSIG ∷ types_at a n) → In t (NSEC ∷ RRSIG ∷ types_at b n)
      moved a b f t (inl e) = inl e
      moved a b f t (inr (inl e)) = inr (inl e)
      moved a b f t (inr (inr i)) = by (t == NSEC) refl
        where
          by : (d : Bool) → (t == NSEC) ≡ d → In t (NSEC ∷ RRSIG ∷ types_at b n)
          by true e = inl (sym (eqb-true t NSEC e))
          by false e = inr (inr (type_in b n t (sym (f n t e) ∙ type_owned a n t i)))

-- ---- the sets that it gets are those of the circle

-- the next name is in lower case
low_next : (origin : Name) (m : Sets) → IsZone m → lower origin ≡ origin → (n : Name) → lower (nsec_next origin m n) ≡ nsec_next origin m n
low_next origin m zone low n = by (least name_cmp later) refl
  where
    later : List Name
    later = filter (is_before name_cmp n) (authoritative_names origin m NSEC)

    by : (p : Option Name) → least name_cmp later ≡ p → lower (unwrap_or p origin) ≡ unwrap_or p origin
    by None e = low
    by (Some a) e =
        let i = In-from_filter (is_before name_cmp n) a (authoritative_names origin m NSEC) (greatest_is (flipped name_order) later a e).among in
        let r = name_owned m a (In-from_filter (is_authoritative origin m NSEC) a (names_of m) i.0).0 in
        owner_lowered m a r.0 zone r.1

pub numbers_back : (ts : List ℕ) → map (λ (t : RecordType). t.0) (map (λ t. record { 0 = t }) ts) ≡ ts
numbers_back [] = refl
numbers_back (t ∷ ts) = ap (λ us. t ∷ us) (numbers_back ts)

some_mapped : {X Y : Type 0} (f : X → Y) (p : Option X) → is_some (option_map f p) ≡ is_some p
some_mapped f None = refl
some_mapped f (Some x) = refl

module _ (origin : Name) (m : Sets) (ttl serial : ℕ) (after : Sets) (zone : IsZone m) (low : lower origin ≡ origin) (h : HasNsecSets origin m ttl serial after) where
  owned : (n : Name) → owns after n NSEC ≡ is_authoritative origin m NSEC n
  owned n =
      sym (some_mapped (λ (s : RRset). s.records) (set_at after n NSEC))
      ∙ ap is_some (h.denials n)
      ∙ some_mapped (λ (s : RRset). s.records) (nsec_set_at origin m ttl serial n NSEC)
      ∙ by (is_authoritative origin m NSEC n)
    where
      by : (b : Bool) → is_some (cond b (Some (nsec_set origin m ttl serial n)) None) ≡ b
      by true = refl
      by false = refl

  same_records : (n : Name) (s : RRset) → set_at after n NSEC ≡ Some s → s.records ≡ (nsec_set origin m ttl serial n).records
  same_records n s e = by (is_authoritative origin m NSEC n) (sym (ap (option_map (λ (s : RRset). s.records)) e) ∙ h.denials n)
    where
      by : (b : Bool) → Some s.records ≡ option_map (λ (s : RRset). s.records) (cond b (Some (nsec_set origin m ttl serial n)) None) → s.records ≡ (nsec_set origin m ttl serial n).records
      by true q = cc
      by false q = absurd cc

  secured_circle : IsNsecCircle origin after
  secured_circle = record {
    one_for_each = λ n. owned n ∙ sym (same_authority NSEC refl origin m after h.others n);
    each = λ n s e. record {
      single = ap length (same_records n s e);
      next = ap (λ rs. option_map (λ a. lower a.next_domain_name) (first_nsec rs)) (same_records n s e) ∙ ap Some (low_next origin m zone low n ∙ sym (same_next origin m after h.others n));
      list = ap (λ rs. option_map (λ a. map (λ t. t.0) a.types) (first_nsec rs)) (same_records n s e) ∙ ap Some (numbers_back (nsec_types m n) ∙ sym (same_types origin m after h.others n));
    };
  }

pub secured_is_circle : SecuredIsCircle
secured_is_circle origin m after ttl serial zone low h = secured_circle origin m ttl serial after zone low h
