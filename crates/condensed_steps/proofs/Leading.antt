-- The step that condenses steps leads from a zone that is like the first version to one that is like the last
use Rattle.std.proofs.Common.{◌≡◌, Bool, true, false, List, [], ◌∷◌, refl, sym, ap, ◌∙◌, inl, inr}
use Rattle.std.specs.Prelude.{Option, Some, None}
use Rattle.std.specs.List.{AllByRecursion}
use Rattle.std.specs.Map.{lookup}
use Rattle.zone_proto.specs.declared.rr_key.RrKey.{RrKey}
use Rattle.zone_proto.specs.Keys.{key, key_eq}
use Rattle.zone_proto.specs.Names.{Name}
use Rattle.zone_proto.specs.Sets.{RRset}
use Rattle.zone_proto.specs.Types.{SOA}
use Rattle.zone_map.specs.Zones.{Sets, IsZone}
use Rattle.zone_map.proofs.Stored.{IsZone-none}
use Rattle.zone_difference.specs.Laws.{last_of}
use Rattle.shown_zones.specs.StepLaws.{AreSteps}
use Rattle.shown_zones.specs.Steps.{Step, IsStep}
use Rattle.shown_zones.proofs.Starting.{shown_zones_are_zones}
use Rattle.condensed_steps.specs.Condensing.{back, before_all, behind, behind_all, IsCondensed}
use Rattle.condensed_steps.specs.CondenseLaws.{AreOf, CondensedStepsLead, IsLike}
use Rattle.condensed_steps.proofs.Changed.{changed_alike, changed_at, changed_itself}
use Rattle.condensed_steps.proofs.Stepping.{like_behind, own_given, step_back}
use Rattle.condensed_steps.proofs.Touched.{back_decided, back_left, found_before_all, found_behind_all, have_key, on_decided, on_left, turned_back, turned_on, zone_before_all, zone_behind_all, AreOwnIn}

-- ---- a version has the sets of one of them

of_more : (v : Sets) (vs ws : List Sets) → AllByRecursion (AreOf vs) ws → AllByRecursion (AreOf (v ∷ vs)) ws
of_more v vs [] h = tt
of_more v vs (w ∷ ws) h = ((λ k s e. inr (h.0 k s e)), of_more v vs ws h.1)

of_all : (vs : List Sets) → AllByRecursion (AreOf vs) vs
of_all [] = tt
of_all (v ∷ vs) = ((λ k s e. inl e), of_more v vs vs (of_all vs))

-- ---- over steps

module _ (origin : Name) where
  own_in : (ss : List Step) (v : Sets) (bs : List Sets) → AreSteps origin ss v bs → IsZone v → AllByRecursion IsZone bs → AreOwnIn ss
  own_in [] v bs steps zv zs = tt
  own_in (s ∷ ss) v [] steps zv zs = absurd steps
  own_in (s ∷ ss) v (b ∷ bs) steps zv zs =
      ((own_given origin v b s steps.0 zv zs.0, own_given origin b v (back s) (step_back origin v b s steps.0) zs.0 zv), own_in ss b bs steps.1 zs.0 zs.1)

  module _ (vs : List Sets) where
    like_on : (ss : List Step) (v m : Sets) (bs : List Sets) → AreSteps origin ss v bs → IsZone v → AllByRecursion IsZone bs → AllByRecursion (AreOf vs) bs
        → IsLike origin vs v m → IsLike origin vs (last_of v bs) (behind_all m ss)
    like_on [] v m [] steps zv zs of_one like = like
    like_on [] v m (b ∷ bs) steps zv zs of_one like = absurd steps
    like_on (s ∷ ss) v m [] steps zv zs of_one like = absurd steps
    like_on (s ∷ ss) v m (b ∷ bs) steps zv zs of_one like =
        like_on ss b (behind m s) bs steps.1 zs.0 zs.1 of_one.1 (like_behind origin v b s steps.0 zv zs.0 vs m of_one.0 like)

    like_back : (ss : List Step) (v m : Sets) (bs : List Sets) → AreSteps origin ss v bs → IsZone v → AllByRecursion IsZone bs → AreOf vs v → AllByRecursion (AreOf vs) bs
        → IsLike origin vs (last_of v bs) m → IsLike origin vs v (before_all m ss)
    like_back [] v m [] steps zv zs first of_one like = like
    like_back [] v m (b ∷ bs) steps zv zs first of_one like = absurd steps
    like_back (s ∷ ss) v m [] steps zv zs first of_one like = absurd steps
    like_back (s ∷ ss) v m (b ∷ bs) steps zv zs first of_one like =
        like_behind origin b v (back s) (step_back origin v b s steps.0) zs.0 zv vs (before_all m ss) first (like_back ss b m bs steps.1 zs.0 zs.1 of_one.0 of_one.1 like)

-- ---- beside what steps have alone

module _ (origin : Name) (ss : List Step) (a : Sets) (za : IsZone a) (own : AreOwnIn ss) where
  abbrev soa : RrKey
  soa = key origin SOA

  -- the last version and the first, and what steps have of them
  abbrev n : Sets
  n = behind_all a ss

  abbrev m : Sets
  m = before_all n ss

  abbrev l : Sets
  l = behind_all [] ss

  abbrev f : Sets
  f = before_all [] ss

  zn : IsZone n
  zn = zone_behind_all a ss za own

  zm : IsZone m
  zm = zone_before_all n ss zn own

  zl : IsZone l
  zl = zone_behind_all [] ss IsZone-none own

  zf : IsZone f
  zf = zone_before_all [] ss IsZone-none own

  -- under the keys that steps have they agree
  last_agrees : (q : RrKey) → have_key q ss ≡ true → lookup (key_eq q) l ≡ lookup (key_eq q) n
  last_agrees q h = found_behind_all [] ss q IsZone-none own ∙ on_decided q ss None (lookup (key_eq q) a) h ∙ sym (found_behind_all a ss q za own)

  first_agrees : (q : RrKey) → have_key q ss ≡ true → lookup (key_eq q) f ≡ lookup (key_eq q) m
  first_agrees q h = found_before_all [] ss q IsZone-none own ∙ back_decided q ss None (lookup (key_eq q) n) h ∙ sym (found_before_all n ss q zn own)

  -- under the others steps have none, and the versions the same
  no_last : (q : RrKey) → have_key q ss ≡ false → lookup (key_eq q) l ≡ None
  no_last q h = found_behind_all [] ss q IsZone-none own ∙ on_left q ss None h

  no_first : (q : RrKey) → have_key q ss ≡ false → lookup (key_eq q) f ≡ None
  no_first q h = found_before_all [] ss q IsZone-none own ∙ back_left q ss None h

  unchanged : (q : RrKey) → have_key q ss ≡ false → lookup (key_eq q) m ≡ lookup (key_eq q) n
  unchanged q h = found_before_all n ss q zn own ∙ back_left q ss (lookup (key_eq q) n) h

  deleted_agree : (q : RrKey) (b : Bool) → have_key q ss ≡ b
      → changed_at soa q (lookup (key_eq q) f) (lookup (key_eq q) l) ≡ changed_at soa q (lookup (key_eq q) m) (lookup (key_eq q) n)
  deleted_agree q true h = (λ i. changed_at soa q (first_agrees q h i) (last_agrees q h i))
  deleted_agree q false h =
      (λ i. changed_at soa q (no_first q h i) (no_last q h i))
      ∙ sym (changed_itself soa q (lookup (key_eq q) n))
      ∙ ap (λ (o : Option RRset). changed_at soa q o (lookup (key_eq q) n)) (sym (unchanged q h))

  added_agree : (q : RrKey) (b : Bool) → have_key q ss ≡ b
      → changed_at soa q (lookup (key_eq q) l) (lookup (key_eq q) f) ≡ changed_at soa q (lookup (key_eq q) n) (lookup (key_eq q) m)
  added_agree q true h = (λ i. changed_at soa q (last_agrees q h i) (first_agrees q h i))
  added_agree q false h =
      (λ i. changed_at soa q (no_last q h i) (no_first q h i))
      ∙ sym (changed_itself soa q (lookup (key_eq q) n))
      ∙ ap (changed_at soa q (lookup (key_eq q) n)) (sym (unchanged q h))

  -- where what steps have has an SOA, they have its key
  has_soa : (o : RRset) (b : Bool) → have_key soa ss ≡ b → lookup (key_eq soa) f ≡ Some o → have_key soa ss ≡ true
  has_soa o true h e = h
  has_soa o false h e = let no : None ≡ Some o = sym (no_first soa h) ∙ e in absurd cc

  pub step_between_versions : (s : Step) → IsCondensed origin ss s → IsStep origin m n s
  step_between_versions s step =
      let has : have_key soa ss ≡ true = has_soa s.old_soa (have_key soa ss) refl step.old_soa in
      record {
        old_soa = sym (first_agrees soa has) ∙ step.old_soa;
        deleted = step.deleted ∙ changed_alike soa f l m n zf.ordered zm.ordered (λ q. deleted_agree q (have_key q ss) refl);
        new_soa = sym (last_agrees soa has) ∙ step.new_soa;
        added = step.added ∙ changed_alike soa l f n m zl.ordered zn.ordered (λ q. added_agree q (have_key q ss) refl);
      }

pub condensed_steps_lead : CondensedStepsLead
condensed_steps_lead origin ss a bs s steps za zs condensed =
    let vs : List Sets = a ∷ bs in
    let each : AllByRecursion (AreOf vs) vs = of_all vs in
    let start : IsLike origin vs a a = record { zone = za; alike = (shown_zones_are_zones a za).1; soa = refl; sets = each.0 } in
    let last : IsLike origin vs (last_of a bs) (behind_all a ss) = like_on origin vs ss a a bs steps za zs each.1 start in
    let first : IsLike origin vs a (before_all (behind_all a ss) ss) = like_back origin vs ss a (behind_all a ss) bs steps za zs each.0 each.1 last in
    (before_all (behind_all a ss) ss, behind_all a ss, first, last, step_between_versions origin ss a za (own_in origin ss a bs steps za zs) s condensed)
