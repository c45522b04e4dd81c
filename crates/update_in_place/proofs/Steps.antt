-- The step between parts of two versions of a zone is the step between the versions
use Rattle.std.proofs.Common.{◌≡◌, Bool, true, false, not, cond, List, [], ◌∷◌, map, refl, sym, ap, ◌∙◌, subst, inl, inr}
use Rattle.std.specs.Prelude.{◌&&◌, filter, Option, Some, None}
use Rattle.std.specs.List.{AllByRecursion}
use Rattle.std.specs.Map.{lookup}
use Rattle.zone_proto.specs.declared.rr_key.RrKey.{RrKey}
use Rattle.zone_proto.specs.Keys.{key, key_eq}
use Rattle.zone_proto.specs.Names.{Name}
use Rattle.zone_proto.specs.SetEquality.{same_set_equiv}
use Rattle.zone_proto.specs.Sets.{RRset}
use Rattle.zone_proto.specs.Types.{SOA}
use Rattle.zone_map.specs.Zones.{Sets}
use Rattle.zone_difference.specs.Differences.{same_at}
use Rattle.zone_difference.proofs.Found.{each_found, InOrder}
use Rattle.shown_zones.specs.Shown.{shown_if, shown_set}
use Rattle.shown_zones.specs.Steps.{changed, is_changed, IsStepIfAny}
use Rattle.shown_zones.specs.declared.step.ZoneStep.{ZoneStep}
use Rattle.update_in_place.specs.Locality.{StepsAreLocal}
use Rattle.update_in_place.specs.Parts.{is_among, sets_of}
use Rattle.update_in_place.proofs.Kept.{found_kept, kept}

module _ (p : Name → Bool) (soa : RrKey) (a b : Sets) (others : (q : RrKey) → p q.name ≡ false → lookup (key_eq q) b ≡ lookup (key_eq q) a) where
  never : (x : Bool) → (x && false) ≡ false
  never true = refl
  never false = refl

  -- a set of another name stands in both
  unchanged : (e : RrKey × RRset) → p e.0.name ≡ false → lookup (key_eq e.0) a ≡ Some e.1 → is_changed soa b e ≡ false
  unchanged e g h =
      ap (λ (o : Option RRset). not (key_eq soa e.0) && not (same_at (shown_if o) (Some (shown_set e.1)))) (others e.0 g ∙ h)
      ∙ ap (λ x. not (key_eq soa e.0) && not x) (same_set_equiv.refl (shown_set e.1))
      ∙ never (not (key_eq soa e.0))

  changed_alike : (e : RrKey × RRset) → p e.0.name ≡ true → is_changed soa (kept p b) e ≡ is_changed soa b e
  changed_alike e g = ap (λ (o : Option RRset). not (key_eq soa e.0) && not (same_at (shown_if o) (Some (shown_set e.1)))) (found_kept p b e.0 g)

  part_changed : (es : Sets) → AllByRecursion (λ (e : RrKey × RRset). lookup (key_eq e.0) a ≡ Some e.1) es → filter (is_changed soa (kept p b)) (kept p es) ≡ filter (is_changed soa b) es
  part_changed [] h = refl
  part_changed (e ∷ es) h = by (p e.0.name) refl (part_changed es h.1)
    where
      by : (x : Bool) → p e.0.name ≡ x → filter (is_changed soa (kept p b)) (kept p es) ≡ filter (is_changed soa b) es
          → filter (is_changed soa (kept p b)) (cond x (e ∷ kept p es) (kept p es)) ≡ cond (is_changed soa b e) (e ∷ filter (is_changed soa b) es) (filter (is_changed soa b) es)
      by true g i =
          ap (λ x. cond x (e ∷ filter (is_changed soa (kept p b)) (kept p es)) (filter (is_changed soa (kept p b)) (kept p es))) (changed_alike e g)
          ∙ ap (λ (xs : Sets). cond (is_changed soa b e) (e ∷ xs) xs) i
      by false g i = i ∙ sym (ap (λ x. cond x (e ∷ filter (is_changed soa b) es) (filter (is_changed soa b) es)) (unchanged e g h.0))

  pub same_changes : InOrder a → changed soa (kept p a) (kept p b) ≡ changed soa a b
  same_changes o =
      ap (map (λ (e : RrKey × RRset). e.1)) (part_changed a (each_found (λ (q : RrKey) (s : RRset). lookup (key_eq q) a ≡ Some s) a o (λ q s h. h)))

of_parts : (origin : Name) (names : List Name) (a b : Sets) (step : Option ZoneStep) → InOrder a → InOrder b → is_among names origin ≡ true
    → ((q : RrKey) → is_among names q.name ≡ false → lookup (key_eq q) b ≡ lookup (key_eq q) a)
    → IsStepIfAny origin (kept (is_among names) a) (kept (is_among names) b) step → IsStepIfAny origin a b step
of_parts origin names a b None o u h others (inl e) = inl (sym (found_kept (is_among names) a (key origin SOA) h) ∙ e)
of_parts origin names a b None o u h others (inr e) = inr (sym (found_kept (is_among names) b (key origin SOA) h) ∙ e)
of_parts origin names a b (Some s) o u h others step = record {
  old_soa = sym (found_kept (is_among names) a (key origin SOA) h) ∙ step.old_soa;
  deleted = step.deleted ∙ same_changes (is_among names) (key origin SOA) a b others o;
  new_soa = sym (found_kept (is_among names) b (key origin SOA) h) ∙ step.new_soa;
  added = step.added ∙ same_changes (is_among names) (key origin SOA) b a (λ q g. sym (others q g)) u;
}

pub steps_are_local : StepsAreLocal
steps_are_local origin names zone next before after step is_zone h changed made =
    of_parts origin names zone next step is_zone.ordered changed.ordered h (λ q g. changed.others q.name q.record_type.0 g)
    (subst (λ (x : Sets). IsStepIfAny origin (sets_of names zone) x step) changed.after_is
    (subst (λ (x : Sets). IsStepIfAny origin x after step) changed.before_is made))
