-- Steps as differences lead to the same
use Rattle.std.proofs.Common.{◌≡◌, List, [], ◌∷◌, ◌++◌, refl, sym, ◌∙◌, subst, append_assoc, Result, Ok, Err}
use Rattle.std.specs.Prelude.{map}
use Rattle.std.specs.List.{AllZip}
use Rattle.zone_map.specs.Zones.{Sets}
use Rattle.zone_difference.specs.Differences.{◌>>=◌, applied, replayed}
use Rattle.zone_difference.specs.declared.difference.Difference.{Difference}
use Rattle.zone_difference.specs.declared.error.DifferenceError.{DifferenceError}
use Rattle.shown_zones.specs.Agreeing.{IsOfStep}
use Rattle.shown_zones.specs.StepLaws.{DifferencesAreSteps}
use Rattle.shown_zones.specs.Steps.{all_stepped, step_of, stepped}
use Rattle.shown_zones.specs.declared.step.ZoneStep.{ZoneStep}

pub replayed_is : (ss : List ZoneStep) (ds : List Difference) (m : Sets) → AllZip IsOfStep ss ds → replayed m ds ≡ all_stepped m (map step_of ss)
unfolding replayed all_stepped
replayed_is [] [] m h = refl
replayed_is [] (d ∷ ds) m h = absurd h
replayed_is (s ∷ ss) [] m h = absurd h
replayed_is (s ∷ ss) (d ∷ ds) m h =
    (λ i. applied m (h.0.taken i) (h.0.given i) >>= λ n. replayed n ds)
    ∙ by (stepped m (step_of s)) (λ n. replayed_is ss ds n h.1)
  where
    by : (r : Result Sets DifferenceError) → ((n : Sets) → replayed n ds ≡ all_stepped n (map step_of ss)) → (r >>= λ n. replayed n ds) ≡ (r >>= λ n. all_stepped n (map step_of ss))
    by (Ok n) i = i n
    by (Err e) i = refl

pub differences_are_steps : DifferencesAreSteps
differences_are_steps ss ds m h = replayed_is ss ds m h

-- one more step as a difference, where those that are left make the others
pub one_more : (all before left : List ZoneStep) (front new : List Difference) (s : ZoneStep) (d : Difference) → before ≡ s ∷ left → new ≡ front ++ d ∷ [] → IsOfStep s d
    → ((ds : List Difference) → AllZip IsOfStep before ds → AllZip IsOfStep all (front ++ ds))
    → (ds : List Difference) → AllZip IsOfStep left ds → AllZip IsOfStep all (new ++ ds)
one_more all before left front new s d is put of_step h ds rest =
    subst (λ (f : List Difference). AllZip IsOfStep all (f ++ ds)) (sym put)
    (subst (AllZip IsOfStep all) (sym (append_assoc front (d ∷ []) ds))
    (h (d ∷ ds) (subst (λ (b : List ZoneStep). AllZip IsOfStep b (d ∷ ds)) (sym is) (of_step, rest))))
