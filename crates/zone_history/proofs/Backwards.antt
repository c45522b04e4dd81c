-- Versions of a zone undone lead back
use Rattle.std.proofs.Common.{◌≡◌, ℕ, Bool, true, List, [], ◌∷◌, refl, sym, ap, ◌∙◌, subst, Result, Ok}
use Rattle.std.specs.Prelude.{Option, Some, None}
use Rattle.std.specs.List.{AllByRecursion}
use Rattle.std.specs.Map.{lookup}
use Rattle.zone_proto.specs.declared.rr_key.RrKey.{RrKey}
use Rattle.zone_proto.specs.Keys.{key_eq}
use Rattle.zone_proto.specs.Sets.{RRset}
use Rattle.zone_proto.specs.SetEquality.{same_set_equiv}
use Rattle.zone_map.specs.Zones.{Sets, IsZone}
use Rattle.zone_difference.specs.Differences.{◌>>=◌, applied, same_at, sets_lacking}
use Rattle.zone_difference.specs.Laws.{last_of, MakesSame, SameZone}
use Rattle.zone_difference.specs.declared.error.DifferenceError.{DifferenceError}
use Rattle.zone_difference.proofs.Leading.{differences_lead}
use Rattle.zone_history.specs.Histories.{back, undone}
use Rattle.zone_history.specs.HistoryLaws.{AreSteps, CondensedLeads, IsStep, UndoneLeadsBack}
use Rattle.zone_history.specs.declared.history.Version.{Version}

-- ---- equal zones

turned_at : (o p : Option RRset) → same_at o p ≡ true → same_at p o ≡ true
turned_at None None h = refl
turned_at None (Some t) h = absurd cc
turned_at (Some s) None h = absurd cc
turned_at (Some s) (Some t) h = same_set_equiv.symm t s ∙ h

along_at : (o p q : Option RRset) → same_at o p ≡ true → same_at p q ≡ true → same_at o q ≡ true
along_at None None q h g = g
along_at None (Some t) q h g = absurd cc
along_at (Some s) None q h g = absurd cc
along_at (Some s) (Some t) None h g = absurd cc
along_at (Some s) (Some t) (Some u) h g = same_set_equiv.congr s t u h ∙ g

itself_at : (o : Option RRset) → same_at o o ≡ true
itself_at None = refl
itself_at (Some s) = same_set_equiv.refl s

turned : (m n : Sets) → SameZone m n → SameZone n m
turned m n h k = turned_at (lookup (key_eq k) m) (lookup (key_eq k) n) (h k)

along : (m n o : Sets) → SameZone m n → SameZone n o → SameZone m o
along m n o h g k = along_at (lookup (key_eq k) m) (lookup (key_eq k) n) (lookup (key_eq k) o) (h k) (g k)

itself : (m : Sets) → SameZone m m
itself m k = itself_at (lookup (key_eq k) m)

-- ---- one version

-- a step undone leads from each zone that has the next one's sets back to the first
step_back : (v : Version) (a b n : Sets) → IsStep v a b → IsZone a → IsZone b → IsZone n → SameZone n b → MakesSame (back n v) a
step_back v a b n step zone_a zone_b zone_n same =
    subst (λ (r : Result Sets DifferenceError). MakesSame r a)
    (λ i. applied n (sym step.given i) (sym step.taken i))
    (differences_lead b a n zone_b zone_a zone_n same)

then_back : (r : Result Sets DifferenceError) (v : Version) (a b : Sets) → IsStep v a b → IsZone a → IsZone b → MakesSame r b → MakesSame (r >>= λ n. back n v) a
then_back r v a b step zone_a zone_b (n, is, zone_n, same) =
    subst (λ (x : Result Sets DifferenceError). MakesSame (x >>= λ n. back n v) a) (sym is) (step_back v a b n step zone_a zone_b zone_n same)

-- ---- all of them

pub undone_leads_back : UndoneLeadsBack
unfolding undone
undone_leads_back [] a m [] steps zone zones stands same = (m, refl, stands, same)
undone_leads_back [] a m (b ∷ bs) steps zone zones stands same = absurd steps
undone_leads_back (v ∷ vs) a m [] steps zone zones stands same = absurd steps
undone_leads_back (v ∷ vs) a m (b ∷ bs) steps zone zones stands same =
    then_back (undone m vs) v a b steps.0 zone zones.0 (undone_leads_back vs b m bs steps.1 zones.0 zones.1 stands same)

pub condensed_leads : CondensedLeads
condensed_leads vs a m client bs steps zone zones stands same zone_client same_client = by (undone_leads_back vs a m bs steps zone zones stands same)
  where
    by : MakesSame (undone m vs) a → (before : Sets) × (undone m vs ≡ Ok before) × MakesSame (applied client (sets_lacking before m) (sets_lacking m before)) m
    by (n, is, zone_n, same_n) = (n, is, differences_lead n m client zone_n stands zone_client (along client a n same_client (turned n a same_n)))
