-- What is kept of each zone once a version of one was noted
use Rattle.std.proofs.Common.{◌≡◌, ◌∙◌, ℕ, Bool, true, false, cond, [], refl, sym, ap, subst}
use Rattle.std.specs.Prelude.{Option, Some, None, IsSome}
use Rattle.std.specs.Arc.{arc_value}
use Rattle.std.specs.BTreeMap.{BTreeMap, UpdatesBy, WritesThrough}
use Rattle.std.specs.Ordering.{eq_by_cmp}
use Rattle.std.specs.declared.alloc.Global.{Global}
use Rattle.std.specs.declared.sync.Arc.{Arc}
use Rattle.std.proofs.lemmas.Map.Views.{tells_apart}
use Rattle.zone_proto.specs.NameLaws.{exact_names}
use Rattle.zone_proto.specs.Names.{Name, name_cmp}
use Rattle.zone_database.specs.declared.zone.Zone.{Zone}
use Rattle.kept_steps.specs.Kept.{Kept}
use Rattle.step_answers.specs.Noting.{IsNoted}
use Rattle.held_steps.specs.declared.histories.HeldSteps.{HeldSteps}
use Rattle.held_steps.specs.declared.history.ZoneHistory.{ZoneHistory}
use Rattle.held_steps.specs.Histories.{history_of, most_in, sets_in, IsBegun, IsBehind, IsNext, IsNotedIn, IsPut, IsSame}

-- ---- of one zone

pub begun_so : (h : ZoneHistory) (newest : Arc Zone Global) (most : ℕ) → h.newest ≡ newest → h.steps ≡ record { most = most; steps = [] } → IsBegun (arc_value newest) most h
begun_so h newest most is steps = record { newest = ap arc_value is; steps = steps }

pub next_so : (old h : ZoneHistory) (next : Arc Zone Global) (before after : Zone) → h.newest ≡ next → before ≡ arc_value old.newest → after ≡ arc_value next
    → IsNoted after.origin (sets_in before) (sets_in after) old.steps h.steps → IsNext (arc_value next) old h
next_so old h next before after is from to noted =
    record {
      newest = ap arc_value is;
      steps = subst (λ (z : Zone). IsNoted z.origin (sets_in (arc_value old.newest)) (sets_in z) old.steps h.steps) to
          (subst (λ (z : Zone). IsNoted after.origin (sets_in z) (sets_in after) old.steps h.steps) from noted);
    }

-- ---- of one among others

module _ (z : Zone) (old new : HeldSteps) (most : most_in new ≡ most_in old) where
  -- nothing was kept of it
  pub noted_first : (h : ZoneHistory) → history_of old z.origin ≡ None → IsBegun z (most_in old) h → UpdatesBy name_cmp (name_cmp z.origin) old.histories new.histories (Some h)
      → IsNotedIn z old new
  noted_first h none begun updates =
      record { history = h; behind = subst (λ (o : Option ZoneHistory). IsBehind z (most_in old) o h) (sym none) begun; put = updates.0; most = most }

  -- something was, under the name of its origin
  module _ (k : Name) (named : k ≡ z.origin) (before h : ZoneHistory) (is : history_of old k ≡ Some before) (through : WritesThrough name_cmp (name_cmp k) old.histories h new.histories) where
    updates : IsPut k (Some h) (history_of old) (history_of new)
    updates = (through.3 (subst IsSome (sym is) refl)).0

    pub noted_next : IsNext z before h → IsNotedIn z old new
    noted_next next =
        let found : history_of old z.origin ≡ Some before = sym (ap (history_of old) named) ∙ is in
        record {
          history = h;
          behind = subst (λ (o : Option ZoneHistory). IsBehind z (most_in old) o h) (sym found) next;
          put = subst (λ (n : Name). IsPut n (Some h) (history_of old) (history_of new)) named updates;
          most = most;
        }

    -- it stayed as it was
    by : (n : Name) (b : Bool) → eq_by_cmp name_cmp k n ≡ b → h ≡ before → history_of new n ≡ history_of old n
    by n true e same =
        updates n ∙ ap (λ (b : Bool). cond b (Some h) (history_of old n)) e ∙ ap Some same ∙ sym is ∙ ap (history_of old) (tells_apart exact_names k n e)
    by n false e same = updates n ∙ ap (λ (b : Bool). cond b (Some h) (history_of old n)) e

    pub same_next : h ≡ before → IsSame old new
    same_next same = record { histories = λ n. by n (eq_by_cmp name_cmp k n) refl same; most = most }

pub forgotten : (origin : Name) (old new : HeldSteps) → UpdatesBy name_cmp (name_cmp origin) old.histories new.histories None
    → IsPut origin None (history_of old) (history_of new)
forgotten origin old new updates = updates.0
