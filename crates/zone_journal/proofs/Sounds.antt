-- The records of the sets of a step
use borrow.Author.Count.{below_more}
use Rattle.std.proofs.Common.{◌≡◌, ℕ, ◌+◌, ◌<◌, List, [], ◌∷◌, ◌++◌, length, get_or, take, sym, ap, ◌∙◌, subst, append_assoc}
use Rattle.std.specs.List.{All, AllByRecursion, flat_map}
use Rattle.std.proofs.lemmas.Grind.{flat_map-append}
use Rattle.std.proofs.lemmas.List.{flat_map_more, get_or_default, take_more}
use Rattle.std.proofs.lemmas.List.Elements.{recursion_from_All}
use Rattle.zone_proto.specs.Sets.{RRset}
use Rattle.zone_proto.specs.declared.record.Record.{Record}
use Rattle.shown_zones.specs.Steps.{Step}
use Rattle.shown_zones.specs.Sending.{sent, sent_sets, sent_step}
use Rattle.zone_journal.specs.Writing.{IsSound}

-- the records of a step are put one behind the other
pub put_step : (s : Step) (a b c d : List Record) → a ≡ [] ++ sent s.old_soa → b ≡ a ++ flat_map sent s.deleted → c ≡ b ++ sent s.new_soa → d ≡ c ++ flat_map sent s.added
    → d ≡ sent_step s
put_step s a b c d ha hb hc hd =
    hd
    ∙ ap (λ x. x ++ flat_map sent s.added) (hc ∙ ap (λ x. x ++ sent s.new_soa) (hb ∙ ap (λ x. x ++ flat_map sent s.deleted) ha))
    ∙ append_assoc (sent s.old_soa ++ flat_map sent s.deleted) (sent s.new_soa) (flat_map sent s.added)
    ∙ append_assoc (sent s.old_soa) (flat_map sent s.deleted) (sent s.new_soa ++ flat_map sent s.added)
    ∙ ap (λ x. sent s.old_soa ++ x) (sym (flat_map-append sent s.deleted (s.new_soa ∷ s.added)))

joined : (xs ys : List RRset) → AllByRecursion IsSound xs → AllByRecursion IsSound ys → AllByRecursion IsSound (xs ++ ys)
joined [] ys h g = g
joined (x ∷ xs) ys h g = (h.0, joined xs ys h.1 g)

pub sound_step : (s : Step) → IsSound s.old_soa → All IsSound s.deleted → IsSound s.new_soa → All IsSound s.added → AllByRecursion IsSound (sent_sets s)
sound_step s old deleted new added =
    (old, joined s.deleted (s.new_soa ∷ s.added) (recursion_from_All IsSound s.deleted deleted) (new, recursion_from_All IsSound s.added added))

-- ---- one more set

pub more_sent : (sets : List RRset) (i : ℕ) (s : RRset) (front mid new : List Record) → i < length sets → s ≡ get_or sets i s → mid ≡ front ++ flat_map sent (take i sets)
    → new ≡ mid ++ sent s → new ≡ front ++ flat_map sent (take (i + 1) sets)
more_sent sets i s front mid new lt is before one =
    one
    ∙ ap (λ (x : List Record). x ++ sent s) before
    ∙ flat_map_more sent front (take i sets) s
    ∙ ap (λ (xs : List RRset). front ++ flat_map sent xs) (ap (λ (r : RRset). take i sets ++ r ∷ []) is ∙ sym (take_more sets i s lt))

pub more_sound : (sets : List RRset) (i : ℕ) (s : RRset) → i < length sets → s ≡ get_or sets i s → ((k : ℕ) (d : RRset) → k < i → IsSound (get_or sets k d)) → IsSound s
    → (k : ℕ) (d : RRset) → k < i + 1 → IsSound (get_or sets k d)
more_sound sets i s lt is below one k d less =
    below_more (λ (j : ℕ). (e : RRset) → IsSound (get_or sets j e)) i (λ j q e. below j e q) (λ e. subst IsSound (is ∙ get_or_default sets i s e lt) one) k less d
