-- What an update makes of a part of a zone, and what comes of the zone where it takes the place of that part
use Rattle.std.proofs.Common.{◌≡◌, ℕ, true, [], ap, ◌∙◌, subst, List, Ok, Err}
use Rattle.std.specs.Prelude.{None, if◌then◌else◌}
use Rattle.std.specs.Option.{option_or}
use Rattle.zone_proto.specs.Keys.{key}
use Rattle.zone_proto.specs.Names.{Name}
use Rattle.zone_map.specs.Zones.{Sets, owns, set_at}
use Rattle.zone_difference.proofs.Found.{InOrder}
use Rattle.zone_update.specs.Entries.{IsRefusal}
use Rattle.zone_update.specs.Updates.{updated}
use Rattle.zone_update.specs.declared.entry.Entry.{Entry}
use Rattle.zone_update.specs.declared.refusal.Refusal.{Refusal}
use Rattle.update_in_place.specs.Parts.{is_among, names_about, sets_of, AreChanged}
use Rattle.update_in_place.proofs.About.{all_among, origin_among, refused_part}
use Rattle.update_in_place.proofs.Exchanged.{is_whole, part_stands}
use Rattle.update_in_place.proofs.Local.{refused_whole, updated_whole}

module _ (origin : Name) (changes : List Entry) (zone before : Sets) (is_before : before ≡ sets_of (names_about origin changes) zone) where
  pub planned : (after : Sets) → InOrder zone → updated origin before [] changes ≡ Ok after
      → (next : Sets) × (updated origin zone [] changes ≡ Ok next) × AreChanged (names_about origin changes) zone next before after
  planned after ordered made =
      let whole =
      updated_whole (is_among (names_about origin changes)) origin (origin_among origin changes) zone after changes ordered (all_among origin changes)
      (subst (λ (x : Sets). updated origin x [] changes ≡ Ok after) is_before made) in
      (whole.0, whole.1, record { before_is = is_before; after_is = whole.2.same; ordered = whole.2.ordered; others = λ n t g. whole.2.others (key n t) g })

  pub refused_alone : (f : Refusal) → IsRefusal f (updated origin before [] changes) → IsRefusal f (updated origin zone [] changes)
  refused_alone f h =
      refused_part f (updated origin before [] changes) (updated origin zone [] changes) h
      (λ e. refused_whole (is_among (names_about origin changes)) origin (origin_among origin changes) zone changes f
      (subst (λ (x : Sets). updated origin x [] changes ≡ Err f) is_before e))

module _ (names : List Name) (zone next before after : Sets) (changed : AreChanged names zone next before after) where
  pub part_is : (n : Name) (t : ℕ) → owns after n t ≡ true → set_at before n t ≡ set_at zone n t
  part_is n t h =
      ap (λ (x : Sets). set_at x n t) changed.before_is
      ∙ part_stands (is_among names) zone next n t (subst (λ (x : Sets). owns x n t ≡ true) changed.after_is h)

  pub carried_out : (new : Sets) → InOrder new
      → ((n : Name) (t : ℕ) → set_at new n t ≡ option_or (set_at after n t) (if owns before n t then None else set_at zone n t)) → new ≡ next
  carried_out new ordered exchanged =
      is_whole (is_among names) zone next new ordered changed.ordered (λ q g. changed.others q.name q.record_type.0 g)
      (subst (λ (x : Sets). (n : Name) (t : ℕ) → set_at new n t ≡ option_or (set_at x n t) (if owns (sets_of names zone) n t then None else set_at zone n t)) changed.after_is
      (subst (λ (x : Sets). (n : Name) (t : ℕ) → set_at new n t ≡ option_or (set_at after n t) (if owns x n t then None else set_at zone n t)) changed.before_is exchanged))
