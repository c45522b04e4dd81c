use Rattle.std.proofs.Common.{◌≡◌, Bool, true, false, refl, sym, ap, ◌∙◌, true≢false}
use Rattle.std.specs.Prelude.{option_copied}
use Rattle.zone_proto.specs.Names.{Name, is_at_or_above, IsAtOrAbove}
use Rattle.zone_proto.proofs.Names.NameTree.{is_at_or_above_sound, is_at_or_above_complete}
use Rattle.zone_map.proofs.FirstKeys.{exists_without, absent_by_first, exists_by_first}
use Rattle.zone_response.proofs.node_sets.exists.Goals as goal

not_above : (a n : Name) → (IsAtOrAbove a n → ⊥) → is_at_or_above a n ≡ false
not_above a n h = by (is_at_or_above a n) refl
  where
    by : (b : Bool) → is_at_or_above a n ≡ b → b ≡ false
    by true g = absurd (h (is_at_or_above_sound a n g))
    by false g = refl

pub returns-then-not-is_denial_type-clause-exists : goal.returns-then-not-is_denial_type-clause-exists
returns-then-not-is_denial_type-clause-exists g c =
    let n = c.args.least.now.name in
    let k = c.in-Some.first.now in
    let first = sym (ap option_copied c.in-Some.is) ∙ c.requires.first in
    let below = is_at_or_above_complete n k.name (c.zone_of.ensures.0 c.if-not-zone_of.false) in
    exists_by_first n c.args.inner.now.records c.requires.zone.ordered k first below (sym c.is_denial_type.ensures ∙ c.if-not-is_denial_type.true)

pub returns-then-not-zone_of-clause-exists : goal.returns-then-not-zone_of-clause-exists
returns-then-not-zone_of-clause-exists g c =
    let n = c.args.least.now.name in
    let k = c.in-Some.first.now in
    let first = sym (ap option_copied c.in-Some.is) ∙ c.requires.first in
    let apart = not_above n k.name (λ u. true≢false (sym (c.zone_of.ensures.1 u) ∙ c.if-not-zone_of.true)) in
    absent_by_first n c.args.inner.now.records c.requires.zone.ordered k first apart

pub returns-in_default-clause-exists : goal.returns-in_default-clause-exists
returns-in_default-clause-exists g c =
    let none = sym (ap option_copied c.in_default.is) ∙ c.requires.first in
    exists_without c.args.least.now.name c.args.inner.now.records c.requires.zone.ordered none
