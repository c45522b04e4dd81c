use Rattle.std.proofs.Common.{◌≡◌, true≢false, cond, sym, ap, ◌∙◌}
use Rattle.zone_lookup.specs.Replies.{name_exists, absent, is_present}
use Rattle.zone_map.specs.Zones.{Sets, owns_at_or_below}
use Rattle.zone_in_memory.specs.Lookup.{error_of}
use Rattle.zone_in_memory.proofs.Denials.{absent_inside, absent_outside}
use Rattle.zone_in_memory.proofs.Lookups.{present_by_owned}
use Rattle.zone_in_memory.proofs.in_memory_zone_handler.InMemoryZoneHandler.negative_answer.Goals as goal
use Rattle.zone_in_memory.proofs.in_memory_zone_handler.InMemoryZoneHandler.negative_answer.Goals.{then-is_present, else-is_present+then-zone_of, else-is_present+else-zone_of}

pub returns-clause-answer : goal.returns-clause-answer
returns-clause-answer g c =
    let m = c.args.self.now.inner.records in
    let n = c.args.name.now in
    let origin = c.args.self.now.origin in
    let inside : c.self.inside.inner.records ≡ m = ap (λ z. z.inner.records) c.self.view_is in
    let top : c.self.inside.apex.name ≡ origin = ap (λ z. z.origin) c.self.view_is in
    let there : is_present m n ≡ c.in_ok-is_present.is_present =
    present_by_owned m n c.requires.no_wildcard ∙ ap (λ (k : Sets). owns_at_or_below k n) (sym inside) ∙ sym c.in_ok-is_present.ensures.answer in
    elim c.if-is_present.branch [
      | then-is_present w ↦ w.result-is ∙ w.for_name_exists.ensures ∙ sym (ap (λ b. error_of (cond b name_exists (absent origin n))) (there ∙ w.if-is_present.true))
      | else-is_present+then-zone_of w ↦
          w.result-is ∙ w.from.ensures ∙ sym (absent_inside c.self.inside.apex.name n (w.zone_of.ensures.0 w.if-zone_of.true)) ∙ ap (λ o. error_of (absent o n)) top
          ∙ sym (ap (λ b. error_of (cond b name_exists (absent origin n))) (there ∙ w.if-is_present.false))
      | else-is_present+else-zone_of w ↦
          w.result-is ∙ w.from-else-zone_of.ensures
          ∙ sym (absent_outside c.self.inside.apex.name n (λ below. true≢false (sym (w.zone_of.ensures.1 below) ∙ w.if-zone_of.false)))
          ∙ ap (λ o. error_of (absent o n)) top
          ∙ sym (ap (λ b. error_of (cond b name_exists (absent origin n))) (there ∙ w.if-is_present.false))
    ]
