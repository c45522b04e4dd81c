use Rattle.std.proofs.Common.{List, sym, ap, ◌∙◌, Result, Ok, Err}
use Rattle.std.specs.Prelude.{if◌then◌else◌}
use Rattle.std.specs.List.{list_all}
use Rattle.zone_update.specs.Entries.{◌>>=◌}
use Rattle.zone_update.specs.Demands.{is_met}
use Rattle.zone_update.specs.declared.demand.Demand.{Demand}
use Rattle.zone_update.specs.declared.refusal.Refusal.{Refusal}
use Rattle.zone_update.specs.declared.refusal.Refusal.TheVariants.{NXRRSet}
use Rattle.zone_update.proofs.prerequisites.meet.Goals as goal

pub returns-in-Ok-true : goal.returns-in-Ok-true
returns-in-Ok-true c =
    let m = c.args.sets.now in
    let ds = c.in-Ok.demands.items in
    let end : Result (List Demand) Refusal → Result (List Demand) Refusal = λ r. r >>= λ xs. if list_all (is_met m xs) xs then Ok xs else Err NXRRSet in
    ap end c.in-Ok.ensures
    ∙ ap (λ b. if b then Ok ds else Err NXRRSet) (sym (c.in-Ok-true.ensures.answer ∙ ap (λ xs. list_all (is_met m xs) xs) c.as_slice.ensures.value) ∙ c.in-Ok-true.field-0-test)

pub returns-in-Ok-false : goal.returns-in-Ok-false
returns-in-Ok-false c =
    let m = c.args.sets.now in
    let ds = c.in-Ok.demands.items in
    let end : Result (List Demand) Refusal → Result (List Demand) Refusal = λ r. r >>= λ xs. if list_all (is_met m xs) xs then Ok xs else Err NXRRSet in
    ap end c.in-Ok.ensures
    ∙ ap (λ b. if b then Ok ds else Err NXRRSet) (sym (c.in-Ok-false.ensures.answer ∙ ap (λ xs. list_all (is_met m xs) xs) c.as_slice.ensures.value) ∙ c.in-Ok-false.field-0-test)
