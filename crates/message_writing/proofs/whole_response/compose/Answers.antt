use Rattle.std.proofs.Common.{refl, rules}
use Rattle.message_writing.specs.Responses.{all_records}
use Rattle.message_writing.proofs.BodyParts.{additionals_fail, answers_fail, authorities_fail, glue_fails}
use Rattle.message_writing.proofs.Failures.{body_fails, unfit}
use Rattle.message_writing.proofs.MoreGroups.{begin_fails, emptied, emptied_head, no_groups}
use Rattle.message_writing.proofs.whole_response.compose.Goals as goal

pub returns-clause-ok : goal.returns-clause-ok
returns-clause-ok c =
    let r = c.args.response.now in
    let limit = c.args.limit in
    let r₀ = emptied r in
    let u₀ = c.in_ok-writer.ensures.begun r₀ (emptied_head c.head_of.result r c.head_of.ensures) (no_groups r) in
    let u₁ = c.in_ok-put_groups.ensures.put limit r₀ (refl, refl, refl) u₀ in
    let u₂ = c.in_ok-put_groups-2.ensures.put limit (record r₀ { answers = r.answers }) (refl, refl) u₁ in
    let u₃ = c.in_ok-put_groups-3.ensures.put limit (record r₀ { answers = r.answers; authorities = r.authorities }) refl u₂ in
    let u₄ = c.in_ok-put_groups-4.ensures.put limit (record r₀ { answers = r.answers; authorities = r.authorities; glue = r.glue }) tt u₃ in
    c.in_ok-finish.ensures limit r u₄

pub returns-in_err-writer-clause-err : goal.returns-in_err-writer-clause-err
returns-in_err-writer-clause-err c =
    let told = begin_fails c.args.limit c.head_of.result c.args.response.now c.in_err-writer.field-0.0 c.head_of.ensures c.in_err-writer.ensures.err in
    search (rules, told)

pub returns-in_err-put_groups-clause-err : goal.returns-in_err-put_groups-clause-err
returns-in_err-put_groups-clause-err c =
    let r = c.args.response.now in
    let e = c.in_err-put_groups.field-0.0 in
    let told = body_fails c.args.limit r e (answers_fail r e c.in_err-put_groups.ensures.err) in
    search (rules, told)

pub returns-in_err-put_groups-2-clause-err : goal.returns-in_err-put_groups-2-clause-err
returns-in_err-put_groups-2-clause-err c =
    let r = c.args.response.now in
    let e = c.in_err-put_groups-2.field-0.0 in
    let told = body_fails c.args.limit r e (authorities_fail r e c.in_err-put_groups-2.ensures.err) in
    search (rules, told)

pub returns-in_err-put_groups-3-clause-err : goal.returns-in_err-put_groups-3-clause-err
returns-in_err-put_groups-3-clause-err c =
    let r = c.args.response.now in
    let e = c.in_err-put_groups-3.field-0.0 in
    let told = body_fails c.args.limit r e (glue_fails r e c.in_err-put_groups-3.ensures.err) in
    search (rules, told)

pub returns-in_err-put_groups-4-clause-err : goal.returns-in_err-put_groups-4-clause-err
returns-in_err-put_groups-4-clause-err c =
    let r = c.args.response.now in
    let e = c.in_err-put_groups-4.field-0.0 in
    let told = body_fails c.args.limit r e (additionals_fail r e c.in_err-put_groups-4.ensures.err) in
    search (rules, told)

pub returns-in_err-put_groups-clause-room : goal.returns-in_err-put_groups-clause-room
returns-in_err-put_groups-clause-room c enough =
    let told = unfit (all_records c.args.response.now.answers.now) c.in_err-put_groups.field-0.0 c.in_err-put_groups.ensures.err in
    search (rules, told)

pub returns-in_err-put_groups-2-clause-room : goal.returns-in_err-put_groups-2-clause-room
returns-in_err-put_groups-2-clause-room c enough =
    let told = unfit (all_records c.args.response.now.authorities.now) c.in_err-put_groups-2.field-0.0 c.in_err-put_groups-2.ensures.err in
    search (rules, told)

pub returns-in_err-put_groups-3-clause-room : goal.returns-in_err-put_groups-3-clause-room
returns-in_err-put_groups-3-clause-room c enough =
    let told = unfit (all_records c.args.response.now.glue.now) c.in_err-put_groups-3.field-0.0 c.in_err-put_groups-3.ensures.err in
    search (rules, told)

pub returns-in_err-put_groups-4-clause-room : goal.returns-in_err-put_groups-4-clause-room
returns-in_err-put_groups-4-clause-room c enough =
    let told = unfit (all_records c.args.response.now.additionals.now) c.in_err-put_groups-4.field-0.0 c.in_err-put_groups-4.ensures.err in
    search (rules, told)
