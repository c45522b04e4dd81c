use Rattle.std.proofs.Common.{◌≡◌, ◌-◌, ◌*◌, length, refl, ap, subst, arith, rules}
use Rattle.message_writing.specs.Fronts.{IsFrontPut}
use Rattle.message_writing.specs.Responses.{all_records, opt_of}
use Rattle.zone_proto.specs.Names.{wire_length}
use Rattle.message_writing.proofs.Failures.{unfit}
use Rattle.message_writing.proofs.Fronts.{front_back, front_fails}
use Rattle.message_writing.proofs.InOrder.{all_grow}
use Rattle.message_writing.proofs.ResponseBack.{blank_length}
use Rattle.message_writing.proofs.front_writer.compose_front.Goals as goal

pub returns-then-limit-least-clause-err : goal.returns-then-limit-least-clause-err
returns-then-limit-least-clause-err c =
    omega (
      arith,
      c.if-limit-least.true,
      c.wire_length-name.ensures.length,
      ap wire_length c.labels.ensures.value,
      c.opt_count-opts.ensures.value,
    )

pub write_groups-requires-clause-room : goal.write_groups-requires-clause-room
write_groups-requires-clause-room c =
    omega (
      arith,
      c.if-limit-least.false,
      c.in_ok-push_question.ensures.length,
      blank_length c.clear.new.self.items c.extend_from_slice.new.self.items _ c.clear.ensures.items c.in_ok-extend_from_slice.ensures.items refl,
      c.wire_length-name.ensures.length,
      ap wire_length c.labels.ensures.value,
    )

pub put_header-requires-clause-long : goal.put_header-requires-clause-long
put_header-requires-clause-long c =
    let front = c.in_ok-front.ensures.ok in
    omega (
      arith,
      all_grow c.push_question.new.out.items c.write_groups.new.out.items _ front.written,
      c.in_ok-push_question.ensures.length,
      blank_length c.clear.new.self.items c.extend_from_slice.new.self.items _ c.clear.ensures.items c.in_ok-extend_from_slice.ensures.items refl,
      c.in_ok-push_opt.ensures.length,
    )

pub put_header-requires-clause-answers : goal.put_header-requires-clause-answers
put_header-requires-clause-answers c =
    let front = c.in_ok-front.ensures.ok in
    omega (
      arith,
      all_grow c.push_question.new.out.items c.write_groups.new.out.items _ front.written,
      front.counted,
      c.in_ok-front.ensures.within,
      c.requires,
    )

pub put_header-requires-clause-additionals : goal.put_header-requires-clause-additionals
put_header-requires-clause-additionals c = omega (arith, c.opt_count-opts.ensures.small)

pub returns-in_err-front-clause-err : goal.returns-in_err-front-clause-err
returns-in_err-front-clause-err c =
    let told = front_fails c.args.limit c.args.response.now c.in_err-front.field-0.0 c.in_err-front.ensures.err in search (rules, told)

pub returns-then-limit-least-clause-room : goal.returns-then-limit-least-clause-room
returns-then-limit-least-clause-room c enough =
    absurd (omega (
      arith,
      enough,
      c.if-limit-least.true,
      c.wire_length-name.ensures.length,
      ap wire_length c.labels.ensures.value,
      c.labels.ensures.valid.short,
      c.opt_count-opts.ensures.small,
    ))

pub returns-in_err-front-clause-room : goal.returns-in_err-front-clause-room
returns-in_err-front-clause-room c enough =
    let told = unfit (all_records c.args.response.now.answers.now) c.in_err-front.field-0.0 c.in_err-front.ensures.err in search (rules, told)

pub returns-clause-ok : goal.returns-clause-ok
returns-clause-ok c =
    let r = c.args.response.now in
    let limit = c.args.limit in
    let front = c.in_ok-front.front in
    let opts = c.opt_count-opts.result in
    let blank = c.extend_from_slice.new.self.items in
    let start = c.push_question.new.out.items in
    let end = c.write_groups.new.out.items in
    let all = c.push_opt.new.out.items in
    let room : limit - 11 * opts ≡ limit - 11 * length (opt_of r) = ap (λ n. limit - 11 * n) c.opt_count-opts.ensures.value in
    front_back limit r blank start end all c.put_header.new.out.items front.groups front.records opts
    (blank_length c.clear.new.self.items blank _ c.clear.ensures.items c.in_ok-extend_from_slice.ensures.items refl)
    c.in_ok-push_question.ensures.read (subst (λ n. IsFrontPut n start end r.answers.now front) room c.in_ok-front.ensures.ok)
    c.in_ok-push_opt.ensures.read c.opt_count-opts.ensures.value
    (omega (arith, c.in_ok-push_opt.ensures.length, c.in_ok-front.ensures.within, c.opt_count-opts.ensures.value)) c.put_header.ensures
