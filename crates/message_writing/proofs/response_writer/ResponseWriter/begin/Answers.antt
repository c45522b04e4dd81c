use Rattle.std.proofs.Common.{◌≡◌, ◌-◌, ◌*◌, length, refl, ap, ◌∙◌, arith}
use Rattle.message_writing.specs.Fronts.{opt_octets}
use Rattle.message_writing.proofs.MoreGroups.{asked_begun, begins, opts_by_head}
use Rattle.message_writing.proofs.ResponseBack.{blank_length}
use Rattle.message_writing.proofs.response_writer.ResponseWriter.begin.Goals as goal

pub returns-clause-begun : goal.returns-clause-begun
returns-clause-begun c =
    let head = c.args.head in
    let opts : 11 * c.opt_count-opts.result ≡ opt_octets head.query.now.extension =
    ap (λ n. 11 * n) c.opt_count-opts.ensures.value ∙ opts_by_head head c.without_groups.result c.without_groups.ensures.head in
    begins c.args.limit head _ _ (c.from-most.result - 11 * c.opt_count-opts.result) _ c.extend_from_slice.new.self.items
    c.push_question.new.out.items
    (blank_length c.clear.new.self.items c.extend_from_slice.new.self.items _ c.clear.ensures.items c.in_ok-extend_from_slice.ensures.items refl)
    c.in_ok-push_question.ensures.read (omega (arith, opts, c.if-most-least.false, c.from-most.ensures)) (λ i. c.from-most.ensures i - opts i)

pub returns-clause-going : goal.returns-clause-going
returns-clause-going c =
    let head = c.args.head in
    let blank = c.extend_from_slice.new.self.items in
    let opts : 11 * c.opt_count-opts.result ≡ opt_octets head.query.now.extension =
    ap (λ n. 11 * n) c.opt_count-opts.ensures.value ∙ opts_by_head head c.without_groups.result c.without_groups.ensures.head in
    let twelve = blank_length c.clear.new.self.items blank _ c.clear.ensures.items c.in_ok-extend_from_slice.ensures.items refl in
    record {
      long = omega (arith, twelve, c.in_ok-push_question.ensures.length);
      within = omega (arith, c.if-most-least.false, c.in_ok-push_question.ensures.length, twelve, ap length c.as_slice.ensures.value);
      small = omega (arith, opts, c.if-most-least.false, c.from-most.ensures, c.ranges.limit);
      asked = asked_begun c.pointed_to.result blank c.push_question.new.out.items _ head.query.now.question.name twelve
          c.in_ok-push_question.ensures.text c.labels-labels.ensures.valid c.pointed_to.ensures;
      answers = omega arith;
      authorities = omega arith;
      additionals = omega arith;
    }

pub pointed_to-requires : goal.pointed_to-requires
pointed_to-requires c =
    let twelve = blank_length c.clear.new.self.items c.extend_from_slice.new.self.items _ c.clear.ensures.items c.in_ok-extend_from_slice.ensures.items refl in
    omega (arith, c.in_ok-push_question.ensures.length, twelve, ap length c.as_slice.ensures.value)

pub overflow_sub-name : goal.overflow_sub-name
overflow_sub-name c =
    let twelve = blank_length c.clear.new.self.items c.extend_from_slice.new.self.items _ c.clear.ensures.items c.in_ok-extend_from_slice.ensures.items refl in
    omega (arith, c.in_ok-push_question.ensures.length, twelve, ap length c.as_slice.ensures.value)
