use Rattle.std.proofs.Common.{true, false, ◌+◌, take, ap, subst, ◌∙◌, arith, rules}
use Rattle.message_writing.specs.Outcomes.{IsPutWithin}
use Rattle.message_writing.specs.Responses.{all_records, records_of}
use Rattle.message_writing.proofs.Failures.{group_fails}
use Rattle.message_writing.proofs.Fronts.{front_cut, front_whole}
use Rattle.message_writing.proofs.InOrder.{all_grow}
use Rattle.message_writing.proofs.Sections.{count_more, section_more}
use Rattle.message_writing.proofs.front_writer.write_groups.Goals as goal

pub loop-group-preserved : goal.loop-group-preserved
loop-group-preserved c =
    let gs = c.args.groups.now in
    let i = c.loop-group.group-index in
    let g = c.group-item.result in
    let put = subst (λ b. IsPutWithin c.args.setting.now.room c.loop-group.out.items c.write_group.new.out.items (records_of g) b) c.if-not-branch.false
    c.in_ok-write_group.ensures.ok in
    record {
      written = section_more gs i c.args.setting.now.room g c.args.out.now.items c.loop-group.out.items c.write_group.new.out.items c.loop-group-test.true
          c.group-item.is c.loop-group.invariant.written put;
      at = omega (arith, c.loop-group.invariant.at);
      counted = ap (λ n. c.loop-group.records + n) c.count_of.ensures
          ∙ count_more gs i c.loop-group.records g c.loop-group-test.true c.group-item.is c.loop-group.invariant.counted;
      asked = c.in_ok-write_group.ensures.asked;
      within = put.1;
    }

pub returns-then-not-branch-clause-ok : goal.returns-then-not-branch-clause-ok
returns-then-not-branch-clause-ok c =
    let g = c.group-item.result in
    front_cut c.args.groups.now c.loop-group.group-index c.args.setting.now.room _ g c.args.out.now.items c.loop-group.out.items
    c.write_group.new.out.items c.loop-group-test.true c.group-item.is c.loop-group.invariant.at c.loop-group.invariant.written c.loop-group.invariant.counted
    (subst (λ b. IsPutWithin c.args.setting.now.room c.loop-group.out.items c.write_group.new.out.items (records_of g) b) c.if-not-branch.true
    c.in_ok-write_group.ensures.ok)

pub returns-clause-ok : goal.returns-clause-ok
returns-clause-ok c =
    front_whole c.args.groups.now c.loop-group.group-index c.args.setting.now.room _ c.args.out.now.items c.loop-group.out.items
    (omega arith) (omega (arith, c.loop-group-test.false)) c.loop-group.invariant.at c.loop-group.invariant.written c.loop-group.invariant.counted

pub returns-in_err-write_group-clause-err : goal.returns-in_err-write_group-clause-err
returns-in_err-write_group-clause-err c =
    let told = group_fails c.args.groups.now c.loop-group.group-index c.group-item.result c.in_err-write_group.field-0.0 c.loop-group-test.true c.group-item.is
    c.in_err-write_group.ensures.err in
    search (rules, told)

pub overflow_add-records : goal.overflow_add-records
overflow_add-records c =
    let gs = c.args.groups.now in
    let i = c.loop-group.group-index in
    let g = c.group-item.result in
    let old = c.args.out.now.items in
    let new = c.write_group.new.out.items in
    let put = subst (λ b. IsPutWithin c.args.setting.now.room c.loop-group.out.items new (records_of g) b) c.if-not-branch.false
    c.in_ok-write_group.ensures.ok in
    let more = section_more gs i c.args.setting.now.room g old c.loop-group.out.items new c.loop-group-test.true c.group-item.is
    c.loop-group.invariant.written put in
    omega (
      arith,
      all_grow old new (all_records (take (i + 1) gs)) more,
      count_more gs i c.loop-group.records g c.loop-group-test.true c.group-item.is c.loop-group.invariant.counted,
      c.count_of.ensures,
      c.write_group.new.out.small,
    )
