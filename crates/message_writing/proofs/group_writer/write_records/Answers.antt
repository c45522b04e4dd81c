use Rattle.std.proofs.Common.{◌+◌, length, map, subst, ap, arith, rules}
use Rattle.std.proofs.lemmas.List.{take_all}
use Rattle.message_writing.specs.StrictReading.{strict_record_of}
use Rattle.message_writing.specs.Continuing.{AppendsAll}
use Rattle.message_writing.specs.Responses.{with_ttl}
use Rattle.message_writing.proofs.AskedNames.{asked_on}
use Rattle.message_writing.proofs.Failures.{one_fails}
use Rattle.message_writing.proofs.Groups.{put_more, put_over}
use Rattle.message_writing.proofs.group_writer.write_records.Goals as goal

pub loop-record-preserved : goal.loop-record-preserved
loop-record-preserved c =
    record {
      written = put_more (with_ttl c.args.ttl) c.args.records.now c.loop-record.record-index c.record-item.result c.args.out.now.items
          c.loop-record.out.items c.write_record.new.out.items c.loop-record-test.true c.record-item.is c.loop-record.invariant.written
          c.in_ok-write_record.ensures.ok;
      within = omega (arith, c.if-as_slice-setting.false, ap length c.as_slice.ensures.value);
    }

pub returns-then-as_slice-setting-clause-ok : goal.returns-then-as_slice-setting-clause-ok
returns-then-as_slice-setting-clause-ok c =
    put_over (with_ttl c.args.ttl) c.args.records.now (c.loop-record.record-index + 1) c.args.setting.now.room c.args.out.now.items
    c.write_record.new.out.items
    (put_more (with_ttl c.args.ttl) c.args.records.now c.loop-record.record-index c.record-item.result c.args.out.now.items c.loop-record.out.items
    c.write_record.new.out.items c.loop-record-test.true c.record-item.is c.loop-record.invariant.written c.in_ok-write_record.ensures.ok)
    (omega (arith, c.if-as_slice-setting.true, ap length c.as_slice.ensures.value))

pub returns-clause-ok : goal.returns-clause-ok
returns-clause-ok c = (
  subst (λ rs. AppendsAll strict_record_of c.args.out.now.items c.loop-record.out.items (map (with_ttl c.args.ttl) rs))
      (take_all c.loop-record.record-index c.args.records.now (omega (arith, c.loop-record-test.false))) c.loop-record.invariant.written,
  c.loop-record.invariant.within,
)

pub returns-in_err-write_record-clause-err : goal.returns-in_err-write_record-clause-err
returns-in_err-write_record-clause-err c =
    let told = one_fails c.args.ttl c.args.records.now c.loop-record.record-index c.record-item.result c.in_err-write_record.field-0.0
    c.loop-record-test.true c.record-item.is c.in_err-write_record.ensures.err in
    search (rules, told)

pub write_record-requires : goal.write_record-requires
write_record-requires c =
    asked_on c.args.setting.now.asked c.args.out.now.items c.loop-record.out.items _ c.loop-record.invariant.written c.requires.asked
