use Rattle.std.proofs.Common.{Bool, List, ℕ, length, take, ◌≡◌, refl, subst, sym, ap, ◌∙◌, rules}
use Rattle.zone_proto.specs.declared.record.Record.{Record}
use Rattle.message_writing.specs.Outcomes.{ArePutWithin}
use Rattle.message_writing.specs.Responses.{records_of, with_ttl}
use Rattle.message_writing.proofs.AskedNames.{asked_at, asked_on}
use Rattle.message_writing.proofs.Failures.{first_fails, second_fails}
use Rattle.message_writing.proofs.Groups.{over_first, over_second, put_both}
use Rattle.message_writing.proofs.group_writer.write_group.Goals as goal

put_at : (n m : ℕ) (old new : List ℕ) (rs : List Record) (b d : Bool) → n ≡ m → b ≡ d → ArePutWithin n old new rs b → ArePutWithin m old new rs d
put_at n m old new rs b d e f h = subst (λ k. ArePutWithin k old new rs d) e (subst (λ x. ArePutWithin n old new rs x) f h)

pub returns-then-not-whole-clause-ok : goal.returns-then-not-whole-clause-ok
returns-then-not-whole-clause-ok c =
    let g = c.args.group.now in
    let over = c.write_records.new.out.items in
    over_first (with_ttl g.ttl) g.records.now g.signatures.now c.args.setting.now.room c.args.out.now.items over c.truncate.new.self.items
    (put_at _ _ _ _ _ _ _ refl c.if-not-whole.true c.in_ok-whole.ensures.ok)
    (c.truncate.ensures.items ∙ ap (λ s. take (length s) over) c.as_slice-start.ensures.value)

pub returns-then-not-signed-clause-ok : goal.returns-then-not-signed-clause-ok
returns-then-not-signed-clause-ok c =
    let g = c.args.group.now in
    let over = c.write_records-2.new.out.items in
    over_second (with_ttl g.ttl) g.records.now g.signatures.now c.args.setting.now.room c.args.out.now.items c.write_records.new.out.items over
    c.truncate-then-not-signed.new.self.items (put_at _ _ _ _ _ _ _ refl c.if-not-whole.false c.in_ok-whole.ensures.ok)
    (put_at _ _ _ _ _ _ _ refl c.if-not-signed.true c.in_ok-signed.ensures.ok)
    (c.truncate-then-not-signed.ensures.items ∙ ap (λ s. take (length s) over) c.as_slice-start.ensures.value)

pub returns-clause-ok : goal.returns-clause-ok
returns-clause-ok c =
    let g = c.args.group.now in
    put_both (with_ttl g.ttl) g.records.now g.signatures.now c.args.setting.now.room c.args.out.now.items c.write_records.new.out.items
    c.write_records-2.new.out.items (put_at _ _ _ _ _ _ _ refl c.if-not-whole.false c.in_ok-whole.ensures.ok)
    (put_at _ _ _ _ _ _ _ refl c.if-not-signed.false c.in_ok-signed.ensures.ok)

pub returns-in_err-whole-clause-err : goal.returns-in_err-whole-clause-err
returns-in_err-whole-clause-err c =
    let g = c.args.group.now in
    let told = first_fails g.ttl g.records.now g.signatures.now c.in_err-whole.field-0.0 c.in_err-whole.ensures.err in
    search (rules, told)

pub returns-in_err-signed-clause-err : goal.returns-in_err-signed-clause-err
returns-in_err-signed-clause-err c =
    let g = c.args.group.now in
    let told = second_fails g.ttl g.records.now g.signatures.now c.in_err-signed.field-0.0 c.in_err-signed.ensures.err in
    search (rules, told)

pub returns-then-not-whole-clause-asked : goal.returns-then-not-whole-clause-asked
returns-then-not-whole-clause-asked c =
    asked_at c.args.out.now.items c.truncate.new.self.items c.args.setting.now.asked (sym (returns-then-not-whole-clause-ok c).0) c.requires.asked

pub write_records-requires-2-clause-asked : goal.write_records-requires-2-clause-asked
write_records-requires-2-clause-asked c =
    let put = put_at _ _ _ _ _ _ _ refl c.if-not-whole.false c.in_ok-whole.ensures.ok in
    asked_on c.args.setting.now.asked c.args.out.now.items c.write_records.new.out.items _ put.0 c.requires.asked

pub returns-then-not-signed-clause-asked : goal.returns-then-not-signed-clause-asked
returns-then-not-signed-clause-asked c =
    asked_at c.args.out.now.items c.truncate-then-not-signed.new.self.items c.args.setting.now.asked (sym (returns-then-not-signed-clause-ok c).0)
    c.requires.asked

pub returns-clause-asked : goal.returns-clause-asked
returns-clause-asked c =
    asked_on c.args.setting.now.asked c.args.out.now.items c.write_records-2.new.out.items (records_of c.args.group.now) (returns-clause-ok c).0
    c.requires.asked
