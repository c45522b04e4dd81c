use Rattle.std.proofs.Common.{true, false, length, take, refl, ap, ◌∙◌, arith}
use Rattle.message_writing.specs.declared.response_writer.ResponseWriter.{ResponseWriter}
use Rattle.message_writing.specs.Responses.{records_of}
use Rattle.message_writing.proofs.AskedNames.{known_on}
use Rattle.message_writing.proofs.KeptBack.{none_counts, placed_asked, placed_counts, placed_grows, placed_over, placed_put}
use Rattle.message_writing.proofs.MoreGroups.{grows_on, puts_group, puts_left}
use Rattle.message_writing.proofs.response_writer.ResponseWriter.put_kept.Goals as goal

pub returns-then-counts-clause-put : goal.returns-then-counts-clause-put
returns-then-counts-clause-put c = λ g placed. puts_left c.args.section g c.args.self.now c.args.out.now.items c.if-counts.true

pub returns-then-as_slice-self-clause-put : goal.returns-then-as_slice-self-clause-put
returns-then-as_slice-self-clause-put c = λ g placed.
    let old = c.args.out.now.items in
    let over = c.push_to.new.out.items in
    let after : ResponseWriter = record c.args.self.now { counts = c.counts_with-self.result } in
    puts_group c.args.section g c.args.self.now after old c.truncate.new.self.items false 0 c.if-counts.false refl refl c.counts_with-self.ensures
    (placed_over old over c.truncate.new.self.items c.args.place c.args.self.now.setting.room (records_of g) c.args.kept.now placed
    c.in_ok-push_to.ensures (omega (arith, c.if-as_slice-self.true, ap length c.as_slice.ensures.value))
    (c.truncate.ensures.items ∙ ap (λ s. take (length s) over) c.as_slice-start.ensures.value))
    (none_counts g)

pub counts_with-self-requires-2-clause-answers : goal.counts_with-self-requires-2-clause-answers
counts_with-self-requires-2-clause-answers c =
    let placed = c.requires.placed in
    omega (
      arith,
      placed_grows c.args.out.now.items c.push_to.new.out.items c.args.place placed.0 c.args.kept.now placed.1 c.in_ok-push_to.ensures,
      c.requires.going.answers,
      c.requires.going.small,
      c.if-as_slice-self.false,
      ap length c.as_slice.ensures.value,
    )

pub counts_with-self-requires-2-clause-authorities :
    goal.counts_with-self-requires-2-clause-authorities
counts_with-self-requires-2-clause-authorities c =
    let placed = c.requires.placed in
    omega (
      arith,
      placed_grows c.args.out.now.items c.push_to.new.out.items c.args.place placed.0 c.args.kept.now placed.1 c.in_ok-push_to.ensures,
      c.requires.going.authorities,
      c.requires.going.small,
      c.if-as_slice-self.false,
      ap length c.as_slice.ensures.value,
    )

pub counts_with-self-requires-2-clause-additionals :
    goal.counts_with-self-requires-2-clause-additionals
counts_with-self-requires-2-clause-additionals c =
    let placed = c.requires.placed in
    omega (
      arith,
      placed_grows c.args.out.now.items c.push_to.new.out.items c.args.place placed.0 c.args.kept.now placed.1 c.in_ok-push_to.ensures,
      c.requires.going.additionals,
      c.requires.going.small,
      c.if-as_slice-self.false,
      ap length c.as_slice.ensures.value,
    )

pub returns-clause-put : goal.returns-clause-put
returns-clause-put c = λ g placed.
    let old = c.args.out.now.items in
    let new = c.push_to.new.out.items in
    let after : ResponseWriter = record c.args.self.now { counts = c.counts_with-self-2.result } in
    puts_group c.args.section g c.args.self.now after old new true c.args.kept.now.count c.if-counts.false refl refl c.counts_with-self-2.ensures
    (placed_put old new c.args.place c.args.self.now.setting.room (records_of g) c.args.kept.now placed c.in_ok-push_to.ensures
    (omega (arith, c.if-as_slice-self.false, ap length c.as_slice.ensures.value)))
    (placed_counts old c.args.place g c.args.kept.now placed)

pub returns-clause-going : goal.returns-clause-going
returns-clause-going c =
    let old = c.args.out.now.items in
    let new = c.push_to.new.out.items in
    let placed = c.requires.placed in
    let after : ResponseWriter = record c.args.self.now { counts = c.counts_with-self-2.result } in
    grows_on c.args.section c.args.self.now after old new true c.args.kept.now.count refl refl c.counts_with-self-2.ensures
    (placed_grows old new c.args.place placed.0 c.args.kept.now placed.1 c.in_ok-push_to.ensures)
    (omega (arith, c.if-as_slice-self.false, ap length c.as_slice.ensures.value))
    (placed_asked c.args.self.now.setting.asked old new c.args.place placed.0 c.args.kept.now placed.1 c.in_ok-push_to.ensures
    c.requires.going.asked) c.requires.going

pub returns-clause-known : goal.returns-clause-known
returns-clause-known c = λ p n known. known_on c.args.out.now.items c.push_to.new.out.items _ p n c.in_ok-push_to.ensures known
