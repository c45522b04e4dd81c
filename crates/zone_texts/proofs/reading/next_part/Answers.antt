use Rattle.std.proofs.Common.{◌≡◌, ◌+◌, ◌∙◌, ap, drop, ℕ, List, Option, [], arith}
use Rattle.std.proofs.Math.ListN.{drop_of_length-le}
use Rattle.std.proofs.lemmas.List.{take_rest}
use Rattle.zone_scanner.specs.declared.fault.EntryError.TheVariants as errors
use Rattle.zone_scanner.specs.declared.fault.EntryFault.{EntryFault}
use Rattle.zone_scanner.specs.Entries.{Event}
use Rattle.zone_scanner.specs.Steps.{events_from}
use Rattle.zone_texts.specs.GoingOn.{GoesOnAt, fault_in}
use Rattle.zone_texts.specs.Inclusions.{Gathered, entries_read, gathered}
use Rattle.zone_texts.proofs.GoingOn.{breaks, goes_on_same, on_line}
use Rattle.zone_texts.proofs.Parts.{next_entry, no_entry_more, one_entry_more}
use Rattle.zone_texts.proofs.reading.next_part.Goals as goal

pub loop-at-preserved : goal.loop-at-preserved
loop-at-preserved c = record {
  before = c.loop-at.invariant.before;
  fault =
      c.loop-at.invariant.fault
      ∙ ap fault_in (no_entry_more c.args.text.now c.loop-at.at c.in-Ok.count c.loop-at.entries c.take_entry.new.self _ (take_rest c.args.text.now c.loop-at.at) (rw c.in_default.is at c.in-Ok.ensures.ok));
  read = λ begin faultless inner beside.
      c.loop-at.invariant.read begin faultless inner beside
      ∙ ap (λ (es : List Event). entries_read inner beside c.args.part.before es (gathered c.loop-at.context c.loop-at.reading.records.items c.loop-at.reading.sources.lines))
      (no_entry_more c.args.text.now c.loop-at.at c.in-Ok.count c.loop-at.entries c.take_entry.new.self _ (take_rest c.args.text.now c.loop-at.at) (rw c.in_default.is at c.in-Ok.ensures.ok));
}

pub loop-at-preserved-in-Some : goal.loop-at-preserved-in-Some
loop-at-preserved-in-Some c = record {
  fault =
      c.loop-at.invariant.fault
      ∙ ap fault_in (one_entry_more c.args.text.now c.loop-at.at c.in-Ok.count c.loop-at.entries c.take_entry.new.self c.in-Some.entry _ (take_rest c.args.text.now c.loop-at.at) (rw c.in-Some.is at c.in-Ok.ensures.ok));
  before = λ faultless. c.loop-at.invariant.before (c.in_ok-inclusion-in-Ok.ensures.before faultless);
  read = λ begin faultless inner beside.
      let taken = c.in_ok-inclusion-in-Ok.ensures.entry begin faultless inner beside in
      c.loop-at.invariant.read begin (c.in_ok-inclusion-in-Ok.ensures.before faultless) inner beside
      ∙ next_entry inner beside c.args.part.before (events_from (drop c.loop-at.at c.args.text.now) c.loop-at.entries) (events_from (drop (c.loop-at.at + c.in-Ok.count) c.args.text.now) c.take_entry.new.self)
      c.in-Some.entry (gathered c.loop-at.context c.loop-at.reading.records.items c.loop-at.reading.sources.lines) _
      (one_entry_more c.args.text.now c.loop-at.at c.in-Ok.count c.loop-at.entries c.take_entry.new.self c.in-Some.entry _ (take_rest c.args.text.now c.loop-at.at) (rw c.in-Some.is at c.in-Ok.ensures.ok))
      (rw c.in_default-2.is at taken);
}

pub returns-in-Some-2-clause-behind : goal.returns-in-Some-2-clause-behind
returns-in-Some-2-clause-behind c =
    c.loop-at.invariant.fault
    ∙ ap fault_in (one_entry_more c.args.text.now c.loop-at.at c.in-Ok.count c.loop-at.entries c.take_entry.new.self c.in-Some.entry _ (take_rest c.args.text.now c.loop-at.at) (rw c.in-Some.is at c.in-Ok.ensures.ok))

pub returns-in-Some-2-clause-read : goal.returns-in-Some-2-clause-read
returns-in-Some-2-clause-read c = λ begin faultless inner beside.
    let taken = c.in_ok-inclusion-in-Ok.ensures.entry begin faultless inner beside in
    c.loop-at.invariant.read begin (c.in_ok-inclusion-in-Ok.ensures.before faultless) inner beside
    ∙ next_entry inner beside c.args.part.before (events_from (drop c.loop-at.at c.args.text.now) c.loop-at.entries) (events_from (drop (c.loop-at.at + c.in-Ok.count) c.args.text.now) c.take_entry.new.self)
    c.in-Some.entry (gathered c.loop-at.context c.loop-at.reading.records.items c.loop-at.reading.sources.lines) _
    (one_entry_more c.args.text.now c.loop-at.at c.in-Ok.count c.loop-at.entries c.take_entry.new.self c.in-Some.entry _ (take_rest c.args.text.now c.loop-at.at) (rw c.in-Some.is at c.in-Ok.ensures.ok))
    (rw c.in-Some-2.is at taken)

pub returns-in-Err-Fault-clause-behind : goal.returns-in-Err-Fault-clause-behind
returns-in-Err-Fault-clause-behind c =
    let is = c.in-Err-Fault.field-0-is in
    let same : c.in-Err-Fault.field-0 ≡ errors.Fault c.in-Err-Fault.fault = cc in
    let broken = breaks _ (drop c.loop-at.at c.args.text.now) c.loop-at.entries c.in-Err-Fault.fault (take_rest c.args.text.now c.loop-at.at) (c.in-Err-Fault.ensures.fault c.in-Err-Fault.fault same) in
    let ties = c.in-Err-Fault.fault-is in
    let lines = ap (λ (f : EntryFault). f.place.line) ties in
    let start : GoesOnAt c.args.text.now c.in-Err-Fault.fault.place.line c.in_ok-count-in-Err-Fault.count =
    on_line c.args.text.now c.in-Err-Fault.fault.place.line _ c.in_ok-count-in-Err-Fault.count c.in_ok-count-in-Err-Fault.ensures.start (cc) in
    (c.in-Err-Fault.fault, (c.loop-at.invariant.fault ∙ ap fault_in broken, start))

pub returns-clause-behind : goal.returns-clause-behind
returns-clause-behind c =
    goes_on_same (events_from (drop c.args.start c.args.text.now) c.args.entries) (events_from [] c.loop-at.entries) c.args.text.now _
    (c.loop-at.invariant.fault ∙ ap (λ (s : List ℕ). fault_in (events_from s c.loop-at.entries)) (drop_of_length-le c.args.text.now (omega arith)))
    c.in_ok-next.ensures.behind

pub returns-clause-read : goal.returns-clause-read
returns-clause-read c = λ begin faultless inner beside.
    c.loop-at.invariant.read begin (c.in_ok-next.ensures.before faultless) inner beside
    ∙ ap (λ (es : List Event). entries_read inner beside c.args.part.before es (gathered c.loop-at.context c.loop-at.reading.records.items c.loop-at.reading.sources.lines))
    (ap (λ (s : List ℕ). events_from s c.loop-at.entries) (drop_of_length-le c.args.text.now (omega arith)))
    ∙ c.in_ok-next.ensures.read begin faultless inner beside
