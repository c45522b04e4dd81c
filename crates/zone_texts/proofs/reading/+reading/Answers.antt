use Rattle.std.proofs.Common.{◌≡◌, ◌∙◌, ap, drop, refl, subst}
use Rattle.zone_scanner.specs.Entries.{events_of}
use Rattle.zone_scanner.specs.Steps.{events_from}
use Rattle.zone_texts.specs.declared.state.Part.{Part}
use Rattle.zone_texts.specs.declared.state.Reading.{Reading}
use Rattle.zone_texts.specs.Inclusions.{entries_read, file_read, gathered}
use Rattle.zone_texts.specs.Readings.{IsFaultless}
use Rattle.zone_texts.proofs.Parts.{goes_on_behind, goes_on_with, included_whole}
use Rattle.zone_texts.proofs.reading.+reading.Goals as goal
use Rattle.zone_texts.proofs.reading.+reading.Goals.{read_text-in-Cut, read_text-in-Include+in_ok-include-in-Include}

pub include-returns-clause-read : goal.include-returns-clause-read
include-returns-clause-read g t c = λ faultless files known.
    let opened = (rw c.in-Some.is at c.in_ok-opened.ensures.some) files known in
    let own : c.open.new.reading.records.items ≡ c.args.reading.now.records.items = rw c.in_ok-opened.ensures.records refl in
    included_whole files c.args.depth c.args.name.now c.args.inclusion.name.items c.as_slice.result.now c.args.inclusion.origin
    c.args.context.now c.enter.new.context c.leave-2.new.context c.args.reading.now.records.items c.open.new.reading.records.items
    c.args.reading.now.sources.lines c.open.new.reading.sources.lines c.in-Some.opened c.as_str.result.now c.as_slice-2.result.now
    (gathered c.read_text.new.context c.read_text.new.reading.records.items c.read_text.new.reading.sources.lines)
    c.as_slice.ensures.value opened c.as_str.ensures.value c.as_slice-2.ensures.value c.in_ok-outer.ensures.inner own
    (c.in_ok-read_text.ensures.read opened.begin faultless files (c.in_ok-opened.ensures.known ∙ known))
    (rw c.in_ok-outer.ensures.outer at c.leave-2.ensures)

pub read_text-parts-preserved : goal.read_text-parts-preserved
read_text-parts-preserved g t c = elim c.match-branch-3.branch [
  | read_text-in-Cut w ↦
      let told = rw w.in-Cut.is at c.in_ok-next_part.ensures.cut in
      let none = λ (f : IsFaultless c.match-branch-3.reading). told (subst (λ (r : Reading). IsFaultless r) w.reading-is f) in
      record {
        faultless = λ f. absurd (none f);
        known = rw w.texts-is c.parts.invariant.known;
        begin = λ f z. absurd (none f);
        before = ap (λ (p : Part). p.before) w.part-is ∙ c.parts.invariant.before;
        read = λ z f files known. absurd (none f);
      }
  | read_text-in-Include+in_ok-include-in-Include w ↦
      let behind = λ (f : IsFaultless c.match-branch-3.reading). w.in_ok-include-in-Include.ensures.before (subst (λ (r : Reading). IsFaultless r) w.reading-is f) in
      let earlier = λ (f : IsFaultless c.match-branch-3.reading). c.in_ok-next_part.ensures.before (behind f) in
      record {
        faultless = λ f. c.parts.invariant.faultless (earlier f);
        known = rw w.texts-is (w.in_ok-include-in-Include.ensures.known ∙ c.parts.invariant.known);
        begin = λ f z. rw w.part-is (c.parts.invariant.begin (earlier f) z);
        before = ap (λ (p : Part). p.before) w.part-is ∙ c.parts.invariant.before;
        read = λ z f files known.
            let read = (rw w.in-Include.is at c.in_ok-next_part.ensures.read) (c.parts.invariant.begin (earlier f) z) (behind f) (file_read files c.args.depth) (files.beside c.args.name.now) in
            let inner = w.in_ok-include-in-Include.ensures.read (subst (λ (r : Reading). IsFaultless r) w.reading-is f) files (c.parts.invariant.known ∙ known) in
            let rests : drop c.match-branch-3.at c.match-branch-3.rest.now ≡ drop w.in-Include.count c.parts.rest.now = rw (w.at-is, w.rest-is) refl in
            let states : gathered c.match-branch-3.context c.match-branch-3.reading.records.items c.match-branch-3.reading.sources.lines ≡ gathered w.include.new.context w.include.new.reading.records.items w.include.new.reading.sources.lines = rw (w.context-is, w.reading-is) refl in
            goes_on_with (file_read files c.args.depth) (files.beside c.args.name.now) c.args.part.before _ _ _ _ _ _ _
            (goes_on_behind (file_read files c.args.depth) (files.beside c.args.name.now) c.args.part.before c.parts.part.before _ _ _ _ _ _
            (c.parts.invariant.read z (earlier f) files known) c.parts.invariant.before read inner)
            rests w.entries-is states;
      }
]
