use Rattle.std.proofs.Common.{◌+◌, ◌++◌, ℕ, List, drop, take, true, arith, sym, ap, ◌∙◌}
use Rattle.zone_scanner.specs.Signs.{place_along}
use Rattle.zone_scanner.specs.Steps.{Reader, events_from, hand_of, with_octets}
use Rattle.zone_scanner.specs.contracts.reader.EntryReader.{the_view}
use Rattle.zone_scanner.specs.declared.place.Place.{Place}
use Rattle.zone_scanner.proofs.Runs.{run_taken}
use Rattle.zone_scanner.proofs.reader.EntryReader.take_run.Goals as goal

-- a reader with octets of a word more in its line
abbrev longer : List ℕ → Reader → Reader
longer t r = record r { line = with_octets r.place r.joined t r.line }

pub returns-clause-ok : goal.returns-clause-ok
returns-clause-ok c = λ more.
    let r = c.self.inside in
    let n : ℕ = c.run_length-count.result in
    let left : List ℕ = drop n c.args.rest.now ++ more in
    let made = c.self-2.view_is ∙ c.in_ok-take_octets.ensures.ok ∙ ap (longer (take n c.args.rest.now)) (sym c.self.view_is) in
    ap (events_from (c.args.rest.now ++ more)) (sym c.self.view_is)
    ∙ run_taken r.mode r.group r.is_indented r.words.items c.args.rest.now more n r.place r.is_joined r.size
    (hand_of r.hand r.begin r.is_word_quoted r.is_word_joined r.text.items) (omega arith) c.run_length-count.ensures.within
    c.run_length-count.ensures.go_on (omega (arith, c.room_for.ensures, c.run_length-count.ensures.most))
    ∙ ap (λ (s : Reader). events_from left (record s { place = place_along s.place n; joined = true; size = s.size + n })) (sym made)
    ∙ ap (λ (p : Place). events_from left (record (the_view c.self-2.inside) { place = p; joined = true; size = c.self-2.inside.size + n })) (sym c.along-self-inside.ensures)
