use Rattle.std.proofs.Common.{◌≡◌, ◌++◌, ◌∷◌, [], rules, arith}
use Rattle.std.proofs.lemmas.Grind.{common_steps}
use Rattle.key_files.specs.Entries.{words_before}
use Rattle.key_files.proofs.Entries.{entry_read}
use Rattle.key_files.proofs.reading.entries_of.Goals as goal

pub loop-entries-preserved : goal.loop-entries-preserved
loop-entries-preserved c =
    let first : c.loop-entries.rest.now ≡ words_before c.in-Some.key c.in-Some.more.now = first_of (search rules, grind (arith, common_steps)) in
    let pushed : c.push.new.self.items ≡ c.loop-entries.entries.items ++ c.in_ok-entry.entry ∷ [] = first_of (search rules, grind (arith, common_steps)) in
    rw pushed
    (entry_read c.args.text.now c.args.words.now c.loop-entries.rest.now c.in-Some.more.now c.loop-entries.entries.items c.in-Some.key
    c.in_ok-entry.entry first c.in_ok-entry.ensures.entry c.loop-entries.invariant)
