use Rattle.std.proofs.Common.{◌≡◌, ◌≢◌, ◌==◌, ℕ, zero, suc, length, List, false, Some, rules, sym, ap, ◌∙◌, arith, length-append}
use Rattle.message_reading.specs.Octets.{counted_of}
use Rattle.zone_file_writer.proofs.NameLengths.{label_more}
use Rattle.zone_file_writer.proofs.StringFacts.{front}
use Rattle.zone_file_writer.proofs.fronts.name_length.Goals as goal

some_octets : (n : ℕ) → (n == 0) ≡ false → n ≢ 0
some_octets zero h = absurd (cc)
some_octets (suc n) h = λ e. omega arith

pub loop-label-preserved : goal.loop-label-preserved
loop-label-preserved c =
    let label : List ℕ = c.in-Some.label.now in
    let others : List ℕ = c.in-Some.others.now in
    let rest : List ℕ = c.loop-label.rest.now in
    let split : counted_of rest ≡ Some (label, others) = search rules in
    let some : length label ≢ 0 = some_octets (length label) (sym c.is_empty.ensures ∙ c.if-is_empty.false) in
    record {
      counted = sym (label_more c.loop-label.count rest label others split some) ∙ c.loop-label.invariant.counted;
      within = omega (arith, ap length (front rest label others split).all, length-append label others);
    }
