use Rattle.std.proofs.Common.{ℕ, List, Bor, refl, sym, ap, ◌∙◌}
use Rattle.std.specs.Prelude.{option_map}
use Rattle.message_reading.specs.declared.header.Header.{Header}
use Rattle.ready_answers.proofs.Readdressed.{put_behind, written_again}
use Rattle.ready_answers.proofs.again.put_again.Goals as goal

pub returns-clause-again : goal.returns-clause-again
returns-clause-again c done limit before after written again =
    written_again before after c.args.query.now again limit c.args.ready.now c.extend_from_slice.new.self.items written c.in-Some.header c.in-Some.field-0-1.now
    (sym c.read_header.ensures ∙ ap (option_map (λ (x : Header × Bor (List ℕ)). (x.0, x.1.now))) c.in-Some.is)
    (put_behind c.clear.new.self.items c.push_header.new.out.items c.extend_from_slice.new.self.items _ c.args.ready.now _
    c.clear.ensures.items c.in_ok-push_header.ensures refl c.in_ok-extend_from_slice.ensures.items)
