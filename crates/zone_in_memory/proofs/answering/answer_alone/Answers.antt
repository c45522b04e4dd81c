use Rattle.std.proofs.Common.{ap, sym, ◌∙◌}
use Rattle.std.specs.Prelude.{option_copied}
use Rattle.zone_handler.specs.declared.auth_lookup.AuthLookup.TheVariants as answer
use Rattle.zone_lookup.specs.Flattening.{last_set, flattened}
use Rattle.zone_signing.specs.Signatures.{answer_signatures}
use Rattle.zone_lookup.proofs.Chasing.{no_value}
use Rattle.zone_in_memory.proofs.AnswerSections.{has_one, stays_alone, nothing_before, stays_without, none_beside, is_flattened, stands_first, some_left}
use Rattle.zone_in_memory.proofs.answering.answer_alone.Goals as goal
use Rattle.zone_in_memory.proofs.answering.answer_alone.Goals.{in_default-via-in-Some+else-stands_for_addresses, in_default-via-in_default}

pub returns-in_default-clause-answer : goal.returns-in_default-clause-answer
returns-in_default-clause-answer g c =
    let sign = (answer_signatures g.S.Signer.signature_of c.args.now c.args.lookup_options.dnssec_ok c.args.zone.now.signers) in
    let more = c.in_ok-more.more.items in
    let section = c.with_additionals.ensures in (
      more,
      c.in_ok-more.ensures.more,
      elim c.in_default.branch [
        | in_default-via-in-Some+else-stands_for_addresses w ↦
            let stands = sym w.stands_for_addresses.ensures ∙ w.if-stands_for_addresses.false in
            has_one c.args.lookup_options c.args.set _ _ more section.0 c.with_additionals.result (section.1 ∙ ap (λ x. answer.Records x section.0) c.new-answers.ensures) (stays_alone sign c.args.record_type.0 c.args.set more stands) (nothing_before sign c.args.record_type.0 c.args.set more stands) section.2
        | in_default-via-in_default w ↦
            let none = sym (ap last_set c.deref.ensures.value) ∙ sym c.last.ensures.value ∙ ap option_copied (no_value c.last.result w.in_default.not-Some) in
            has_one c.args.lookup_options c.args.set _ _ more section.0 c.with_additionals.result (section.1 ∙ ap (λ x. answer.Records x section.0) c.new-answers.ensures) (stays_without sign c.args.record_type.0 c.args.set more none) (none_beside sign c.args.record_type.0 c.args.set more none) section.2
      ],
    )

pub returns-clause-answer : goal.returns-clause-answer
returns-clause-answer g c =
    let sign = (answer_signatures g.S.Signer.signature_of c.args.now c.args.lookup_options.dnssec_ok c.args.zone.now.signers) in
    let more = c.in_ok-more.more.items in
    let section = c.with_additionals-2.ensures in
    let stands = sym c.stands_for_addresses.ensures ∙ c.if-stands_for_addresses.true in
    let last = sym (ap last_set c.deref.ensures.value) ∙ sym c.last.ensures.value ∙ ap option_copied c.in-Some.is in (
      more,
      c.in_ok-more.ensures.more,
      has_one c.args.lookup_options c.in_ok-flattened-in-Some.flattened _ _ c.put_first.new.sets.items section.0 c.with_additionals-2.result (section.1 ∙ ap (λ x. answer.Records x section.0) c.new-answers-2.ensures)
          (is_flattened sign c.args.record_type.0 c.args.set more c.in-Some.last.now last stands
          ∙ sym (c.in_ok-flattened-in-Some.ensures.made ∙ ap (λ ss. flattened (answer_signatures g.S.Signer.signature_of c.args.now c.args.lookup_options.dnssec_ok ss) c.args.set c.args.record_type.0 c.in-Some.last.now) c.signers.ensures))
          (stands_first sign c.args.record_type.0 c.args.set more stands (some_left sign c.args.record_type.0 c.args.set more c.in-Some.last.now last) ∙ sym c.in_ok-put_first.ensures.ok)
          section.2,
    )
