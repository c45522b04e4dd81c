use Rattle.std.proofs.Common.{◌≡◌, refl, ap, sym, ◌∙◌, true, false}
use Rattle.zone_proto.specs.Types.{has_own_case}
use Rattle.message_reading.specs.OtherForms.{in_form}
use Rattle.message_reading.proofs.DataCases.{other_none, other_some}
use Rattle.message_reading.proofs.other_data.other_data_of.Goals as goal

pub returns-in_default : goal.returns-in_default
returns-in_default c =
    other_none c.args.record_type.0 c.args.message.now c.args.at c.args.octets.now c.requires.other
    (rw c.in_default.is at c.in_ok-plain.ensures ∙ ap (λ f. in_form f c.args.message.now c.args.at c.args.octets.now) c.form_of.ensures)

pub returns-in-None : goal.returns-in-None
returns-in-None c =
    let own : has_own_case c.args.record_type.0 ≡ true = c.in-None.ensures.none.0 refl in
    let clash : true ≡ false = sym own ∙ c.requires.other in
    absurd cc

pub returns-in-Some-new : goal.returns-in-Some-new
returns-in-Some-new c =
    other_some c.args.record_type c.in-Some-new.other c.in-Some.plain.items c.args.message.now c.args.at c.args.octets.now c.in-Some-new.ensures.some
    c.in-Some-new.ensures.octets
    (rw c.in-Some.is at c.in_ok-plain.ensures ∙ ap (λ f. in_form f c.args.message.now c.args.at c.args.octets.now) c.form_of.ensures)
