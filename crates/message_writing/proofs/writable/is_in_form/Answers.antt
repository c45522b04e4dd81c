use Rattle.std.proofs.Common.{arith, ap, sym, length, ◌∙◌}
use Rattle.message_writing.proofs.InForm.{form_match, in_plain_form, no_form}
use Rattle.message_writing.proofs.writable.is_in_form.Goals as goal

pub returns-then-not-may_have_names : goal.returns-then-not-may_have_names
returns-then-not-may_have_names c =
    in_plain_form c.args.other.now c.record_type-record_type.result.0 c.may_have_names.result
    (omega (arith, c.if-octets-gt65535.false, ap length c.octets-octets.ensures)) (ap (λ t. t.0) c.record_type-record_type.ensures)
    c.may_have_names.ensures c.if-not-may_have_names.true

pub returns-in-Some : goal.returns-in-Some
returns-in-Some c =
    form_match c.args.other.now c.in-Some.read c.has_octets.result c.record_type-record_type.result.0 c.octets-octets.result.now
    (omega (arith, c.if-octets-gt65535.false, ap length c.octets-octets.ensures)) (sym c.in-Some.is ∙ c.in_ok-read.ensures)
    (ap (λ t. t.0) c.record_type-record_type.ensures) c.octets-octets.ensures c.has_octets.ensures

pub returns-in-None : goal.returns-in-None
returns-in-None c =
    no_form c.args.other.now c.record_type-record_type.result.0 c.octets-octets.result.now (sym c.in-None.is ∙ c.in_ok-read.ensures)
    (ap (λ t. t.0) c.record_type-record_type.ensures) c.octets-octets.ensures
