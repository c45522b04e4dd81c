use Rattle.zone_proto.proofs.Texts.TextForms.{one_form}
use Rattle.zone_proto.proofs.Texts.TextFaults.{read_or_refused, name_has_no_fault, one_fault}
use Rattle.zone_proto.proofs.laws.text_is_read_or_refused.Goals as goal

pub returns : goal.returns
returns c = record { one_name = one_form; either = read_or_refused; not_both = name_has_no_fault; one_fault = one_fault }
