use Rattle.std.proofs.Common.{◌≡◌, ◌++◌, ◌-◌, take, length, sym, ap, ◌∙◌}
use Rattle.std.proofs.Math.Seq.{take-length}
use Rattle.zone_proto.specs.Faults.{fault_of}
use Rattle.zone_proto.specs.Vectors.{octets_of}
use Rattle.zone_response.specs.Dname.{in_place_of}
use Rattle.zone_response.proofs.NewNames.{too_long}
use Rattle.zone_response.proofs.dname.in_place_of.Goals as goal

pub returns-in-Err-clause-ok : goal.returns-in-Err-clause-ok
returns-in-Err-clause-ok c =
    let owner = c.args.owner.now in
    let target = c.args.target.now in
    let x = c.args.name.now in
    let size : c.saturating_sub-count.result ≡ length x - length owner = c.saturating_sub-count.ensures ∙ (λ i. c.num_labels.ensures.count i - c.num_labels-2.ensures.count i) in
    let front : octets_of c.add_labels.new.list.items ≡ take (length x - length owner) x =
    c.in_ok-add_labels.ensures.ok ∙ (λ i. octets_of (c.new-labels.ensures.items i) ++ take (size i) (c.labels.ensures.value i)) in
    let back : take c.num_labels-3.result c.labels-2.result ≡ target = (λ i. take (c.num_labels-3.ensures.count i) (c.labels-2.ensures.value i)) ∙ take-length target in
    let is : octets_of c.add_labels-2.new.list.items ≡ in_place_of owner target x = c.in_ok-add_labels-2.ensures.ok ∙ (λ i. front i ++ back i) in
    too_long owner target x c.in-Err.field-0 c.labels-2.ensures.valid c.labels.ensures.valid.name (sym (ap fault_of is) ∙ c.in-Err.ensures.refusal)
