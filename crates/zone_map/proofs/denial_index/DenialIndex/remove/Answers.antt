use Rattle.std.proofs.Common.{◌∙◌, eqb-true, sym}
use Rattle.zone_proto.specs.Types.{NSEC, NSEC3}
use Rattle.zone_map.proofs.OwnersKept.{nsec_removed, nsec3_removed, none_removed}
use Rattle.zone_map.proofs.denial_index.DenialIndex.remove.Goals as goal

pub returns-then-eq : goal.returns-then-eq
returns-then-eq c = λ m h.
    nsec_removed m c.args.key.now (record { nsec = c.self.inside.nsec.keys; nsec3 = c.self.inside.nsec3.keys }) c.remove.new.self.keys
    (eqb-true c.args.key.now.record_type.0 NSEC (sym c.eq.ensures ∙ c.if-eq.true)) (c.self.view_is ∙ h) c.remove.ensures.keys

pub returns-then-eq-2 : goal.returns-then-eq-2
returns-then-eq-2 c = λ m h.
    nsec3_removed m c.args.key.now (record { nsec = c.self.inside.nsec.keys; nsec3 = c.self.inside.nsec3.keys }) c.remove-then-eq-2.new.self.keys
    (eqb-true c.args.key.now.record_type.0 NSEC3 (sym c.eq-else-eq.ensures ∙ c.if-eq-2.true)) (c.self.view_is ∙ h) c.remove-then-eq-2.ensures.keys

pub returns-else-eq-2 : goal.returns-else-eq-2
returns-else-eq-2 c = λ m h. none_removed m c.args.key.now c.args.self.now (sym c.eq.ensures ∙ c.if-eq.false) (sym c.eq-else-eq.ensures ∙ c.if-eq-2.false) h
