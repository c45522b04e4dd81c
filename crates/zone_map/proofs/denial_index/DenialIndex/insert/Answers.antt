use Rattle.std.proofs.Common.{◌∙◌, eqb-true, sym, Result, Ok, Err}
use Rattle.std.specs.Prelude.{OnOk}
use Rattle.zone_proto.specs.Types.{NSEC, NSEC3}
use Rattle.zone_map.proofs.OwnersKept.{nsec_put, nsec3_put, none_put}
use Rattle.zone_map.proofs.denial_index.DenialIndex.insert.Goals as goal

-- what follows of an answer that isn't a refusal
follows : {A E : Type 0} {P Q : Type 0} (r : Result A E) → OnOk r P → (P → Q) → OnOk r Q
follows (Ok x) p f = f p
follows (Err e) p f = tt

pub returns-then-eq-clause-ok : goal.returns-then-eq-clause-ok
returns-then-eq-clause-ok c =
    follows c.insert_owner.result c.insert_owner.ensures.ok
    (λ made m set zone h. nsec_put m c.args.key.now set (record { nsec = c.self.inside.nsec.keys; nsec3 = c.self.inside.nsec3.keys }) c.insert_owner.new.owners.keys
    (eqb-true c.args.key.now.record_type.0 NSEC (sym c.eq.ensures ∙ c.if-eq.true)) zone.ordered (c.self.view_is ∙ h) made)

pub returns-then-eq-2-clause-ok : goal.returns-then-eq-2-clause-ok
returns-then-eq-2-clause-ok c =
    follows c.insert_owner-then-eq-2.result c.insert_owner-then-eq-2.ensures.ok
    (λ made m set zone h. nsec3_put m c.args.key.now set (record { nsec = c.self.inside.nsec.keys; nsec3 = c.self.inside.nsec3.keys }) c.insert_owner-then-eq-2.new.owners.keys
    (eqb-true c.args.key.now.record_type.0 NSEC3 (sym c.eq-else-eq.ensures ∙ c.if-eq-2.true)) zone.ordered (c.self.view_is ∙ h) made)

pub returns-else-eq-2-clause-ok : goal.returns-else-eq-2-clause-ok
returns-else-eq-2-clause-ok c = λ m set zone h.
    none_put m c.args.key.now set c.args.self.now (sym c.eq.ensures ∙ c.if-eq.false) (sym c.eq-else-eq.ensures ∙ c.if-eq-2.false) h
