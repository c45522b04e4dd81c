use Rattle.std.proofs.Common.{Result, Ok, Err, sym, ap, ◌∙◌}
use Rattle.std.specs.Prelude.{OnOk}
use Rattle.zone_map.specs.DenialOwners.{Listed}
use Rattle.zone_map.proofs.OwnerIndexes.{denial_listed, others_of, other_listed}
use Rattle.zone_map.proofs.owner_index.OwnerIndex.insert.Goals as goal

-- what follows of an answer that isn't a refusal
follows : {A E : Type 0} {P Q : Type 0} (r : Result A E) → OnOk r P → (P → Q) → OnOk r Q
follows (Ok x) p f = f p
follows (Err e) p f = tt

pub returns-then-not-is_denial_type-clause-ok : goal.returns-then-not-is_denial_type-clause-ok
returns-then-not-is_denial_type-clause-ok c =
    follows c.insert_other.result c.insert_other.ensures.others
    (λ more set zone is. other_listed c.args.sets.now c.args.key.now set (sym c.is_denial_type.ensures ∙ c.if-not-is_denial_type.true) zone.ordered c.args.self.now c.insert_other.new.self is c.insert_other.ensures.denials more)

pub returns-then-not-is_empty-clause-ok : goal.returns-then-not-is_empty-clause-ok
returns-then-not-is_empty-clause-ok c =
    follows c.insert.result c.insert.ensures.ok
    (λ made set zone is.
    denial_listed c.args.sets.now c.args.key.now set (sym c.is_denial_type.ensures ∙ c.if-not-is_denial_type.false) zone.ordered c.insert.new.self c.self.inside.others.keys
    (made c.args.sets.now set zone (ap (λ (l : Listed). l.denials) (c.self.view_is ∙ is)))
    (others_of c.args.sets.now (record { denials = c.self.inside.denials; others = c.self.inside.others.keys }) (c.self.view_is ∙ is) (sym c.is_empty.ensures ∙ c.if-not-is_empty.true)))

pub returns-clause-ok : goal.returns-clause-ok
returns-clause-ok c = λ set zone is.
    denial_listed c.args.sets.now c.args.key.now set (sym c.is_denial_type.ensures ∙ c.if-not-is_denial_type.false) zone.ordered c.insert-2.new.self c.in_ok-others.others.keys
    (c.in_ok-insert.ensures.ok c.args.sets.now set zone (ap (λ (l : Listed). l.denials) (c.self.view_is ∙ is))) c.in_ok-others.ensures.ok
