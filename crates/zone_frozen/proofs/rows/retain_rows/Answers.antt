use Rattle.std.proofs.Common.{rules}
use denote.Param.Always.{Mut-at_two, mut_total}
use Rattle.zone_frozen.proofs.Retained.{retained, sorted_kept}
use Rattle.zone_frozen.proofs.rows.retain_rows.Goals as goal

pub retain_mut-requires : goal.retain_mut-requires
retain_mut-requires g c = mut_total _ _ (λ s a. Mut-at_two _ _ c.requires.pre)

pub returns-clause-kept : goal.returns-clause-kept
returns-clause-kept g c =
    retained _ _ (λ f. f.0.now) (λ f e b d h t. search rules) _ c.args.rows.now.items c.retain_mut.new.self.items c.retain_mut.ensures.filtered

pub returns-clause-ordered : goal.returns-clause-ordered
returns-clause-ordered g c =
    sorted_kept _ _ c.args.rows.now.items c.retain_mut.new.self.items (returns-clause-kept g c) c.requires.ordered
