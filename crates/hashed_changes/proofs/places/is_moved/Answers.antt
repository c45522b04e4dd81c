use Rattle.std.proofs.Common.{rules}
use Rattle.std.proofs.lemmas.Fn.{always_returns_same}
use Rattle.std.proofs.lemmas.List.Sorted.{searchable_from_sorted}
use Rattle.zone_proto.specs.Names.{name_cmp}
use Rattle.zone_proto.proofs.Names.Tree.{name_order}
use Rattle.hashed_changes.specs.declared.places.Affected.{Affected}
use Rattle.hashed_changes.proofs.InOrder.{is_found, isnt_found}
use Rattle.hashed_changes.proofs.places.is_moved.Goals as goal

pub returns-in-Ok : goal.returns-in-Ok
returns-in-Ok c =
    is_found c.args.affected.now c.args.name.now c.in-Ok.field-0 c.in-Ok.ensures.bound
    (c.in-Ok.ensures.position (λ (a : Affected). name_cmp a.place.owner c.args.name.now) (always_returns_same _ _ _ (λ a r q h. search rules)))

pub returns-in-Err : goal.returns-in-Err
returns-in-Err c =
    isnt_found c.args.affected.now c.args.name.now c.in-Err.field-0
    (c.in-Err.ensures.position (λ (a : Affected). name_cmp a.place.owner c.args.name.now) (always_returns_same _ _ _ (λ a r q h. search rules))
    (searchable_from_sorted name_order.total (λ (a : Affected). a.place.owner) c.args.affected.now c.args.name.now c.requires))
