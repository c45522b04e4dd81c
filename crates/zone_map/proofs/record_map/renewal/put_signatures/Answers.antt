use Rattle.std.proofs.Common.{drop, refl, rules}
use Rattle.std.specs.Vec.Iter.{into_iter_items}
use Rattle.zone_map.proofs.Renewing.{signatures_put}
use Rattle.zone_map.proofs.record_map.renewal.put_signatures.Goals as goal

pub returns : goal.returns
returns c =
    λ made handed.
    signatures_put _ (λ f. into_iter_items f.0.now) (λ f. drop f.2.now f.1.now) (λ f k v b w f' t x part rest list left ls rs is. search rules) _ c.args.sets.now c.retain.new.self
    made c.args.lists.items c.args.exchanged c.into_iter-left.ensures.rest refl handed c.retain.ensures
