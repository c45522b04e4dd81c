use Rattle.std.proofs.Common.{rules}
use Rattle.std.specs.Prelude.{not}
use Rattle.std.proofs.lemmas.Map.Made.{filter_same_pairs}
use Rattle.zone_map.specs.Upserts.{is_denial_type}
use Rattle.zone_map.proofs.record_map.puts.remove_denials.Goals as goal

pub returns : goal.returns
returns c =
    filter_same_pairs _ (λ e. not (is_denial_type e.0.record_type.0)) _ (λ k v b w f' t. search rules)
    c.args.sets.now c.retain.new.self c.retain.ensures
