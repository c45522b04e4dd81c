use Rattle.std.proofs.Common.{◌≡◌, [], ◌∷◌, ◌++◌, ap, sym, ◌∙◌}
use Rattle.zone_map.specs.Puts.{with_before}
use Rattle.zone_map.specs.Zones.{Sets}
use Rattle.zone_map.proofs.Putting.{with_before-push}
use Rattle.zone_map.proofs.record_map.puts.put_back.Goals as goal

pub loop-key-preserved : goal.loop-key-preserved
loop-key-preserved c =
    let m = c.loop-key.sets in
    let k = c.in-Some-pop.key in
    let items : c.loop-key.exchanged.items ≡ c.pop.new.self.items ++ (k, c.in-Some-pop.stood) ∷ [] = c.in-Some-pop.ensures.items in
    ap (λ (n : Sets). with_before n c.pop.new.self.items) c.replace.ensures.put ∙ sym (with_before-push m c.pop.new.self.items k c.in-Some-pop.stood) ∙ sym (ap (with_before m) items) ∙ c.loop-key.invariant
