use Rattle.std.proofs.Common.{◌≡◌, ℕ, List, ◌==◌, ◌&&◌, Bool, ap, ◌∙◌}
use Rattle.std.specs.Prelude.{Option, None, if◌then◌else◌}
use Rattle.std.specs.List.{list_any}
use Rattle.std.specs.Option.{option_or}
use Rattle.zone_proto.specs.Keys.{key, key_eq}
use Rattle.zone_proto.specs.Sets.{RRset}
use Rattle.zone_proto.specs.declared.rr_key.RrKey.{RrKey}
use Rattle.zone_map.specs.Zones.{Sets, set_at}
use Rattle.zone_trimming.specs.Trimming.{trimmed_at}
use Rattle.signed_changes.proofs.PutSets.{nsec_among}
use Rattle.signed_changes.proofs.renewing.put_renewed.Goals as goal

pub returns-clause-put : goal.returns-clause-put
returns-clause-put c = λ n t.
    let old = set_at c.args.zone.now n t in
    let made = trimmed_at (set_at c.args.sets) n t in
    c.in_ok-put_sets.ensures.put n t
    ∙ ap (λ (o : Option RRset). option_or o (if list_any (key_eq (key n t)) c.as_slice.result.now then None else old))
    (ap (λ (m : Sets). set_at m n t) c.in_ok-made.ensures.ok ∙ c.in_ok-trimmed.ensures.ok n t)
    ∙ ap (λ (ks : List RrKey). option_or made (if list_any (key_eq (key n t)) ks then None else old)) (c.as_slice.ensures.value ∙ c.in_ok-gone.ensures.ok)
    ∙ ap (λ (b : Bool). option_or made (if b then None else old)) (nsec_among n t c.args.names.now)
