use Rattle.std.proofs.Common.{◌≡◌, ℕ, List, ap, ◌∙◌}
use Rattle.zone_proto.specs.Names.{Name}
use Rattle.zone_map.specs.Zones.{set_at}
use Rattle.zone_trimming.specs.Trimming.{trimmed_at}
use Rattle.signed_changes.specs.Renewing.{changed_keys, with_renewed}
use Rattle.signed_changes.proofs.PutSets.{others_put, kept_put, is_renewed_put}
use Rattle.signed_changes.proofs.renewing.renew_chain.Goals as goal
use Rattle.signed_changes.proofs.renewing.renew_chain.Goals.{In_ok-put_renewed}

-- what stands under each key
stands : (c : In_ok-put_renewed) (n : Name) (t : ℕ)
    → set_at c.put_renewed.new.zone n t ≡ with_renewed c.in_ok-names.field-0.names.items (trimmed_at (set_at c.in_ok-names.field-0.sets)) (set_at c.args.zone.now) n t
stands c n t =
    c.in_ok-put_renewed.ensures.put n t
    ∙ ap (λ (ns : List Name). with_renewed ns (trimmed_at (set_at c.in_ok-names.field-0.sets)) (set_at c.args.zone.now) n t) c.as_slice.ensures.value

pub returns-clause-renewed : goal.returns-clause-renewed
returns-clause-renewed c =
    is_renewed_put c.args.origin.now (changed_keys c.args.changed.now.before c.args.changed.now.after) c.in_ok-names.field-0.names.items c.args.zone.now c.put_renewed.new.zone c.args.ttl c.args.serial
    c.in_ok-names.field-0.sets c.in_ok-names.ensures.names c.in_ok-names.ensures.sets (stands c)

pub returns-clause-others : goal.returns-clause-others
returns-clause-others c =
    others_put c.args.origin.now (changed_keys c.args.changed.now.before c.args.changed.now.after) c.in_ok-names.field-0.names.items c.args.zone.now c.put_renewed.new.zone c.args.ttl c.args.serial
    c.in_ok-names.field-0.sets c.in_ok-names.ensures.names c.in_ok-names.ensures.sets (stands c)

pub returns-clause-kept : goal.returns-clause-kept
returns-clause-kept c =
    kept_put c.args.origin.now (changed_keys c.args.changed.now.before c.args.changed.now.after) c.in_ok-names.field-0.names.items c.args.zone.now c.put_renewed.new.zone c.args.ttl c.args.serial
    c.in_ok-names.field-0.sets c.in_ok-names.ensures.names c.in_ok-names.ensures.sets (stands c)
