use Rattle.std.proofs.Common.{◌≡◌, ap, sym, ◌∙◌, true≢false, cond, []}
use Rattle.std.specs.Prelude.{Some, None, option_copied}
use Rattle.zone_map.proofs.Walks.{own_cut}
use Rattle.zone_map.proofs.direct.own_referral.Goals as goal

pub returns-then-eq : goal.returns-then-eq
returns-then-eq c m ns soa =
    let below : c.args.name.now ≡ [] → ⊥ = λ e. true≢false (sym (c.is_root.ensures.1 e) ∙ c.if-is_root.false) in
    ap (λ b. cond b None (Some (Some c.in-Some.cut.now))) c.if-eq.ensures
    ∙ sym (own_cut m c.args.name.now c.args.record_type.0 c.in-Some.cut.now below (sym ns ∙ ap option_copied c.in-Some.is) (sym soa ∙ c.if-here.false))
