use Rattle.std.proofs.Common.{Bor, ◌≡◌, sym, ap, ◌∙◌, subst}
use Rattle.std.specs.Prelude.{Option, Some, None, IfOk, option_copied, unwrap_or}
use Rattle.std.specs.Option.{option_or}
use Rattle.std.proofs.lemmas.Result.{IfOk-weaker}
use Rattle.zone_proto.specs.declared.rr_key.RrKey.{RrKey}
use Rattle.zone_proto.specs.Sets.{RRset}
use Rattle.zone_map.specs.Direct.{exact, direct}
use Rattle.zone_map.specs.Walks.{referral_above, referral_seen, FindsAbove, FindsDirect}
use Rattle.zone_map.proofs.NearestNames.{delegated_exists, delegated_asks_none, by_set, direct_from_above}
use Rattle.zone_map.proofs.Walks.{direct_above, direct_own}
use Rattle.zone_map.proofs.direct.find.Goals as goal

-- a referral, or else a set that is lent
referral_or_set : (o : Option (Bor RRset)) (s u : Bor RRset) (x : Option RRset) → u ≡ unwrap_or o s → x ≡ Some s.now → option_or (option_copied o) x ≡ Some u.now
referral_or_set None s u x e h = h ∙ ap (λ (r : Bor RRset). Some r.now) (sym e)
referral_or_set (Some r) s u x e h = ap (λ (r : Bor RRset). Some r.now) (sym e)

pub returns-in-Cut-clause-found : goal.returns-in-Cut-clause-found
returns-in-Cut-clause-found c =
    let m = c.args.records.now in
    let t = c.args.key.record_type.0 in
    let own = sym (c.own_referral.ensures m c.at_name-here.ensures.ns c.at_name-here.ensures.soa) ∙ ap referral_seen c.in-Cut.is in
    subst (λ (k : RrKey). direct m k.name t ≡ Some c.in-Cut.cut.now) c.new-least.ensures.value (direct_own m c.new-least.result.name t (Some c.in-Cut.cut.now) own)

pub returns-in-Apex-clause-found : goal.returns-in-Apex-clause-found
returns-in-Apex-clause-found c =
    let m = c.args.records.now in
    let n = c.new-least.result.name in
    let t = c.args.key.record_type.0 in
    let own = sym (c.own_referral.ensures m c.at_name-here.ensures.ns c.at_name-here.ensures.soa) ∙ ap referral_seen c.in-Apex.is in
    subst (λ (k : RrKey). FindsDirect m k.name t c.found_at_apex.result) c.new-least.ensures.value
    (subst (FindsDirect m n t) (sym c.found_at_apex.ensures)
    (by_set c.at_name-here.result.exact _ (FindsDirect m n t) (exact m n t) c.at_name-here.ensures.exact (λ s e. direct_own m n t None own ∙ e)
    (λ e. (direct_own m n t None own ∙ e, record { known = delegated_exists m n t None own; wildcard_name = delegated_asks_none m n t None own }))))

pub returns-in-Some-clause-found : goal.returns-in-Some-clause-found
returns-in-Some-clause-found c =
    let m = c.args.records.now in
    let n = c.new-least.result.name in
    let t = c.args.key.record_type.0 in
    let own = sym (c.own_referral.ensures m c.at_name-here.ensures.ns c.at_name-here.ensures.soa) ∙ ap referral_seen c.in-Nothing.is in
    subst (λ (k : RrKey). direct m k.name t ≡ Some c.unwrap_or.result.now) c.new-least.ensures.value
    (direct_above m n t (option_copied c.referral_above.result) own (ap (referral_above m) (sym c.shorten.ensures) ∙ sym c.referral_above.ensures)
    ∙ referral_or_set c.referral_above.result c.in-Some.set c.unwrap_or.result _ c.unwrap_or.ensures (sym c.at_name-here.ensures.exact ∙ ap option_copied c.in-Some.is))

pub returns-clause-found : goal.returns-clause-found
returns-clause-found c =
    let m = c.args.records.now in
    let n = c.new-least.result.name in
    let t = c.args.key.record_type.0 in
    let own = sym (c.own_referral.ensures m c.at_name-here.ensures.ns c.at_name-here.ensures.soa) ∙ ap referral_seen c.in-Nothing.is in
    subst (λ (k : RrKey). IfOk c.cut_above.result (FindsDirect m k.name t)) c.new-least.ensures.value
    (IfOk-weaker c.cut_above.result (FindsAbove m n) (FindsDirect m n t) (λ found h. direct_from_above m n t found own (sym c.at_name-here.ensures.exact ∙ ap option_copied c.in-None.is) h) c.cut_above.ensures.found)
