use Rattle.std.proofs.Common.{◌≡◌, ◌||◌, not, false, drop, sym, ap, ◌∙◌, subst}
use Rattle.zone_proto.specs.Names.{is_root, is_wildcard}
use Rattle.zone_map.specs.Walks.{referral_above, FindsAbove}
use Rattle.zone_map.specs.Wildcards.{exists}
use Rattle.zone_map.proofs.NearestNames.{unasked, by_set}
use Rattle.zone_map.proofs.direct.cut_above.Goals as goal

pub cut_above_absent-requires : goal.cut_above_absent-requires
cut_above_absent-requires c =
    record {
      asked = ap (λ b. not (is_root c.args.least.name || is_wildcard c.args.least.name || b)) (sym c.exists-exists.ensures) ∙ sym c.asks_wildcard.ensures ∙ c.if-asks_wildcard.true;
    }

pub returns-clause-found : goal.returns-clause-found
returns-clause-found c =
    let m = c.args.records.now in
    let n = c.args.least.name in
    let unasked_for : not (is_root n || is_wildcard n || exists m n) ≡ false =
    ap (λ b. not (is_root n || is_wildcard n || b)) (sym c.exists-exists.ensures) ∙ sym c.asks_wildcard.ensures ∙ c.if-asks_wildcard.false in
    subst (FindsAbove m n) (sym c.referred_or.ensures)
    (by_set c.referral_above.result _ (FindsAbove m n) (referral_above m (drop 1 n)) (c.referral_above.ensures ∙ ap (referral_above m) c.shorten.ensures) (λ s e. e)
    (λ e. (e, record { known = c.exists-exists.ensures; wildcard_name = unasked m n unasked_for })))
