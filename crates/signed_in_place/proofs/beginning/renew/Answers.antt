use Rattle.std.proofs.Common.{◌≡◌, ℕ, ◌||◌, Bool, false, List, sym, ap, ◌∙◌, subst}
use Rattle.zone_proto.specs.Names.{Name, name_eq}
use Rattle.zone_proto.proofs.Names.Tree.{name_eq_itself}
use Rattle.zone_map.specs.Zones.{names_of}
use Rattle.zone_denial.specs.NsecSets.{nsec_set_at}
use Rattle.zone_trimming.specs.Trimming.{trimmed_at}
use Rattle.update_in_place.specs.Parts.{is_among}
use Rattle.chain_changes.specs.Renewal.{IsRenewed}
use Rattle.signed_changes.specs.Renewing.{changed_keys}
use Rattle.signed_changes.specs.Signing.{IsDue}
use Rattle.signed_in_place.proofs.OwnersPushed.{none_of_three, origin_there}
use Rattle.signed_in_place.proofs.Unowned.{each_type}
use Rattle.signed_in_place.proofs.beginning.renew.Goals as goal

pub returns-clause-begun : goal.returns-clause-begun
returns-clause-begun c =
    let origin = c.args.origin.now in
    let zone = c.args.zone.now in
    let new = c.renew_chain.new.zone in
    let before = c.args.changed.now.before in
    let after = c.args.changed.now.after in
    let first = c.in_ok-renewed.renewed.items in
    let all = c.push_owners-2.new.names.items in
    let among : (n : Name) → is_among all n ≡ (((is_among first n || name_eq n origin) || is_among (names_of before) n) || is_among (names_of after) n) = λ n.
    c.in_ok-push_owners-2.ensures.ok n
    ∙ ap (λ (b : Bool). b || is_among (names_of after) n)
    (c.in_ok-push_owners.ensures.ok n ∙ ap (λ (b : Bool). b || is_among (names_of before) n) (c.in_ok-push_once.ensures.ok n)) in
    let three = λ (n : Name) (h : is_among all n ≡ false).
    none_of_three (is_among first n) (name_eq n origin) (is_among (names_of before) n) (is_among (names_of after) n) (sym (among n) ∙ h) in
    record {
      renewed =
          subst (λ (p : ℕ × ℕ). IsRenewed origin (changed_keys before after) zone (trimmed_at (nsec_set_at origin zone p.0 p.1)) new) c.in_ok-ttl.ensures.ok c.in_ok-renewed.ensures.renewed;
      data' = c.in_ok-renewed.ensures.others;
      others = λ n t h. each_type new zone n t (c.in_ok-renewed.ensures.others n t) (c.in_ok-renewed.ensures.kept n (three n h).0);
      owners = λ n h. ((three n h).1, (three n h).2);
      apex =
          among origin ∙ origin_there (is_among first origin) (name_eq origin origin) (is_among (names_of before) origin) (is_among (names_of after) origin) (name_eq_itself origin);
      due = subst (λ (ns : List Name). IsDue origin c.args.keys.now c.args.request.now ns new c.in_ok-plan.plan.records) c.as_slice.ensures.value c.in_ok-plan.ensures.due;
      planned = c.in_ok-plan.ensures.keys;
    }
