use Rattle.std.proofs.Common.{◌≡◌, ◌||◌, not, true, [], ◌∷◌, drop, refl, sym, ap, ◌∙◌, subst}
use Rattle.std.specs.Prelude.{Some, None, find}
use Rattle.zone_proto.specs.declared.rr_key.RrKey.{RrKey}
use Rattle.zone_proto.specs.Names.{Name, is_root, is_wildcard, suffixes}
use Rattle.zone_map.specs.Walks.{referral_above, IsChild, FindsAbove}
use Rattle.zone_map.specs.Wildcards.{exists}
use Rattle.zone_map.specs.Zones.{Sets}
use Rattle.zone_map.proofs.ExistingNames.{above_encloser}
use Rattle.zone_map.proofs.NearestNames.{absent_where_asked, asked_of_nearest, unreferred_without, wildcard_of_nearest, by_set}
use Rattle.zone_map.proofs.direct.cut_above_absent.Goals as goal

-- a name for which a wildcard is asked isn't the root, so that it is the child of its parent
child_of_parent : (m : Sets) (n : Name) → not (is_root n || is_wildcard n || exists m n) ≡ true → IsChild n (drop 1 n)
child_of_parent m [] h = cc
child_of_parent m (l ∷ n) h = (l, refl)

pub nearest_existing-requires-clause-longer : goal.nearest_existing-requires-clause-longer
nearest_existing-requires-clause-longer c =
    let above = ap (λ (k : RrKey). k.name) c.new-above.ensures.value ∙ c.in_ok-base_name.ensures.ok in
    subst (IsChild c.args.name) (sym above) (child_of_parent c.args.records.now c.args.name c.requires.asked)

pub returns-in_default-clause-found : goal.returns-in_default-clause-found
returns-in_default-clause-found c =
    let m = c.args.records.now in
    let n = c.args.name in
    let above = ap (λ (k : RrKey). k.name) c.new-above.ensures.value ∙ c.in_ok-base_name.ensures.ok in
    let none : find (exists m) (suffixes (drop 1 n)) ≡ None = ap (λ a. find (exists m) (suffixes a)) (sym above) ∙ sym c.in_default.ensures.name in
    (unreferred_without m (drop 1 n) none, record { known = sym (absent_where_asked m n c.requires.asked); wildcard_name = sym (asked_of_nearest m n None c.requires.asked none) })

pub returns-clause-found : goal.returns-clause-found
returns-clause-found c =
    let m = c.args.records.now in
    let n = c.args.name in
    let nearest = c.nearest_existing.new.key.name in
    let above = ap (λ (k : RrKey). k.name) c.new-above.ensures.value ∙ c.in_ok-base_name.ensures.ok in
    let there : find (exists m) (suffixes (drop 1 n)) ≡ Some nearest = ap (λ a. find (exists m) (suffixes a)) (sym above) ∙ sym c.in-Some.ensures.name in
    let wildcard_name = wildcard_of_nearest m n nearest c.nearest_existing.new.longer c.requires.asked there c.in-Some.ensures.longer in
    subst (FindsAbove m n) (sym c.referred_or.ensures)
    (by_set c.referral_from.result _ (FindsAbove m n) (referral_above m (drop 1 n)) (c.referral_from.ensures ∙ sym (above_encloser m (drop 1 n) nearest there)) (λ s e. e)
    (λ e. (e, record { known = sym (absent_where_asked m n c.requires.asked); wildcard_name = wildcard_name })))
