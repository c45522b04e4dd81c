use Rattle.std.proofs.Common.{Bor, ◌≡◌, true, false, [], ◌∷◌, drop, refl, sym, ap, ◌∙◌, true≢false}
use Rattle.std.specs.Prelude.{Option, Some, None, is_some, find, option_copied}
use Rattle.zone_proto.specs.Names.{Name, suffixes}
use Rattle.zone_proto.specs.Sets.{RRset}
use Rattle.zone_proto.specs.Types.{NS}
use Rattle.zone_map.specs.Walks.{IsChild}
use Rattle.zone_map.specs.Wildcards.{exists}
use Rattle.zone_map.proofs.ExistingNames.{owner_exists}
use Rattle.zone_map.proofs.NearestNames.{nearest_here, nearest_above}
use Rattle.zone_map.proofs.direct.nearest_existing.Goals as goal
use Rattle.zone_map.proofs.direct.nearest_existing.Goals.{then-is_some-via-then-is_some, then-is_some-via-else-is_some+then-exists}

lent_is_owned : (o : Option (Bor RRset)) → is_some o ≡ true → is_some (option_copied o) ≡ true
lent_is_owned None h = h
lent_is_owned (Some s) h = h

-- a name and a child of it, each without its first label
shortened : (n k c d : Name) → (n ≡ [] → ⊥) → k ≡ drop 1 n → IsChild c n → d ≡ drop 1 c → IsChild d k
shortened [] k c d below e child f = absurd (below cc)
shortened (l ∷ n) k c d below e (m, child) f = (l, f ∙ ap (drop 1) child ∙ ap (λ x. l ∷ x) (sym e))

pub returns-then-is_some-clause-name : goal.returns-then-is_some-clause-name
returns-then-is_some-clause-name c =
    let m = c.args.records.now in
    let n = c.loop-here.key.name in
    let there : exists m n ≡ true = elim c.then-is_some.branch [
      | then-is_some-via-then-is_some w ↦
          owner_exists m n NS (ap is_some (sym c.at_name-here.ensures.ns) ∙ lent_is_owned c.at_name-here.result.ns (sym c.is_some.ensures ∙ w.if-is_some.true)) refl
      | then-is_some-via-else-is_some+then-exists w ↦ sym w.exists.ensures ∙ w.if-exists.true
    ] in
    sym (nearest_here m n there) ∙ c.loop-here.invariant.nearest

pub loop-here-preserved : goal.loop-here-preserved
loop-here-preserved c =
    let n = c.loop-here.key.name in
    let m = c.args.records.now in
    let below : n ≡ [] → ⊥ = λ e. true≢false (sym (c.is_root.ensures.1 e) ∙ c.if-is_root.false) in
    let absent : exists m n ≡ false = sym c.exists.ensures ∙ c.if-exists.false in
    record {
      nearest = ap (λ a. find (exists m) (suffixes a)) c.shorten.ensures ∙ nearest_above m n below absent ∙ c.loop-here.invariant.nearest;
      longer = shortened n _ _ _ below c.shorten.ensures c.loop-here.invariant.longer c.shorten-in-loop-here.ensures;
      type_zero = c.loop-here.invariant.type_zero;
    }
