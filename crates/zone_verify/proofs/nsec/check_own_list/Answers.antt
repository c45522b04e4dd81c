use Rattle.std.proofs.Common.{◌≡◌, ◌==◌, ℕ, Bool, true, false, not, List, refl, sym, ap, ◌∙◌, true≢false, ◌⊎◌, inl, inr, eqb-true}
use Rattle.std.specs.Prelude.{◌||◌, ◌≢◌}
use Rattle.zone_proto.specs.declared.record_type.RecordType.{RecordType}
use Rattle.zone_proto.specs.Names.{Name}
use Rattle.zone_proto.specs.Types.{NS, NSEC, RRSIG}
use Rattle.zone_map.specs.Zones.{Sets, owns}
use Rattle.zone_denial.specs.Authority.{owns_besides}
use Rattle.zone_denial.specs.Chains.{is_stated_at_delegation}
use Rattle.zone_denial.proofs.Names.AuthoritativeNames.{besides_from}
use Rattle.zone_verify.specs.ChainSets.{sets_of}
use Rattle.zone_verify.specs.Lists.{IsListed, MayAllBeListed}
use Rattle.zone_verify.proofs.nsec.check_own_list.Goals as goal
use Rattle.zone_verify.proofs.nsec.check_own_list.Goals.{then-lists_others-via-then-lists_others, then-lists_others-via-else-lists_others+in_ok-owns+then-branch}

-- a listed type that isn't free stands there
other_stands : (all m : Sets) (n : Name) (d : Bool) (types : List RecordType) → d ≡ false → MayAllBeListed all m n d types
    → (t : ℕ) × IsListed types t × (t ≢ NSEC) × (t ≢ RRSIG) → owns_besides m NSEC n ≡ true
other_stands all m n d types e may w = by ((may w.0 w.1).stands (ap (λ b. not b || is_stated_at_delegation w.0) e))
  where
    apart : not (w.0 == NSEC) ≡ true
    apart = of (w.0 == NSEC) refl
      where
        of : (b : Bool) → (w.0 == NSEC) ≡ b → not b ≡ true
        of false q = refl
        of true q = absurd (w.2 (eqb-true w.0 NSEC q))

    by : (w.0 ≡ RRSIG) ⊎ ((owns m n w.0 ≡ true) ⊎ ((w.0 ≡ NSEC) × (owns all n NSEC ≡ true))) → owns_besides m NSEC n ≡ true
    by (inl q) = absurd (w.3 q)
    by (inr (inl k)) = besides_from m NSEC n w.0 apart k
    by (inr (inr k)) = absurd (w.2 k.0)

pub returns-then-site : goal.returns-then-site
returns-then-site c = record {
  may = c.in_ok-check_list.ensures.ok;
  own = λ d. absurd (true≢false (sym c.if-site.true ∙ d));
  others = besides_from (sets_of c.args.sets.now) NSEC c.args.site.now.name.now NS refl (c.requires c.if-site.true);
}

pub returns-then-lists_others : goal.returns-then-lists_others
returns-then-lists_others c = record {
  may = c.in_ok-check_list.ensures.ok;
  own = λ _. c.in_ok-require_listed.ensures;
  others = elim c.then-lists_others.branch [
    | then-lists_others-via-then-lists_others w ↦
        other_stands c.args.sets.now.records.now (sets_of c.args.sets.now) c.args.site.now.name.now c.args.site.now.is_delegation c.args.types.now c.if-site.false c.in_ok-check_list.ensures.ok
        (c.lists_others.ensures w.if-lists_others.true)
    | then-lists_others-via-else-lists_others+in_ok-owns+then-branch w ↦ besides_from (sets_of c.args.sets.now) NSEC c.args.site.now.name.now RRSIG refl (sym w.in_ok-owns.ensures.ok ∙ w.if-branch.true)
  ];
}
