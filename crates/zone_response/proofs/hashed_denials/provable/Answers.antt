use Rattle.std.proofs.Common.{◌≡◌, ◌⊎◌, true, false, [], length, sym, ap, ◌∙◌, subst, true≢false, arith}
use Rattle.std.specs.Prelude.{Some, None, Ok, IsErr, option_copied}
use Rattle.zone_proto.specs.Names.{base_name, is_at_or_above, suffixes}
use Rattle.zone_proto.specs.Types.{NSEC3}
use Rattle.lookup_types.specs.declared.lookup_error.LookupError.TheVariants.{Memory}
use Rattle.zone_map.specs.Zones.{set_at}
use Rattle.zone_response.specs.HashedDenials.{tried, hash_of, hashed_by, have_owners}
use Rattle.zone_response.proofs.LabelCounts.{counted_last, counted_on}
use Rattle.zone_response.proofs.ProofSteps.{raised, or_refused}
use Rattle.zone_response.proofs.ProvableWalk.{none_outside, untried_outside, lacks_there, one_tried, found_there, had_there, found_above, had_above, one_more_tried}
use Rattle.zone_response.proofs.WildcardWalk.{shortened}
use Rattle.zone_response.proofs.hashed_denials.provable.Goals as goal

pub returns-in_err-tried-clause-counted : goal.returns-in_err-tried-clause-counted
returns-in_err-tried-clause-counted g c =
    let o = c.args.zone.now.origin.now in
    let m = c.args.zone.now.denials.now in
    let hash = hash_of g.H.Nsec3Hash.digest_of c.args.zone.now c.args.query in
    let a = c.loop-query.above in
    let inside : is_at_or_above o a ≡ true = sym c.is_at_or_above.ensures ∙ c.loop-query-test.true in
    let names = tried o m (hashed_by hash) (suffixes (base_name c.args.child)) in
    counted_last c.args.hashes.now c.loop-query.hashes c.hashed.new.hashes (length (tried o m (hashed_by hash) (suffixes a))) (length names) c.hashed.ensures.counted c.loop-query.invariant.counted (one_tried o m hash a 1 inside (omega arith))

pub returns-in_err-tried-clause-err : goal.returns-in_err-tried-clause-err
returns-in_err-tried-clause-err g c =
    let o = c.args.zone.now.origin.now in
    let m = c.args.zone.now.denials.now in
    let hash = hash_of g.H.Nsec3Hash.digest_of c.args.zone.now c.args.query in
    let a = c.loop-query.above in
    let inside : is_at_or_above o a ≡ true = sym c.is_at_or_above.ensures ∙ c.loop-query-test.true in
    let names = tried o m (hashed_by hash) (suffixes (base_name c.args.child)) in
    raised c.from_residual-in_err-tried.result (λ e. (e ≡ Memory) ⊎ (have_owners hash names ≡ false)) c.in_err-tried.field-0.0 c.from_residual-in_err-tried.ensures.1
    (or_refused c.in_err-tried.field-0.0
    (λ h. sym c.loop-query.invariant.hashed ∙ lacks_there o m hash a inside (subst (λ n. IsErr (hash n)) c.in_ok-clone.ensures.copy.ok h)) c.in_err-tried.ensures.err)

pub returns-in_err-set-clause-counted : goal.returns-in_err-set-clause-counted
returns-in_err-set-clause-counted g c =
    let o = c.args.zone.now.origin.now in
    let m = c.args.zone.now.denials.now in
    let hash = hash_of g.H.Nsec3Hash.digest_of c.args.zone.now c.args.query in
    let a = c.loop-query.above in
    let inside : is_at_or_above o a ≡ true = sym c.is_at_or_above.ensures ∙ c.loop-query-test.true in
    let names = tried o m (hashed_by hash) (suffixes (base_name c.args.child)) in
    counted_last c.args.hashes.now c.loop-query.hashes c.hashed.new.hashes (length (tried o m (hashed_by hash) (suffixes a))) (length names) c.hashed.ensures.counted c.loop-query.invariant.counted (one_tried o m hash a 1 inside (omega arith))

pub returns-in-Some-clause-found : goal.returns-in-Some-clause-found
returns-in-Some-clause-found g c =
    let o = c.args.zone.now.origin.now in
    let m = c.args.zone.now.denials.now in
    let hash = hash_of g.H.Nsec3Hash.digest_of c.args.zone.now c.args.query in
    let a = c.loop-query.above in
    let inside : is_at_or_above o a ≡ true = sym c.is_at_or_above.ensures ∙ c.loop-query-test.true in
    let is : hash a ≡ Ok c.in_ok-tried.tried.owner = ap hash (sym c.in_ok-clone.ensures.copy.ok) ∙ c.in_ok-tried.ensures.owner in
    let stands : Some c.in-Some.set.now ≡ set_at m c.in_ok-tried.tried.owner NSEC3 = ap option_copied (sym c.in-Some.is) ∙ c.in_ok-set.ensures.ok in
    ap (λ c. Some (base_name c)) c.loop-query.invariant.child.1 ∙ found_there o m hash a c.in_ok-tried.tried.owner inside is c.in-Some.set.now stands ∙ c.loop-query.invariant.found

pub returns-in-Some-clause-hashed : goal.returns-in-Some-clause-hashed
returns-in-Some-clause-hashed g c =
    let o = c.args.zone.now.origin.now in
    let m = c.args.zone.now.denials.now in
    let hash = hash_of g.H.Nsec3Hash.digest_of c.args.zone.now c.args.query in
    let a = c.loop-query.above in
    let inside : is_at_or_above o a ≡ true = sym c.is_at_or_above.ensures ∙ c.loop-query-test.true in
    let is : hash a ≡ Ok c.in_ok-tried.tried.owner = ap hash (sym c.in_ok-clone.ensures.copy.ok) ∙ c.in_ok-tried.ensures.owner in
    let stands : Some c.in-Some.set.now ≡ set_at m c.in_ok-tried.tried.owner NSEC3 = ap option_copied (sym c.in-Some.is) ∙ c.in_ok-set.ensures.ok in
    sym c.loop-query.invariant.hashed ∙ had_there o m hash a c.in_ok-tried.tried.owner inside is c.in-Some.set.now stands

pub returns-in-Some-clause-counted : goal.returns-in-Some-clause-counted
returns-in-Some-clause-counted g c =
    let o = c.args.zone.now.origin.now in
    let m = c.args.zone.now.denials.now in
    let hash = hash_of g.H.Nsec3Hash.digest_of c.args.zone.now c.args.query in
    let a = c.loop-query.above in
    let inside : is_at_or_above o a ≡ true = sym c.is_at_or_above.ensures ∙ c.loop-query-test.true in
    let names = tried o m (hashed_by hash) (suffixes (base_name c.args.child)) in
    counted_last c.args.hashes.now c.loop-query.hashes c.hashed.new.hashes (length (tried o m (hashed_by hash) (suffixes a))) (length names) c.hashed.ensures.counted c.loop-query.invariant.counted (one_tried o m hash a 1 inside (omega arith))

pub loop-query-preserved : goal.loop-query-preserved
loop-query-preserved g c =
    let o = c.args.zone.now.origin.now in
    let m = c.args.zone.now.denials.now in
    let hash = hash_of g.H.Nsec3Hash.digest_of c.args.zone.now c.args.query in
    let a = c.loop-query.above in
    let inside : is_at_or_above o a ≡ true = sym c.is_at_or_above.ensures ∙ c.loop-query-test.true in
    let names = tried o m (hashed_by hash) (suffixes (base_name c.args.child)) in
    let is : hash a ≡ Ok c.in_ok-tried.tried.owner = ap hash (sym c.in_ok-clone.ensures.copy.ok) ∙ c.in_ok-tried.ensures.owner in
    let h = c.in_ok-tried.tried.owner in
    let b = c.shorten-in-loop-query.new.self in
    let shorter = c.shorten-in-loop-query.ensures in
    let stands : None ≡ set_at m h NSEC3 = ap option_copied (sym c.in_default.is) ∙ c.in_ok-set.ensures.ok in
    let below : a ≡ [] → ⊥ = λ e. true≢false (sym (c.is_root.ensures.1 e) ∙ c.if-is_root.false) in
    record {
      child = shortened a b c.loop-query.child c.shorten.new.self below shorter c.loop-query.invariant.child c.shorten.ensures;
      found = found_above o m hash a h inside is stands b below shorter ∙ c.loop-query.invariant.found;
      before = ap hash c.in_ok-tried.ensures.name ∙ c.in_ok-tried.ensures.owner;
      hashed = had_above o m hash a h inside is stands b below shorter ∙ c.loop-query.invariant.hashed;
      counted = counted_on c.args.hashes.now c.loop-query.hashes c.hashed.new.hashes (length (tried o m (hashed_by hash) (suffixes a))) (length (tried o m (hashed_by hash) (suffixes b))) (length names)
          c.hashed.ensures.counted c.loop-query.invariant.counted (ap length (one_more_tried o m hash a h inside is stands b below shorter));
    }

pub returns-clause-found : goal.returns-clause-found
returns-clause-found g c =
    let o = c.args.zone.now.origin.now in
    let m = c.args.zone.now.denials.now in
    let hash = hash_of g.H.Nsec3Hash.digest_of c.args.zone.now c.args.query in
    let a = c.loop-query.above in
    let out : is_at_or_above o a ≡ false = sym c.is_at_or_above.ensures ∙ c.loop-query-test.false in
    none_outside o m hash a out ∙ c.loop-query.invariant.found

pub returns-clause-hashed : goal.returns-clause-hashed
returns-clause-hashed g c =
    let o = c.args.zone.now.origin.now in
    let m = c.args.zone.now.denials.now in
    let hash = hash_of g.H.Nsec3Hash.digest_of c.args.zone.now c.args.query in
    let a = c.loop-query.above in
    let out : is_at_or_above o a ≡ false = sym c.is_at_or_above.ensures ∙ c.loop-query-test.false in
    sym c.loop-query.invariant.hashed ∙ ap (have_owners hash) (untried_outside o m hash a out)
