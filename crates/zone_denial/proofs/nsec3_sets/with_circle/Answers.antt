use Rattle.std.proofs.Common.{◌≡◌, ◌⊎◌, ℕ, suc, refl, ◌++◌, ◌∷◌, [], List, map, take, cond, ◌==◌, false, sym, ap, ◌∙◌, subst, inl, inr, rules}
use Rattle.std.specs.Prelude.{Some, option_copied}
use Rattle.std.specs.List.{Contains}
use Rattle.std.proofs.Math.Numerals.{add-one}
use Rattle.std.proofs.lemmas.List.{take_all}
use Rattle.std.proofs.lemmas.Result.{IfOk-weaker}
use Rattle.std.proofs.lemmas.List.Elements.{Contains-get_or}
use Rattle.zone_proto.specs.declared.error.ProtoError.{ProtoError}
use Rattle.zone_proto.specs.declared.error.ProtoError.TheVariants.{Memory}
use Rattle.zone_proto.specs.Faults.{fault_of}
use Rattle.zone_proto.specs.HashedOwners.{hashed_owner}
use Rattle.zone_proto.specs.Names.{Name}
use Rattle.zone_proto.specs.Types.{NSEC3}
use Rattle.zone_proto.proofs.Members.{In, Contains-In}
use Rattle.zone_map.specs.Zones.{Sets}
use Rattle.zone_denial.specs.declared.hashed_names.HashedName.{HashedName as HeldName}
use Rattle.zone_denial.specs.HashedNames.{hashed, all_fit, circle_set_at}
use Rattle.zone_denial.proofs.Sets.CirclesMade.{CircleSoFar, CircleSoFar-none, CircleSoFar-more, CircleSoFar-behind, beside, found_among, linked_on, may_take, none_fits}
use Rattle.zone_denial.proofs.nsec3_sets.with_circle.Goals as goal

by_cause : (origin : Name) (hs : List HeldName) (h : HeldName) (e : ProtoError) → In h hs → (e ≡ Memory) ⊎ (fault_of (hashed_owner origin h.digest) ≡ Some e) → (e ≡ Memory) ⊎ (all_fit origin (map hashed hs) ≡ false)
by_cause origin hs h e i (inl m) = inl m
by_cause origin hs h e i (inr f) = inr (none_fits origin hs h e i f)

pub loop-i-init : goal.loop-i-init
loop-i-init c =
    let first = CircleSoFar-none c.args.origin.now c.args.parameters.now c.args.ttl c.args.serial c.args.held.now (Some c.args.announced.1) c.args.announced.1 refl c.args.announced (λ i. (c.requires.key i, c.args.announced.1)) c.requires.stored in
    subst (CircleSoFar c.args.origin.now c.args.parameters.now c.args.ttl c.args.serial c.args.held.now (Some c.args.announced.1) [])
    (sym (c.in_ok-push.ensures.items ∙ ap (λ (es : Sets). es ++ c.args.announced ∷ []) c.in_ok-entries.ensures.items)) first

pub returns-in_err-record-clause-err : goal.returns-in_err-record-clause-err
returns-in_err-record-clause-err c =
    let hs = c.args.held.now in
    let h = c.index-held-i.result in
    let listed = Contains-In h hs (subst (Contains hs) (sym c.index-held-i.is) (Contains-get_or hs c.loop-i.i h c.loop-i-test.true)) in
    let told = by_cause c.args.origin.now hs h c.in_err-record.field-0.0 listed c.in_err-record.ensures.refusal in
    search (rules, told)

pub entry_with-requires : goal.entry_with-requires
entry_with-requires c =
    let origin = c.args.origin.now in
    let parameters = c.args.parameters.now in
    let ttl = c.args.ttl in
    let serial = c.args.serial in
    let hs = c.args.held.now in
    let announced = Some c.args.announced.1 in
    let i = c.loop-i.i in
    let h = c.index-held-i.result in
    let is = c.index-held-i.is in
    let es = c.loop-i.entries.items in
    let low = c.in_ok-record.ensures.lower in
    let fits = c.in_ok-record.ensures.digest in
    let found = found_among origin parameters ttl serial hs announced i h es c.as_slice.result.now c.set_before-before.result c.as_slice.ensures.value c.loop-i.invariant c.loop-i-test.true is c.requires.ascending fits c.set_before-before.ensures.last c.set_before-before.ensures.same c.set_before-before.ensures.none in
    let r = c.in_ok-record.record in
    let made = linked_on origin parameters ttl serial hs announced i h c.next_name.result.now r c.loop-i-test.true is c.next_name.ensures c.in_ok-record.ensures.ok in
    may_take origin parameters ttl serial hs announced h es c.set_before-before.result r low made c.loop-i.invariant.stored found

pub loop-i-preserved : goal.loop-i-preserved
loop-i-preserved c =
    let origin = c.args.origin.now in
    let parameters = c.args.parameters.now in
    let ttl = c.args.ttl in
    let serial = c.args.serial in
    let hs = c.args.held.now in
    let announced = Some c.args.announced.1 in
    let i = c.loop-i.i in
    let h = c.index-held-i.result in
    let is = c.index-held-i.is in
    let es = c.loop-i.entries.items in
    let low = c.in_ok-record.ensures.lower in
    let fits = c.in_ok-record.ensures.digest in
    let found = found_among origin parameters ttl serial hs announced i h es c.as_slice.result.now c.set_before-before.result c.as_slice.ensures.value c.loop-i.invariant c.loop-i-test.true is c.requires.ascending fits c.set_before-before.ensures.last c.set_before-before.ensures.same c.set_before-before.ensures.none in
    let r = c.in_ok-record.record in
    let made = linked_on origin parameters ttl serial hs announced i h c.next_name.result.now r c.loop-i-test.true is c.next_name.ensures c.in_ok-record.ensures.ok in
    let e = c.in_ok-entry.entry in
    let more = CircleSoFar-more origin parameters ttl serial hs announced i h es e r (option_copied c.set_before-before.result) low made found c.in_ok-entry.ensures.ok c.in_ok-entry.ensures.stored c.loop-i-test.true is c.in_ok-record.ensures.refusal fits c.loop-i.invariant in
    subst (λ (k : ℕ). CircleSoFar origin parameters ttl serial hs announced (take k hs) c.put_behind.new.entries.items) (sym (add-one i))
    (CircleSoFar-behind origin parameters ttl serial hs announced (take (suc i) hs) es c.put_behind.new.entries.items e more c.in_ok-put_behind.ensures.ok)

pub returns-clause-ok : goal.returns-clause-ok
returns-clause-ok c =
    let hs = c.args.held.now in
    let whole = take_all c.loop-i.i hs c.loop-i-test.false in
    IfOk-weaker c.from_entries.result _ _
    (λ after is. λ n t. is n t ∙ c.loop-i.invariant.sets n t
    ∙ ap (λ (front : List HeldName). cond (t == NSEC3) (circle_set_at c.args.origin.now c.args.parameters.now c.args.ttl hs c.args.serial front n) (beside c.args.origin.now c.args.parameters.now c.args.ttl c.args.serial hs (Some c.args.announced.1) n t)) whole)
    c.from_entries.ensures.ok
