use Rattle.std.proofs.Common.{◌≡◌, false, List, inl, refl, sym, subst}
use Rattle.std.specs.Arc.{arc_value}
use Rattle.zone_proto.specs.Names.{Name}
use Rattle.zone_map.specs.Zones.{Sets}
use Rattle.update_in_place.specs.Parts.{AreChanged}
use Rattle.signed_in_place.specs.InPlace.{is_local, IsBegun}
use Rattle.signed_in_place.specs.declared.beginning.Begun.{Begun}
use Rattle.signed_in_place.specs.declared.beginning.Begun.TheVariants as change
use Rattle.signed_versions.proofs.OfNames.{of_its_names}
use Rattle.signed_versions.proofs.beginning.begin_in.Goals as goal

pub returns-in_default-clause-fault : goal.returns-in_default-clause-fault
returns-in_default-clause-fault c = inl refl

pub same-next : goal.same-next
same-next c = refl

pub begin_change-requires : goal.begin_change-requires
begin_change-requires c =
    let changed = c.args.changed.now in
    subst (λ (m : Sets). (names : List Name) × (after : Sets) × AreChanged names m after changed.before changed.after) (sym c.requires.sets) c.requires.change

pub same-origin : goal.same-origin
same-origin c = refl

pub invariant_of-result : goal.invariant_of-result
invariant_of-result c =
    let o = c.in-Ok.origin in
    let keys = c.args.keys.now in
    let request = c.args.request.now in
    let changed = c.args.changed.now in
    let new = c.begin_change.new.zone in
    let begun : IsBegun o keys request changed.before changed.after (arc_value c.args.before).inner.records new (change.Changed c.in-Ok-Changed.change) =
    subst (λ (m : Sets). IsBegun o keys request changed.before changed.after m new (change.Changed c.in-Ok-Changed.change)) c.requires.sets
    (subst (λ (b : Begun). IsBegun o keys request changed.before changed.after c.args.next new b) c.in-Ok-Changed.field-0-is c.in-Ok-Changed.ensures.begun) in
    of_its_names o keys request (arc_value c.args.before) changed new c.in-Ok-Changed.change c.requires.change begun

pub returns-in-Ok-Changed-clause-begun : goal.returns-in-Ok-Changed-clause-begun
returns-in-Ok-Changed-clause-begun c =
    let o = c.in-Ok.origin in
    let keys = c.args.keys.now in
    let request = c.args.request.now in
    let changed = c.args.changed.now in
    let new = c.begin_change.new.zone in
    let its : o ≡ c.args.origin.now = c.in-Ok.ensures.copy.ok in
    let begun : IsBegun o keys request changed.before changed.after (arc_value c.args.before).inner.records new (change.Changed c.in-Ok-Changed.change) =
    subst (λ (m : Sets). IsBegun o keys request changed.before changed.after m new (change.Changed c.in-Ok-Changed.change)) c.requires.sets
    (subst (λ (b : Begun). IsBegun o keys request changed.before changed.after c.args.next new b) c.in-Ok-Changed.field-0-is c.in-Ok-Changed.ensures.begun) in (
      (its, refl),
      subst (λ (n : Name). IsBegun n keys request changed.before changed.after (arc_value c.args.before).inner.records new (change.Changed c.in-Ok-Changed.change)) its begun,
    )

pub returns-in-Ok-NotLocal-clause-begun : goal.returns-in-Ok-NotLocal-clause-begun
returns-in-Ok-NotLocal-clause-begun c =
    let o = c.in-Ok.origin in
    let keys = c.args.keys.now in
    let request = c.args.request.now in
    let changed = c.args.changed.now in
    let new = c.begin_change.new.zone in
    let its : o ≡ c.args.origin.now = c.in-Ok.ensures.copy.ok in
    let begun : IsBegun o keys request changed.before changed.after c.args.next new change.NotLocal =
    subst (λ (b : Begun). IsBegun o keys request changed.before changed.after c.args.next new b) c.in-Ok-NotLocal.field-0-is c.in-Ok-NotLocal.ensures.begun in (
      refl,
      subst (λ (n : Name). is_local keys request.nx_proof_kind n (arc_value c.args.before).inner.records changed.after ≡ false) its
          (subst (λ (m : Sets). is_local keys request.nx_proof_kind o m changed.after ≡ false) c.requires.sets begun.1),
    )

pub returns-in-Err-clause-fault : goal.returns-in-Err-clause-fault
returns-in-Err-clause-fault c = c.in-Err.ensures.fault
