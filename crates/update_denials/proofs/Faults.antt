-- Why an update isn't prepared, as one call passes it on to the next
use Rattle.std.proofs.Common.{◌≡◌, true, inl, inr, sym, subst, Result, Ok, Err}
use Rattle.std.specs.Prelude.{List, IfErr, IsErrAnd}
use Rattle.zone_proto.specs.Names.{Name}
use Rattle.zone_map.specs.Zones.{Sets}
use Rattle.zone_planner.specs.Plans.{IsPlanned}
use Rattle.zone_update.specs.Updates.{course_of}
use Rattle.zone_update.specs.declared.entry.Entry.{Entry}
use Rattle.update_denials.specs.declared.preparing.PrepareFault.{PrepareFault}
use Rattle.update_denials.specs.declared.preparing.PrepareFault.TheVariants as why
use Rattle.update_denials.specs.declared.preparing.Signing.{Signing}
use Rattle.update_denials.specs.Prepared.{IsRefused, IsUnkept, IsUnmade, IsUnplanned, IsUnprepared, IsUnpreparedOf, IsUnsecured}

-- what is handed on is refused for what it was
pub handed_on : {A : Type 0} (made : Result A PrepareFault) (P : PrepareFault → Type 0) (e : PrepareFault) → IsErrAnd made (λ f. f ≡ e) → P e → IfErr made P
handed_on (Ok x) P e h p = tt
handed_on (Err f) P e h p = subst P (sym h) p

pub unmade : (origin : Name) (old bare : Sets) (signing : Signing) (e : PrepareFault) → IsUnmade origin bare signing.keys.items signing.request e → IsUnplanned origin old bare signing e
unmade origin old bare signing (why.Refused r) h = absurd h
unmade origin old bare signing (why.Unsigned e) h = inl h
unmade origin old bare signing why.Memory h = tt

pub unkept : (origin : Name) (old bare blank : Sets) (signing : Signing) (e : PrepareFault) → IsPlanned origin signing.keys.items signing.request bare blank → IsUnkept old blank e
    → IsUnplanned origin old bare signing e
unkept origin old bare blank signing (why.Refused r) planned h = absurd h
unkept origin old bare blank signing (why.Unsigned e) planned h = inr (blank, planned, h)
unkept origin old bare blank signing why.Memory planned h = tt

pub unplanned : (origin : Name) (old after bare : Sets) (signing : Signing) (e : PrepareFault) → IsUnsecured after bare → IsUnplanned origin old bare signing e → IsUnpreparedOf origin old after signing e
unplanned origin old after bare signing (why.Refused r) unsecured h = absurd h
unplanned origin old after bare signing (why.Unsigned e) unsecured h = (bare, unsecured, h)
unplanned origin old after bare signing why.Memory unsecured h = tt

pub unprepared : (origin : Name) (old after : Sets) (prerequisites changes : List Entry) (signing : Signing) (e : PrepareFault)
    → course_of origin old prerequisites changes ≡ Ok (record { sets = after; changed = true }) → IsUnpreparedOf origin old after signing e → IsUnprepared origin old prerequisites changes signing e
unprepared origin old after prerequisites changes signing (why.Refused r) updated h = absurd h
unprepared origin old after prerequisites changes signing (why.Unsigned e) updated h = (after, updated, h)
unprepared origin old after prerequisites changes signing why.Memory updated h = tt

pub refused : (origin : Name) (old : Sets) (prerequisites changes : List Entry) (signing : Signing) (e : PrepareFault)
    → IsRefused (course_of origin old prerequisites changes) e → IsUnprepared origin old prerequisites changes signing e
refused origin old prerequisites changes signing (why.Refused r) h = h
refused origin old prerequisites changes signing (why.Unsigned e) h = absurd h
refused origin old prerequisites changes signing why.Memory h = tt
