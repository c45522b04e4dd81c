-- A set stays one when its serial is stepped
use Rattle.std.proofs.Common.{◌≡◌, ℕ, ◌≤◌, ◌<◌, List, [], ◌∷◌, length, set, get_or, refl, sym, ap, ◌∙◌, subst, true, arith}
use Rattle.zone_proto.specs.Names.{Name}
use Rattle.zone_proto.specs.Data.{type_of}
use Rattle.zone_proto.specs.Sets.{IsSet, is_single}
use Rattle.zone_proto.specs.Stepping.{stepped_data, stepped_records}
use Rattle.zone_proto.specs.declared.rdata.RData.{RData}
use Rattle.zone_proto.specs.declared.rdata.RData.TheVariants as V
use Rattle.zone_proto.specs.declared.record.Record.{Record}
use Rattle.zone_proto.proofs.SetLaws.{IsSet-alone}

-- a set of SOA data has one record
pub IsSet-stepped : (o : Name) (t : ℕ) (r : Record) (rs : List Record) (d : RData) → r.rdata ≡ d → IsSet o t (r ∷ rs) → IsSet o t (record r { rdata = stepped_data d } ∷ rs)
IsSet-stepped o t r [] (V.SOA a) e h =
    IsSet-alone o t (record r { rdata = stepped_data (V.SOA a) }) (h.owners 0 r (omega arith)) (sym (ap type_of e) ∙ h.types 0 r (omega arith))
IsSet-stepped o t r (x ∷ xs) (V.SOA a) e h =
    let kind : 6 ≡ t = sym (ap type_of e) ∙ h.types 0 r (omega arith) in
    let one : length (r ∷ x ∷ xs) ≤ 1 = h.single (subst (λ (n : ℕ). is_single n ≡ true) kind refl) in
    absurd (omega (arith, one))
IsSet-stepped o t r rs d e h = subst (λ (x : RData). IsSet o t (record r { rdata = x } ∷ rs)) e h

pub IsSet-stepped_set : (o : Name) (t : ℕ) (rs : List Record) → IsSet o t rs → IsSet o t (stepped_records rs)
IsSet-stepped_set o t [] h = h
IsSet-stepped_set o t (r ∷ rs) h = IsSet-stepped o t r rs r.rdata refl h

-- the same of the first record of a list, where it is written
pub IsSet-step_first : (o : Name) (t : ℕ) (rs : List Record) (r : Record) (d : RData) → r ≡ get_or rs 0 r → 0 < length rs → d ≡ stepped_data r.rdata → IsSet o t rs
    → IsSet o t (set rs 0 (record r { rdata = d }))
IsSet-step_first o t [] r d e lt k h = absurd (omega arith)
IsSet-step_first o t (x ∷ xs) r d e lt k h =
    let own : IsSet o t (r ∷ xs) = subst (λ (y : Record). IsSet o t (y ∷ xs)) (sym e) h in
    subst (λ (y : RData). IsSet o t (record r { rdata = y } ∷ xs)) (sym k) (IsSet-stepped o t r xs r.rdata refl own)
