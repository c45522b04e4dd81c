-- Octets of types without a case of their own, read back in a message
use Rattle.std.proofs.Common.{◌≡◌, ℕ, zero, suc, ◌≤◌, Bool, true, false, List, [], ◌∷◌, ◌++◌, drop, Option, Some, None, refl, sym, ap, ◌∙◌, arith, true≢false}
use Rattle.std.proofs.lemmas.List.{append-nil}
use Rattle.zone_proto.specs.Names.{wire_form}
use Rattle.zone_proto.specs.Types.{has_own_case}
use Rattle.zone_proto.specs.declared.record_type.RecordType.{RecordType}
use Rattle.zone_proto.specs.declared.rdata.other.OtherData.{OtherData}
use Rattle.zone_proto.specs.declared.rdata.RData.TheVariants as V
use Rattle.message_reading.specs.Octets.{◌>>=◌, octets_of, past}
use Rattle.message_reading.specs.MessageNames.{name_within, name_of, if_short}
use Rattle.message_reading.specs.OtherForms.{form_of, in_form, names_of, with_names}
use Rattle.message_reading.specs.DataForms.{data_of, data_by}
use Rattle.message_writing.specs.StrictReading.{message_for}
use Rattle.message_writing.specs.DataText.{DataReadBack, IsInForm}
use Rattle.message_writing.proofs.Steps.{bind_some}
use Rattle.message_writing.proofs.NameSteps.{Found, within_goes_on}

-- a name that is read where nothing comes before it is read in each message
pub name_anywhere : (m : List ℕ) (at at' : ℕ) (octets : List ℕ) (found : Found) → at ≤ at' → name_of [] at octets ≡ Some found → name_of m at' octets ≡ Some found
unfolding name_of
name_anywhere m at at' octets found near e =
    let b = bind_some (name_within 256 [] at octets) if_short found e in
    let there = within_goes_on 256 256 at at' [] (drop 12 m) m octets [] b.0 (omega arith) near refl b.1 in
    let same : name_within 256 m at' octets ≡ Some b.0 =
    ap (name_within 256 m at') (sym (append-nil octets)) ∙ there ∙ ap (λ s. Some (b.0.0, s)) (append-nil b.0.1) in
    rw same b.2

names_anywhere : (count : ℕ) (m : List ℕ) (place place' : List ℕ → ℕ) (octets plain : List ℕ) → ((s : List ℕ) → place s ≤ place' s)
    → names_of count [] place octets ≡ Some plain → names_of count m place' octets ≡ Some plain
unfolding names_of
names_anywhere zero m place place' [] plain near e = e
names_anywhere zero m place place' (b ∷ octets) plain near e = e
names_anywhere (suc count) m place place' octets plain near e =
    let first = bind_some (name_of [] (place octets) octets) (λ name. names_of count [] place name.1 >>= λ more. Some (wire_form name.0 ++ more)) plain e in
    let second = bind_some (names_of count [] place first.0.1) (λ more. Some (wire_form first.0.0 ++ more)) plain first.2 in
    let name = name_anywhere m (place octets) (place' octets) octets first.0 (near octets) first.1 in
    let others = names_anywhere count m place place' first.0.1 second.0 near second.1 in
    rw (name, others) second.2

pub form_anywhere : (form : Option (ℕ × ℕ)) (m : List ℕ) (at at' : ℕ) (octets plain : List ℕ) → at ≤ at' → in_form form [] at octets ≡ Some plain
    → in_form form m at' octets ≡ Some plain
form_anywhere None m at at' octets plain near e = e
form_anywhere (Some form) m at at' octets plain near e =
    let first = bind_some (octets_of form.0 octets) (λ front. with_names front.0 form.1 [] (past at octets) front.1) plain e in
    let second = bind_some (names_of form.1 [] (past at octets) first.0.1) (λ names. Some (first.0.0 ++ names)) plain first.2 in
    let names = names_anywhere form.1 m (past at octets) (past at' octets) first.0.1 second.0 (λ s. omega (arith, near)) second.1 in
    rw (first.1, names) second.2

abbrev pub other_data : (x : RecordType) → List ℕ → has_own_case x.0 ≡ false → OtherData
other_data x os p = record { record_type = x; octets = os; other = p }

pub other_back : (before : List ℕ) (d : OtherData) → IsInForm d → DataReadBack before d.record_type.0 d.octets (V.Other d)
unfolding data_of
other_back before d w m rest g at behind =
    by (message_for d.record_type.0 m) (has_own_case d.record_type.0) refl d.other w.1
  where
    by : (m : List ℕ) (b : Bool) (e : has_own_case d.record_type.0 ≡ b) → b ≡ false → data_by d.record_type.0 [] 0 d.octets b e ≡ Some (V.Other d)
        → data_by d.record_type.0 m at d.octets b e ≡ Some (V.Other d)
    by m true e f h = absurd (true≢false f)
    by m false e f h =
        let plain = bind_some (in_form (form_of d.record_type.0) [] 0 d.octets) (λ s. Some (V.Other (other_data d.record_type s e))) (V.Other d) h in
        rw (form_anywhere (form_of d.record_type.0) m 0 at d.octets plain.0 (omega arith) plain.1) plain.2
