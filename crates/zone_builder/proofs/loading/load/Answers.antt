use Rattle.std.proofs.Common.{◌≡◌, ◌++◌, ◌⊎◌, ℕ, Bool, List, sym, ap, ◌∙◌, subst}
use Rattle.std.specs.Prelude.{Some, None, Ok, Err, Result, IfErr, IsErrAnd, filter}
use Rattle.zone_proto.specs.declared.rr_key.RrKey.{RrKey}
use Rattle.zone_proto.specs.Keys.{key}
use Rattle.zone_proto.specs.Names.{Name}
use Rattle.zone_proto.specs.Sets.{first_serial}
use Rattle.zone_proto.specs.Types.{SOA}
use Rattle.zone_map.specs.Zones.{set_at}
use Rattle.zone_builder.specs.declared.fault.LoadFault.{LoadFault}
use Rattle.zone_builder.specs.declared.fault.LoadFault.TheVariants.{Memory}
use Rattle.zone_builder.specs.declared.given.GivenRecord.{GivenRecord}
use Rattle.zone_builder.specs.Faults.{class_fault, has_denials, records_fault, IsFault, IsFaultless}
use Rattle.zone_builder.specs.GroupFaults.{first_fault, group_apex_fault}
use Rattle.zone_builder.specs.Groups.{Groups, records_in, signatures_in}
use Rattle.zone_builder.specs.Records.{is_data_of, is_signature_of, records_of}
use Rattle.zone_builder.specs.Sets.{loaded_set}
use Rattle.zone_builder.specs.Warnings.{outside_warnings, AreWarnings}
use Rattle.zone_builder.proofs.Belonging.{are_groups}
use Rattle.zone_builder.proofs.CnamesAlone.{cnames_alone}
use Rattle.zone_builder.proofs.Faulting.{all_alone, records_wrong, wrong_apex, wrong_set, nothing_wrong}
use Rattle.zone_builder.proofs.LoadedSets.{first_of_zone, is_loaded}
use Rattle.zone_builder.proofs.Warned.{all_told}
use Rattle.zone_builder.proofs.loading.load.Goals as goal

-- the serial that a slice of groups tells is that of the groups
serial_in : (slice groups : Groups) (origin : Name) (serial : ℕ) → slice ≡ groups → first_serial (records_of (records_in slice (key origin SOA))) ≡ Some serial
    → first_serial (records_of (records_in groups (key origin SOA))) ≡ Some serial
serial_in slice groups origin serial same h = subst (λ (es : Groups). first_serial (records_of (records_in es (key origin SOA))) ≡ Some serial) same h

-- what is wrong with the records is what is wrong with what is at the origin
records_told : (origin : Name) (gs : List GivenRecord) (groups : Groups)
    → ((k : RrKey) → records_in groups k ≡ filter (is_data_of origin k) gs) → ((k : RrKey) → signatures_in groups k ≡ filter (is_signature_of origin k) gs)
    → (given : List GivenRecord) → given ≡ gs → class_fault given ≡ None
    → (slice : Groups) → slice ≡ groups → (serial : ℕ) → first_serial (records_of (records_in slice (key origin SOA))) ≡ Some serial
    → (denied : Bool) (seen : List GivenRecord) → seen ≡ gs → denied ≡ has_denials origin seen
    → records_fault origin gs ≡ group_apex_fault origin groups denied
records_told origin gs groups own signing given all classes slice same serial soa denied seen whole told =
    records_wrong origin gs (sym (ap class_fault all) ∙ classes) serial (first_of_zone origin gs groups own signing (Some serial) (serial_in slice groups origin serial same soa))
    groups own denied (told ∙ ap (has_denials origin) whole)

-- a refusal that is handed on is what it was
handed_on : {T : Type 0} (r : Result T LoadFault) (P : LoadFault → Type 0) (e : LoadFault) → IsErrAnd r (λ f. f ≡ e) → P e → IfErr r P
handed_on (Ok x) P e h p = absurd h
handed_on (Err f) P e h p = subst P (sym h) p

pub returns-in_err-check_apex-clause-fault : goal.returns-in_err-check_apex-clause-fault
returns-in_err-check_apex-clause-fault c =
    let origin : Name = c.from-origin.result in
    let gs : List GivenRecord = c.args.records.items in
    let groups = c.in_ok-groups.groups.items in
    let held = c.in_ok-groups.ensures in
    let denied = c.in_ok-is_denied.is_denied in
    let told : records_fault origin gs ≡ group_apex_fault origin groups denied =
    records_told origin gs groups held.records held.signatures c.as_slice.result.now c.as_slice.ensures.value c.in_ok-check_classes.ensures
    c.as_slice-3.result.now c.as_slice-3.ensures.value c.in_ok-serial.serial c.in_ok-serial.ensures.ok
    denied c.as_slice-2.result.now c.as_slice-2.ensures.value c.in_ok-is_denied.ensures.ok in
    let e = c.in_err-check_apex.field-0.0 in
    let wrong : IsFault origin gs e =
    wrong_apex origin gs groups denied told e (subst (λ (es : Groups). (e ≡ Memory) ⊎ (group_apex_fault origin es denied ≡ Some e)) c.as_slice-4.ensures.value c.in_err-check_apex.ensures) in
    subst (λ (n : Name). IfErr c.from_residual-in_err-check_apex.result (IsFault n gs)) c.from-origin.ensures
    (handed_on c.from_residual-in_err-check_apex.result (IsFault origin gs) e c.from_residual-in_err-check_apex.ensures.1 wrong)

pub returns-in_err-check_groups-clause-fault : goal.returns-in_err-check_groups-clause-fault
returns-in_err-check_groups-clause-fault c =
    let origin : Name = c.from-origin.result in
    let gs : List GivenRecord = c.args.records.items in
    let groups = c.in_ok-groups.groups.items in
    let held = c.in_ok-groups.ensures in
    let denied = c.in_ok-is_denied.is_denied in
    let told : records_fault origin gs ≡ group_apex_fault origin groups denied =
    records_told origin gs groups held.records held.signatures c.as_slice.result.now c.as_slice.ensures.value c.in_ok-check_classes.ensures
    c.as_slice-3.result.now c.as_slice-3.ensures.value c.in_ok-serial.serial c.in_ok-serial.ensures.ok
    denied c.as_slice-2.result.now c.as_slice-2.ensures.value c.in_ok-is_denied.ensures.ok in
    let right : records_fault origin gs ≡ None = told ∙ subst (λ (es : Groups). group_apex_fault origin es denied ≡ None) c.as_slice-4.ensures.value c.in_ok-check_apex.ensures in
    let wrong : IsFault origin gs c.in_err-check_groups.field-0.0 =
    wrong_set origin gs right groups held.records held.ordered c.in_err-check_groups.field-0.0
    (subst (λ (es : Groups). (c.in_err-check_groups.field-0.0 ≡ Memory) ⊎ (first_fault origin es es ≡ Some c.in_err-check_groups.field-0.0)) c.as_slice-5.ensures.value c.in_err-check_groups.ensures) in
    subst (λ (n : Name). IfErr c.from_residual-in_err-check_groups.result (IsFault n gs)) c.from-origin.ensures
    (handed_on c.from_residual-in_err-check_groups.result (IsFault origin gs) c.in_err-check_groups.field-0.0 c.from_residual-in_err-check_groups.ensures.1 wrong)

pub sets_of-requires : goal.sets_of-requires
sets_of-requires c =
    let held = c.in_ok-groups.ensures in
    let groups : Groups = c.in_ok-groups.groups.items in
    record {
      ordered = held.ordered;
      alone = all_alone c.from-origin.result groups groups (subst (λ (es : Groups). first_fault c.from-origin.result es es ≡ None) c.as_slice-5.ensures.value c.in_ok-check_groups.ensures);
      groups = are_groups c.from-origin.result c.args.records.items c.in_ok-groups.groups.items held.records held.signatures held.named held.ordered;
    }

pub returns-clause-sets : goal.returns-clause-sets
returns-clause-sets c = λ n t.
    let origin : Name = c.from-origin.result in
    let gs : List GivenRecord = c.args.records.items in
    let held = c.in_ok-groups.ensures in
    subst (λ (o : Name). set_at c.in_ok-records.records n t ≡ loaded_set o gs n t) c.from-origin.ensures
    (is_loaded origin gs c.in_ok-groups.groups.items held.records held.signatures c.in_ok-serial.serial (serial_in c.as_slice-3.result.now c.in_ok-groups.groups.items origin c.in_ok-serial.serial c.as_slice-3.ensures.value c.in_ok-serial.ensures.ok) (set_at c.in_ok-records.records n t) n t (c.in_ok-records.ensures.ok (key n t)))

pub returns-clause-warnings : goal.returns-clause-warnings
returns-clause-warnings c =
    let origin : Name = c.from-origin.result in
    let gs : List GivenRecord = c.args.records.items in
    let held = c.in_ok-groups.ensures in
    let outside : c.grouped.new.warnings.items ≡ outside_warnings origin gs = held.warned ∙ ap (λ ws. ws ++ outside_warnings origin gs) c.new-warnings.ensures.items in
    subst (λ (o : Name). AreWarnings o gs c.sets_of.new.warnings.items) c.from-origin.ensures
    (all_told origin gs c.in_ok-groups.groups.items held.records held.signatures held.ordered c.grouped.new.warnings.items c.sets_of.new.warnings.items outside c.in_ok-records.ensures.warned)

pub returns-clause-faultless : goal.returns-clause-faultless
returns-clause-faultless c =
    let origin : Name = c.from-origin.result in
    let gs : List GivenRecord = c.args.records.items in
    let groups = c.in_ok-groups.groups.items in
    let held = c.in_ok-groups.ensures in
    let denied = c.in_ok-is_denied.is_denied in
    let told : records_fault origin gs ≡ group_apex_fault origin groups denied =
    records_told origin gs groups held.records held.signatures c.as_slice.result.now c.as_slice.ensures.value c.in_ok-check_classes.ensures
    c.as_slice-3.result.now c.as_slice-3.ensures.value c.in_ok-serial.serial c.in_ok-serial.ensures.ok
    denied c.as_slice-2.result.now c.as_slice-2.ensures.value c.in_ok-is_denied.ensures.ok in
    let right : records_fault origin gs ≡ None = told ∙ subst (λ (es : Groups). group_apex_fault origin es denied ≡ None) c.as_slice-4.ensures.value c.in_ok-check_apex.ensures in
    subst (λ (n : Name). IsFaultless n gs) c.from-origin.ensures (nothing_wrong origin gs right groups held.records held.ordered (subst (λ (es : Groups). first_fault origin es es ≡ None) c.as_slice-5.ensures.value c.in_ok-check_groups.ensures))

pub returns-clause-cnames : goal.returns-clause-cnames
returns-clause-cnames c = cnames_alone _ c.args.records.items c.in_ok-records.records (returns-clause-sets c) (returns-clause-faultless c)
