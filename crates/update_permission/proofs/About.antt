-- What the change is about that a record of the update section asks for
use Rattle.std.proofs.Common.{◌≡◌, ℕ, Bool, true, false, not, ◌&&◌, ◌==◌, refl, sym, ap, ◌∙◌, subst, eqb-true, Result, Ok, Err}
use Rattle.std.specs.Prelude.{if◌then◌else◌}
use Rattle.zone_proto.specs.Data.{type_of}
use Rattle.zone_proto.specs.Keys.{key}
use Rattle.zone_proto.specs.Names.{Name, lower}
use Rattle.zone_proto.specs.Types.{ANY, IN, is_derived}
use Rattle.zone_proto.proofs.Members.{and_left}
use Rattle.zone_update.specs.Changes.{addition, change_by_class, change_of, deletion, if_permitted, record_deletion}
use Rattle.zone_update.specs.Entries.{◌>>=◌, class_any, class_none, if_data, if_empty, is_in_zone, is_meta, record_of}
use Rattle.zone_update.specs.declared.change.Change.{Change}
use Rattle.zone_update.specs.declared.change.Change.TheVariants.{Add, DeleteSet, DeleteName, DeleteRecord}
use Rattle.zone_update.specs.declared.entry.Content.{Content}
use Rattle.zone_update.specs.declared.entry.Content.TheVariants.{Empty, Unread, Data}
use Rattle.zone_update.specs.declared.entry.Entry.{Entry}
use Rattle.zone_update.specs.declared.refusal.Refusal.{Refusal}
use Rattle.zone_update.specs.declared.refusal.Refusal.TheVariants.{FormErr, NotZone, Refused}
use Rattle.update_permission.specs.Permissions.{deletes_name, type_about, type_by}

module _ (r : Entry) where
  -- of the set of the record's name and of the type that it is about; or of all sets of its name, where it deletes these
  abbrev pub IsAbout : Change → Type 0
  IsAbout (Add x) = (deletes_name r ≡ false) × (lower x.name ≡ lower r.name) × (type_of x.rdata ≡ type_about r)
  IsAbout (DeleteSet k) = (deletes_name r ≡ false) × (k ≡ key (lower r.name) (type_about r))
  IsAbout (DeleteName n) = (deletes_name r ≡ true) × (n ≡ lower r.name)
  IsAbout (DeleteRecord n d) = (deletes_name r ≡ false) × (n ≡ lower r.name) × (type_of d ≡ type_about r)

  -- a record of another class than ANY doesn't delete all sets of its name
  not_any : (k : ℕ) → (r.dns_class.0 == k) ≡ true → (k == class_any) ≡ false → deletes_name r ≡ false
  not_any k e f = ap (λ b. b && (r.record_type.0 == ANY)) (ap (λ c. c == class_any) (eqb-true r.dns_class.0 k e) ∙ f)

  of_addition : (c : Change) → (r.dns_class.0 == IN) ≡ true → addition r.name r.record_type.0 r.ttl r.content ≡ Ok c → IsAbout c
  of_addition c class h = by (is_meta r.record_type.0) h
    where
      of : (x : Content) → r.content ≡ x → if_data x (λ d. Add (record_of r.name r.ttl d)) ≡ Ok c → IsAbout c
      of Empty e g = absurd cc
      of Unread e g = absurd cc
      of (Data d) e g =
          let same : Add (record_of r.name r.ttl d) ≡ c = cc in
          subst IsAbout same (not_any IN class refl, refl, sym (ap (type_by r.record_type.0) e))

      by : (b : Bool) → (if b then Err FormErr else if_data r.content (λ d. Add (record_of r.name r.ttl d))) ≡ Ok c → IsAbout c
      by true g = absurd cc
      by false g = of r.content refl g

  of_deletion : (c : Change) → (r.dns_class.0 == class_any) ≡ true → deletion (lower r.name) r.record_type.0 r.content ≡ Ok c → IsAbout c
  of_deletion c class h = by (r.record_type.0 == ANY) refl h
    where
      of_name : (x : Content) → (r.record_type.0 == ANY) ≡ true → if_empty x (DeleteName (lower r.name)) ≡ Ok c → IsAbout c
      of_name Empty e g = let same : DeleteName (lower r.name) ≡ c = cc in subst IsAbout same ((λ i. class i && e i), refl)
      of_name Unread e g = absurd cc
      of_name (Data d) e g = absurd cc

      of_set : (x : Content) → r.content ≡ x → (r.record_type.0 == ANY) ≡ false → if_empty x (DeleteSet (key (lower r.name) r.record_type.0)) ≡ Ok c → IsAbout c
      of_set Empty e f g =
          let same : DeleteSet (key (lower r.name) r.record_type.0) ≡ c = cc in
          subst IsAbout same ((λ i. class i && f i), ap (λ x. key (lower r.name) (type_by r.record_type.0 x)) (sym e))
      of_set Unread e f g = absurd cc
      of_set (Data d) e f g = absurd cc

      of_type : (b : Bool) → (r.record_type.0 == ANY) ≡ false → (if b then Err FormErr else if_empty r.content (DeleteSet (key (lower r.name) r.record_type.0))) ≡ Ok c → IsAbout c
      of_type true f g = absurd cc
      of_type false f g = of_set r.content refl f g

      by : (b : Bool) → (r.record_type.0 == ANY) ≡ b
          → (if b then if_empty r.content (DeleteName (lower r.name)) else (if is_meta r.record_type.0 then Err FormErr else if_empty r.content (DeleteSet (key (lower r.name) r.record_type.0)))) ≡ Ok c
          → IsAbout c
      by true e g = of_name r.content e g
      by false e g = of_type (is_meta r.record_type.0) e g

  of_record_deletion : (c : Change) → (r.dns_class.0 == class_none) ≡ true → record_deletion (lower r.name) r.record_type.0 r.content ≡ Ok c → IsAbout c
  of_record_deletion c class h = by (is_meta r.record_type.0) h
    where
      of : (x : Content) → r.content ≡ x → if_data x (λ d. DeleteRecord (lower r.name) d) ≡ Ok c → IsAbout c
      of Empty e g = absurd cc
      of Unread e g = absurd cc
      of (Data d) e g =
          let same : DeleteRecord (lower r.name) d ≡ c = cc in
          subst IsAbout same (not_any class_none class refl, refl, sym (ap (type_by r.record_type.0) e))

      by : (b : Bool) → (if b then Err FormErr else if_data r.content (λ d. DeleteRecord (lower r.name) d)) ≡ Ok c → IsAbout c
      by true g = absurd cc
      by false g = of r.content refl g

  of_class : (c : Change) → change_by_class (lower r.name) r ≡ Ok c → IsAbout c
  of_class c h = by_in (r.dns_class.0 == IN) refl h
    where
      by_none : (b : Bool) → (r.dns_class.0 == class_none) && (r.ttl == 0) ≡ b → (if b then record_deletion (lower r.name) r.record_type.0 r.content else Err FormErr) ≡ Ok c → IsAbout c
      by_none true e g = of_record_deletion c (and_left (r.dns_class.0 == class_none) (r.ttl == 0) e) g
      by_none false e g = absurd cc

      by_any : (b : Bool) → (r.dns_class.0 == class_any) && (r.ttl == 0) ≡ b → (if b then deletion (lower r.name) r.record_type.0 r.content else (if (r.dns_class.0 == class_none) && (r.ttl == 0) then record_deletion (lower r.name) r.record_type.0 r.content else Err FormErr)) ≡ Ok c → IsAbout c
      by_any true e g = of_deletion c (and_left (r.dns_class.0 == class_any) (r.ttl == 0) e) g
      by_any false e g = by_none ((r.dns_class.0 == class_none) && (r.ttl == 0)) refl g

      by_in : (b : Bool) → (r.dns_class.0 == IN) ≡ b
          → (if b then addition r.name r.record_type.0 r.ttl r.content else (if (r.dns_class.0 == class_any) && (r.ttl == 0) then deletion (lower r.name) r.record_type.0 r.content else (if (r.dns_class.0 == class_none) && (r.ttl == 0) then record_deletion (lower r.name) r.record_type.0 r.content else Err FormErr))) ≡ Ok c → IsAbout c
      by_in true e g = of_addition c e g
      by_in false e g = by_any ((r.dns_class.0 == class_any) && (r.ttl == 0)) refl g

  abbrev given : Change → Result Change Refusal
  given c = Ok c

  -- a change that is permitted is the one that is asked for
  asked : (o : Result Change Refusal) (c : Change) → (o >>= if_permitted r.record_type.0) ≡ Ok c → o ≡ Ok c
  asked (Err e) c h = absurd cc
  asked (Ok d) c h = by (is_derived r.record_type.0) h
    where
      by : (b : Bool) → (if b then Err Refused else given d) ≡ given c → given d ≡ given c
      by true g = absurd cc
      by false g = g

  pub about : (origin : Name) (c : Change) → change_of origin r ≡ Ok c → IsAbout c
  about origin c h = by (is_in_zone origin r.name) h
    where
      by : (b : Bool) → (if not b then Err NotZone else (change_by_class (lower r.name) r >>= if_permitted r.record_type.0)) ≡ Ok c → IsAbout c
      by true g = of_class c (asked (change_by_class (lower r.name) r) c g)
      by false g = absurd cc
