-- Records, read back
use Rattle.std.proofs.Common.{◌≡◌, ℕ, ◌+◌, ◌-◌, ◌≤◌, List, ◌++◌, length, take, drop, Option, Some, refl, ap, subst, ◌∙◌, append_assoc, arith}
use Rattle.std.proofs.lemmas.List.{length-append, take_at, drop_at}
use Rattle.zone_proto.specs.Names.{Name, IsName}
use Rattle.zone_proto.specs.declared.rdata.RData.{RData}
use Rattle.zone_proto.specs.declared.record.Record.{Record}
use Rattle.message_reading.specs.Octets.{short_of, long_of, octets_of, offset_of}
use Rattle.message_reading.specs.MessageNames.{name_of}
use Rattle.message_reading.specs.DataForms.{data_of}
use Rattle.message_reading.specs.Messages.{fields_of}
use Rattle.message_writing.specs.StrictReading.{strict_record_of, message_for}
use Rattle.message_writing.specs.Continuing.{Continues, ReadsBack, Appends}
use Rattle.message_writing.specs.KnownNames.{IsCut, cut_text}
use Rattle.message_writing.specs.DataText.{short_text, long_text, DataReadBack}
use Rattle.message_writing.proofs.Steps.{octets_back}
use Rattle.message_writing.proofs.NameWriting.{cut_back}
use Rattle.message_writing.proofs.Fields.{short_back, long_back}

fields_from : (octets : List ℕ) (t class ttl count : ℕ × List ℕ) → short_of octets ≡ Some t → short_of t.1 ≡ Some class → long_of class.1 ≡ Some ttl
    → short_of ttl.1 ≡ Some count → fields_of octets ≡ Some (record { record_type = record { 0 = t.0 }; dns_class = record { 0 = class.0 }; ttl = ttl.0; count = count.0 }, count.1)
fields_from octets t class ttl count e₁ e₂ e₃ e₄ = rw (e₁, e₂, e₃, e₄) refl

fields_back : (t class ttl count : ℕ) (after : List ℕ)
    → fields_of (short_text t ++ (short_text class ++ (long_text ttl ++ (short_text count ++ after)))) ≡ Some (record { record_type = record { 0 = t }; dns_class = record { 0 = class }; ttl = ttl; count = count }, after)
fields_back t class ttl count after =
    let s₃ : List ℕ = short_text count ++ after in
    let s₂ : List ℕ = long_text ttl ++ s₃ in
    let s₁ : List ℕ = short_text class ++ s₂ in
    fields_from (short_text t ++ s₁) (t, s₁) (class, s₂) (ttl, s₃) (count, after) (short_back t s₁) (short_back class s₂) (long_back ttl s₃)
    (short_back count after)

abbrev pub record_text : List ℕ → ℕ → ℕ → ℕ → List ℕ → List ℕ
record_text owner t class ttl text = owner ++ (short_text t ++ (short_text class ++ (long_text ttl ++ (short_text (length text) ++ text))))

regroup_record : (owner : List ℕ) (t class ttl : ℕ) (text after : List ℕ) → record_text owner t class ttl text ++ after
    ≡ owner ++ (short_text t ++ (short_text class ++ (long_text ttl ++ (short_text (length text) ++ (text ++ after)))))
regroup_record owner t class ttl text after =
    append_assoc owner (short_text t ++ (short_text class ++ (long_text ttl ++ (short_text (length text) ++ text)))) after

abbrev the_record : Name → ℕ → ℕ → RData → Record
the_record n class ttl rdata = record { name = n; dns_class = record { 0 = class }; ttl = ttl; rdata = rdata }

-- the steps of a record's reading, over any values
record_from : (m octets : List ℕ) (owner : Name × List ℕ) (t class ttl count : ℕ) (behind : List ℕ) (text : List ℕ × List ℕ) (rdata : RData)
    → name_of m (offset_of m octets) octets ≡ Some owner → fields_of owner.1 ≡ Some (record { record_type = record { 0 = t }; dns_class = record { 0 = class }; ttl = ttl; count = count }, behind)
    → octets_of count behind ≡ Some text → data_of t (message_for t m) (offset_of m behind) text.0 ≡ Some rdata
    → strict_record_of m octets ≡ Some (the_record owner.0 class ttl rdata, text.1)
unfolding strict_record_of
record_from m octets owner t class ttl count behind text rdata e₁ e₂ e₃ e₄ = rw (e₁, e₂, e₃, e₄) refl

pub record_back : (before : List ℕ) (labels : ℕ) (pointer : Option ℕ) (n : Name) (t class ttl : ℕ) (text : List ℕ) (rdata : RData)
    → IsCut before labels pointer n → IsName n → DataReadBack before t text rdata
    → ReadsBack strict_record_of before (record_text (cut_text labels pointer n) t class ttl text) (the_record n class ttl rdata)
record_back before labels pointer n t class ttl text rdata cut valid data_back m after g =
    let owner = cut_text labels pointer n in
    let behind : List ℕ = text ++ after in
    let s₂ : List ℕ = short_text t ++ (short_text class ++ (long_text ttl ++ (short_text (length text) ++ behind))) in
    let e = regroup_record owner t class ttl text after in
    let h : Continues before (owner ++ s₂) m = subst (λ s. Continues before s m) e g in
    let at : length before ≡ offset_of m (owner ++ s₂) = omega (arith, h.size) in
    let there : length before ≤ offset_of m behind = omega (arith, h.size, length-append owner s₂) in
    let name = cut_back before (owner ++ s₂) m (length before) labels pointer n s₂ h (omega arith) cut valid in
    ap (strict_record_of m) e
    ∙ record_from m (owner ++ s₂) (n, s₂) t class ttl (length text) behind (text, after) rdata
    (subst (λ x. name_of m x (owner ++ s₂) ≡ Some (n, s₂)) at name) (fields_back t class ttl (length text) behind) (octets_back text after)
    (data_back m (owner ++ s₂) h (offset_of m behind) there)

-- ---- RDLENGTH is put into its place behind the data

pub put_behind : (o s t d : List ℕ) → length s ≡ 2 → take (length o) ((o ++ s) ++ d) ++ (t ++ drop (length o + 2) ((o ++ s) ++ d)) ≡ o ++ (t ++ d)
put_behind o s t d two =
    let whole : (o ++ s) ++ d ≡ o ++ (s ++ d) = append_assoc o s d in
    let front : take (length o) ((o ++ s) ++ d) ≡ o = ap (take (length o)) whole ∙ take_at o (s ++ d) (length o) refl in
    let behind : drop (length o + 2) ((o ++ s) ++ d) ≡ d = drop_at (o ++ s) d (length o + 2) (omega (arith, length-append o s, two)) in
    rw (front, behind) refl

-- what a call that writes a record knows when it returns
pub record_written : (old o₁ o₂ o₃ o₄ new : List ℕ) (labels : ℕ) (pointer : Option ℕ) (n : Name) (t class ttl at count : ℕ) (text : List ℕ) (rdata : RData)
    → IsCut old labels pointer n → IsName n → DataReadBack old t text rdata → o₁ ≡ old ++ cut_text labels pointer n
    → o₂ ≡ o₁ ++ (short_text t ++ (short_text class ++ long_text ttl)) → at ≡ length o₂ → o₃ ≡ o₂ ++ short_text 0 → o₄ ≡ o₃ ++ text
    → count ≡ length o₄ - at - 2 → new ≡ take at o₄ ++ (short_text count ++ drop (at + 2) o₄)
    → Appends strict_record_of old new (the_record n class ttl rdata)
record_written old o₁ o₂ o₃ o₄ new labels pointer n t class ttl at count text rdata cut valid back e₁ e₂ place e₃ e₄ counted e₅ =
    let owner = cut_text labels pointer n in
    let s = short_text 0 in
    let whole : o₄ ≡ (o₂ ++ s) ++ text = e₄ ∙ ap (λ o. o ++ text) e₃ in
    let size : count ≡ length text = omega (arith, counted, place, ap length whole, length-append (o₂ ++ s) text, length-append o₂ s) in
    let c : List ℕ = short_text (length text) in
    let mid : List ℕ = short_text t ++ (short_text class ++ long_text ttl) in
    let placed : new ≡ o₂ ++ (c ++ text) =
    e₅ ∙ (λ i. take (place i) (whole i) ++ (short_text (size i) ++ drop (place i + 2) (whole i))) ∙ put_behind o₂ s c text refl in
    let all : new ≡ old ++ (owner ++ (mid ++ (c ++ text))) =
    placed ∙ ap (λ o. o ++ (c ++ text)) (e₂ ∙ ap (λ o. o ++ mid) e₁) ∙ append_assoc (old ++ owner) mid (c ++ text) ∙ append_assoc old owner (mid ++ (c ++ text)) in
    record {
      written = record_text owner t class ttl text;
      is = all;
      back = record_back old labels pointer n t class ttl text rdata cut valid back;
    }
