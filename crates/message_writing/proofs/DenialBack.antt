-- Data of NSEC, NSEC3 and NSEC3PARAM, read back, where their type maps are
use Rattle.std.proofs.Common.{◌≡◌, ℕ, ◌<◌, Bool, true, false, ltb, List, [], ◌∷◌, ◌++◌, length, Some, refl, sym, ap, ◌∙◌, append_assoc}
use Rattle.std.proofs.lemmas.List.{append-nil}
use Rattle.std.proofs.lemmas.Bool.{lt-ltb}
use Rattle.zone_proto.specs.Names.{Name, IsName}
use Rattle.zone_proto.specs.declared.record_type.RecordType.{RecordType}
use Rattle.zone_proto.specs.declared.rdata.denial.NSEC.{NSEC as NsecData}
use Rattle.zone_proto.specs.declared.rdata.denial.NSEC3.{NSEC3 as Nsec3Data}
use Rattle.zone_proto.specs.declared.rdata.denial.NSEC3PARAM.{NSEC3PARAM as Nsec3paramData}
use Rattle.zone_proto.specs.declared.rdata.RData.TheVariants as V
use Rattle.message_reading.specs.Octets.{octet_of, short_of, counted_of}
use Rattle.message_reading.specs.MessageNames.{plain_name_of}
use Rattle.message_reading.specs.TypeMaps.{types_of}
use Rattle.message_reading.specs.DataForms.{data_of, own_data_of, nsec_of, nsec3_of, nsec3param_of, opt_out_of, hash_of}
use Rattle.message_writing.specs.DataText.{short_text, counted_text, types_text, nsec_text, nsec3_text, nsec3param_text, flags_of, DataReadBack}
use Rattle.message_writing.proofs.Fields.{short_back, counted_back, plain_back}

-- the type map that is written of these types is read as these types
abbrev pub MapsBack : List RecordType → Type 0
MapsBack ts = types_of (types_text ts) ≡ Some ts

-- ---- NSEC

nsec_from : (octets : List ℕ) (next : Name × List ℕ) (ts : List RecordType) → plain_name_of octets ≡ Some next → ltb 0 (length next.1) ≡ true
    → types_of next.1 ≡ Some ts → nsec_of octets ≡ Some (V.NSEC (record { next_domain_name = next.0; types = ts }))
unfolding nsec_of
nsec_from octets next ts e₁ e₂ e₃ = rw (e₁, e₂, e₃) refl

pub nsec_back : (before : List ℕ) (d : NsecData) → IsName d.next_domain_name → 0 < length (types_text d.types) → MapsBack d.types
    → DataReadBack before 47 (nsec_text d) (V.NSEC d)
unfolding data_of own_data_of
nsec_back before d valid some maps m rest g at behind =
    nsec_from (nsec_text d) (d.next_domain_name, types_text d.types) d.types (plain_back d.next_domain_name (types_text d.types) valid)
    (lt-ltb 0 (length (types_text d.types)) some) maps

-- ---- NSEC3 and NSEC3PARAM

flags_back : (opt_out : Bool) (after : List ℕ) → opt_out_of (flags_of opt_out ∷ after) ≡ Some (opt_out, after)
flags_back true after = refl
flags_back false after = refl

hash_from : (octets : List ℕ) (hash : List ℕ × List ℕ) → counted_of octets ≡ Some hash → ltb 0 (length hash.0) ≡ true → hash_of octets ≡ Some hash
hash_from octets hash e₁ e₂ = rw (e₁, e₂) refl

nsec3_from : (octets : List ℕ) (algorithm : ℕ × List ℕ) (opt_out : Bool × List ℕ) (iterations : ℕ × List ℕ) (salt next : List ℕ × List ℕ)
    (ts : List RecordType) → octet_of octets ≡ Some algorithm → opt_out_of algorithm.1 ≡ Some opt_out → short_of opt_out.1 ≡ Some iterations
    → counted_of iterations.1 ≡ Some salt → hash_of salt.1 ≡ Some next → types_of next.1 ≡ Some ts
    → nsec3_of octets ≡ Some (V.NSEC3 (record {
      algorithm = algorithm.0;
      opt_out = opt_out.0;
      iterations = iterations.0;
      salt = salt.0;
      next_hashed_owner_name = next.0;
      types = ts;
    }))
unfolding nsec3_of
nsec3_from octets algorithm opt_out iterations salt next ts e₁ e₂ e₃ e₄ e₅ e₆ = rw (e₁, e₂, e₃, e₄, e₅, e₆) refl

pub nsec3_back : (before : List ℕ) (d : Nsec3Data) → 0 < length d.next_hashed_owner_name → MapsBack d.types
    → DataReadBack before 50 (nsec3_text d) (V.NSEC3 d)
unfolding data_of own_data_of
nsec3_back before d some maps m rest g at behind =
    let t₅ : List ℕ = types_text d.types in
    let t₄ : List ℕ = counted_text d.next_hashed_owner_name ++ t₅ in
    let t₃ : List ℕ = counted_text d.salt ++ t₄ in
    let t₂ : List ℕ = short_text d.iterations ++ t₃ in
    let t₁ : List ℕ = flags_of d.opt_out ∷ t₂ in
    let front : nsec3_text d ≡ d.algorithm ∷ t₁ =
    ap (λ s. d.algorithm ∷ flags_of d.opt_out ∷ s) (append_assoc (short_text d.iterations) (counted_text d.salt) t₄) in
    ap nsec3_of front
    ∙ nsec3_from (d.algorithm ∷ t₁) (d.algorithm, t₁) (d.opt_out, t₂) (d.iterations, t₃) (d.salt, t₄) (d.next_hashed_owner_name, t₅) d.types
    refl (flags_back d.opt_out t₂) (short_back d.iterations t₃) (counted_back d.salt t₄)
    (hash_from t₄ (d.next_hashed_owner_name, t₅) (counted_back d.next_hashed_owner_name t₅) (lt-ltb 0 (length d.next_hashed_owner_name) some)) maps

nsec3param_from : (octets : List ℕ) (algorithm : ℕ × List ℕ) (opt_out : Bool × List ℕ) (iterations : ℕ × List ℕ) (salt : List ℕ)
    → octet_of octets ≡ Some algorithm → opt_out_of algorithm.1 ≡ Some opt_out → short_of opt_out.1 ≡ Some iterations
    → counted_of iterations.1 ≡ Some (salt, [])
    → nsec3param_of octets ≡ Some (V.NSEC3PARAM (record {
      algorithm = algorithm.0;
      opt_out = opt_out.0;
      iterations = iterations.0;
      salt = salt;
    }))
unfolding nsec3param_of
nsec3param_from octets algorithm opt_out iterations salt e₁ e₂ e₃ e₄ = rw (e₁, e₂, e₃, e₄) refl

pub nsec3param_back : (before : List ℕ) (d : Nsec3paramData) → DataReadBack before 51 (nsec3param_text d) (V.NSEC3PARAM d)
unfolding data_of own_data_of
nsec3param_back before d m rest g at behind =
    let t₃ : List ℕ = counted_text d.salt in
    let t₂ : List ℕ = short_text d.iterations ++ t₃ in
    let t₁ : List ℕ = flags_of d.opt_out ∷ t₂ in
    nsec3param_from (d.algorithm ∷ t₁) (d.algorithm, t₁) (d.opt_out, t₂) (d.iterations, t₃) d.salt refl (flags_back d.opt_out t₂)
    (short_back d.iterations t₃) (ap counted_of (sym (append-nil t₃)) ∙ counted_back d.salt [])
