-- Octets that are read as themselves are of their form
use Rattle.std.proofs.Common.{◌≡◌, ℕ, ◌≤◌, Bool, true, false, List, [], length, Option, Some, None, refl, sym, ap, subst, ◌∙◌, true≢false, MatchBool}
use Rattle.std.specs.Option.{is_some}
use mathlib.Core.Bool.{Bool-set}
use Rattle.zone_proto.specs.Types.{has_own_case}
use Rattle.zone_proto.specs.declared.rdata.other.OtherData.{OtherData}
use Rattle.zone_proto.specs.declared.rdata.RData.{RData}
use Rattle.zone_proto.specs.declared.rdata.RData.TheVariants as V
use Rattle.message_reading.specs.Octets.{◌>>=◌}
use Rattle.message_reading.specs.OtherForms.{form_of, in_form}
use Rattle.message_reading.specs.DataForms.{data_of, data_by, plain_data_of}
use Rattle.message_writing.specs.Checks.{HasOctets}
use Rattle.message_writing.specs.DataText.{IsInForm, IsWritable}
use Rattle.message_writing.proofs.Steps.{bind_some}
use Rattle.message_writing.proofs.OthersBack.{other_data}

abbrev octets_in : Option RData → List ℕ
octets_in None = []
octets_in (Some (V.Other d)) = d.octets
octets_in (Some _) = []

pub in_form_is : (d read : OtherData) → plain_data_of d.record_type.0 d.octets ≡ Some (V.Other read) → read.octets ≡ d.octets
    → plain_data_of d.record_type.0 d.octets ≡ Some (V.Other d)
unfolding data_of
in_form_is d read e same = by (has_own_case d.record_type.0) refl d.other e
  where
    by : (b : Bool) (own : has_own_case d.record_type.0 ≡ b) → b ≡ false → data_by d.record_type.0 [] 0 d.octets b own ≡ Some (V.Other read)
        → data_by d.record_type.0 [] 0 d.octets b own ≡ Some (V.Other d)
    by true own f h = absurd (true≢false f)
    by false own f h =
        let plain = bind_some (in_form (form_of d.record_type.0) [] 0 d.octets) (λ s. Some (V.Other (other_data d.record_type s own))) (V.Other read) h in
        let is : plain.0 ≡ d.octets = ap octets_in plain.2 ∙ same in
        rw plain.1 (λ i. Some (V.Other (other_data d.record_type (is i) (Bool-set (has_own_case d.record_type.0) false own d.other i))))

nothing_there : (form : Option (ℕ × ℕ)) → is_some form ≡ false → form ≡ None
nothing_there None e = refl
nothing_there (Some form) e = absurd (true≢false e)

-- octets of a type without names are read as they are
pub without_names : (d : OtherData) → is_some (form_of d.record_type.0) ≡ false → plain_data_of d.record_type.0 d.octets ≡ Some (V.Other d)
unfolding data_of
without_names d none = by (has_own_case d.record_type.0) refl d.other
  where
    by : (b : Bool) (own : has_own_case d.record_type.0 ≡ b) → b ≡ false → data_by d.record_type.0 [] 0 d.octets b own ≡ Some (V.Other d)
    by true own f = absurd (true≢false f)
    by false own f =
        ap (λ (form : Option (ℕ × ℕ)). in_form form [] 0 d.octets >>= λ s. Some (V.Other (other_data d.record_type s own)))
        (nothing_there (form_of d.record_type.0) none)
        ∙ λ i. Some (V.Other (other_data d.record_type d.octets (Bool-set (has_own_case d.record_type.0) false own d.other i)))

pub in_plain_form : (d : OtherData) (t : ℕ) (b : Bool) → length d.octets ≤ 65535 → t ≡ d.record_type.0 → b ≡ is_some (form_of t) → b ≡ false → IsInForm d
in_plain_form d t b short type is none = (short, without_names d (ap (λ x. is_some (form_of x)) (sym type) ∙ sym is ∙ none))

-- the data that have octets
other_of : (x : RData) (octets : List ℕ) → HasOctets x octets → (d : OtherData) × (x ≡ V.Other d) × (d.octets ≡ octets)
other_of (V.A d) octets h = absurd h
other_of (V.AAAA d) octets h = absurd h
other_of (V.NS d) octets h = absurd h
other_of (V.CNAME d) octets h = absurd h
other_of (V.ANAME d) octets h = absurd h
other_of (V.SOA d) octets h = absurd h
other_of (V.MX d) octets h = absurd h
other_of (V.SRV d) octets h = absurd h
other_of (V.DNSKEY d) octets h = absurd h
other_of (V.NSEC d) octets h = absurd h
other_of (V.NSEC3 d) octets h = absurd h
other_of (V.NSEC3PARAM d) octets h = absurd h
other_of (V.RRSIG d) octets h = absurd h
other_of (V.Other d) octets h = (d, refl, h)

held : (x : RData) (d : OtherData) (octets : List ℕ) → Some x ≡ Some (V.Other d) → d.octets ≡ octets → HasOctets x octets
held x d octets e f = let is : x ≡ V.Other d = cc in subst (λ y. HasOctets y octets) (sym is) f

-- what is known where octets are compared with those that were read
pub form_match : (d : OtherData) (x : RData) (b : Bool) (t : ℕ) (octets : List ℕ) → length d.octets ≤ 65535 → Some x ≡ plain_data_of t octets
    → t ≡ d.record_type.0 → octets ≡ d.octets → MatchBool b (HasOctets x octets) (HasOctets x octets → ⊥) → MatchBool b (IsInForm d) (IsInForm d → ⊥)
form_match d x true t octets short found type same h =
    let other = other_of x octets h in
    let plain : plain_data_of d.record_type.0 d.octets ≡ Some (V.Other other.0) =
    (λ i. plain_data_of (sym type i) (sym same i)) ∙ sym found ∙ ap (λ y. Some y) other.1 in
    (short, in_form_is d other.0 plain (other.2 ∙ same))
form_match d x false t octets short found type same h =
    λ w. h (held x d octets (found ∙ (λ i. plain_data_of (type i) (same i)) ∙ w.1) (sym same))

pub no_form : (d : OtherData) (t : ℕ) (octets : List ℕ) → None ≡ plain_data_of t octets → t ≡ d.record_type.0 → octets ≡ d.octets → IsInForm d → ⊥
no_form d t octets found type same w =
    let clash : None ≡ Some (V.Other d) = found ∙ (λ i. plain_data_of (type i) (same i)) ∙ w.1 in absurd cc

pub other_match : (d : OtherData) (b : Bool) → (d.record_type.0 ≡ 41 → ⊥) → MatchBool b (IsInForm d) (IsInForm d → ⊥)
    → MatchBool b (IsWritable (V.Other d)) (IsWritable (V.Other d) → ⊥)
other_match d true other h = (other, h)
other_match d false other h = λ w. h w.1
