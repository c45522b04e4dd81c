-- What is read of words, step by step.
use Rattle.std.proofs.Common.{◌≡◌, ◌↔◌, ◌⊎◌, inl, inr, ℕ, List, [], ◌∷◌, Bool, true, false, refl, sym, ap, ◌∙◌, subst, arith, Option, Some, None, true≢false}
use Rattle.std.specs.Prelude.{option_map, option_and_then}
use Rattle.std.specs.Str.{IsUtf8}
use Rattle.std.proofs.lemmas.Str.{IsUtf8-from_ascii}
use Rattle.zone_proto.specs.declared.error.ProtoError.{ProtoError}
use Rattle.zone_proto.specs.declared.error.ProtoError.TheVariants as proto
use Rattle.line_text.specs.declared.error.TextError.{TextError}
use Rattle.line_text.specs.declared.error.TextError.TheVariants.{Memory, BadText}
use Rattle.zone_proto.specs.declared.record_type.RecordType.{RecordType}
use Rattle.zone_proto.specs.Names.{Name, IsName}
use Rattle.zone_proto.specs.TextForm.{IsNameText}
use Rattle.zone_proto.specs.Parse.{labels_of_text}
use Rattle.zone_proto.specs.TypeText.{type_of_text}
use Rattle.zone_proto.specs.Faults.{fault_of, IsTextFault, no_labels, no_name}
use Rattle.zone_proto.proofs.Texts.TextForms.{form_read, read_form, one_form}
use Rattle.zone_proto.proofs.Texts.TextFaults.{name_has_no_fault, read_or_refused}
use mathlib.Core.Bool.{Bool-set}
use Rattle.zone_proto.specs.Types.{has_own_case}
use Rattle.zone_proto.specs.declared.rdata.other.OtherData.{OtherData}
use Rattle.zone_proto.specs.declared.rdata.RData.TheVariants as V
use Rattle.line_text.specs.Hex.{hex_word}
use Rattle.line_text.specs.Reading.{WordList, Reading, next_word, then_read, name_of_word, type_of_word, unless_fault}
use Rattle.line_text.specs.Other.{other_unless_own, other_of_word}
use Rattle.line_text.proofs.Ascii.{name_ascii, type_ascii}

-- ---- one word, and one reading after the other

pub word_read : {X : Type 0} (read : List ℕ → Option X) (ws us : WordList) (w : List ℕ) (x : X) → ws ≡ w ∷ us → read w ≡ Some x → next_word read ws ≡ Some (x, us)
word_read read ws us w x e h = rw (e, h) refl

pub word_refused : {X : Type 0} (read : List ℕ → Option X) (ws us : WordList) (w : List ℕ) → ws ≡ w ∷ us → read w ≡ None → next_word read ws ≡ None
word_refused read ws us w e h = rw (e, h) refl

pub no_word : {X : Type 0} (read : List ℕ → Option X) (ws : WordList) → ws ≡ [] → next_word read ws ≡ None
no_word read ws e = rw e refl

pub then_some : {X Y : Type 0} (r : Reading X) (f : X → WordList → Reading Y) (x : X) (ws : WordList) → r ≡ Some (x, ws) → then_read r f ≡ f x ws
then_some r f x ws e = rw e refl

pub then_none : {X Y : Type 0} (r : Reading X) (f : X → WordList → Reading Y) → r ≡ None → then_read r f ≡ None
then_none r f e = rw e refl

-- ---- names

pub name_read : (w : List ℕ) (n : Name) → IsNameText w n → IsName n → name_of_word w ≡ Some n
name_read w n form name = rw (form_read w n form) (by (fault_of n) refl)
  where
    by : (f : Option ProtoError) → fault_of n ≡ f → unless_fault f n ≡ Some n
    by None e = refl
    by (Some g) e = absurd (name_has_no_fault w n g form name (no_name n form e))

pub name_refused : (w : List ℕ) (e : ProtoError) → IsTextFault w e → name_of_word w ≡ None
name_refused w e (no_labels bad is) = by (labels_of_text w) refl
  where
    by : (o : Option Name) → labels_of_text w ≡ o → option_and_then (λ ls. unless_fault (fault_of ls) ls) o ≡ None
    by None h = refl
    by (Some ls) h = absurd (bad ls (read_form w ls h))
name_refused w e (no_name ls form fault) = rw (form_read w ls form, fault) refl

pub name_not_text : (w : List ℕ) → ¬ (IsUtf8 w) → name_of_word w ≡ None
name_not_text w wrong = by (labels_of_text w) refl
  where
    by : (o : Option Name) → labels_of_text w ≡ o → option_and_then (λ ls. unless_fault (fault_of ls) ls) o ≡ None
    by None h = refl
    by (Some ls) h = absurd (wrong (IsUtf8-from_ascii w (name_ascii w ls (read_form w ls h))))

is_name : (w : List ℕ) (n : Name) → IsNameText w n → fault_of n ≡ None → IsName n
is_name w n form sound = by (read_or_refused w)
  where
    by : ((m : Name) × IsNameText w m × IsName m) ⊎ ((e : ProtoError) × IsTextFault w e) → IsName n
    by (inl (m, other, name)) = subst IsName (one_form w m n other form) name
    by (inr (e, no_labels bad is)) = absurd (bad n form)
    by (inr (e, no_name ls other fault)) =
        let P : Name → Type 0 = λ m. fault_of m ≡ Some e in
        let found : fault_of n ≡ Some e = subst P (one_form w ls n other form) fault in
        absurd (grind arith)

-- a word that is refused as a name, for another cause than lack of memory
pub refused_name : (ws us : WordList) (w t : List ℕ) (e : ProtoError) (f : TextError) → ws ≡ w ∷ us → t ≡ w → (f ≡ Memory ↔ (e ≡ proto.Memory)) → ((e ≡ proto.Memory) ⊎ IsTextFault t e) → f ≡ BadText → next_word name_of_word ws ≡ None
refused_name ws us w t e f words text from (inl m) bad =
    let memory : f ≡ Memory = from.1 m in
    let clash : BadText ≡ Memory = sym bad ∙ memory in
    absurd (grind arith)
refused_name ws us w t e f words text from (inr fault) bad =
    let P : List ℕ → Type 0 = λ s. IsTextFault s e in
    word_refused name_of_word ws us w words (name_refused w e (subst P text fault))

name_of_labels : (w : List ℕ) (n : Name) → name_of_word w ≡ Some n → (labels_of_text w ≡ Some n) × (fault_of n ≡ None)
name_of_labels w n h = by (labels_of_text w) refl h
  where
    told : (ls : Name) (f : Option ProtoError) → fault_of ls ≡ f → unless_fault f ls ≡ Some n → (ls ≡ n) × (fault_of ls ≡ None)
    told ls None e g = (grind arith, e)
    told ls (Some x) e g = absurd (grind arith)

    by : (o : Option Name) → labels_of_text w ≡ o → option_and_then (λ ls. unless_fault (fault_of ls) ls) o ≡ Some n → (labels_of_text w ≡ Some n) × (fault_of n ≡ None)
    by None e g = absurd (grind arith)
    by (Some ls) e g =
        let t = told ls (fault_of ls) refl g in
        let P : Name → Type 0 = λ m. fault_of m ≡ None in
        (e ∙ ap (λ (m : Name). Some m) t.0, subst P t.0 t.1)

-- a word is read as a name exactly if it is of that name's text form
pub name_form : (w : List ℕ) (n : Name) → (name_of_word w ≡ Some n) ↔ (IsNameText w n × IsName n)
name_form w n = (
  λ h. let found = name_of_labels w n h in let form = read_form w n found.0 in (form, is_name w n form found.1),
  λ h. name_read w n h.0 h.1,
)

-- ---- types

pub type_read : (w : List ℕ) (o : Option RecordType) → option_map (λ t. t.0) o ≡ type_of_text w → type_of_word w ≡ o
type_read w None h = rw (sym h) refl
type_read w (Some t) h = rw (sym h) refl

abbrev typed : ℕ → RecordType
typed t = record { 0 = t }

pub type_not_text : (w : List ℕ) → ¬ (IsUtf8 w) → type_of_word w ≡ None
type_not_text w wrong = by (type_of_text w) refl
  where
    by : (o : Option ℕ) → type_of_text w ≡ o → option_map typed o ≡ None
    by None h = refl
    by (Some t) h = absurd (wrong (IsUtf8-from_ascii w (type_ascii w t h)))

-- ---- octets of a type without a case of its own

abbrev other_data : (x : RecordType) → List ℕ → has_own_case x.0 ≡ false → OtherData
other_data x os p = record { record_type = x; octets = os; other = p }

same_other : (r : RecordType) (octets : List ℕ) (own : has_own_case r.0 ≡ false) (d : OtherData) → d.record_type ≡ r → d.octets ≡ octets → other_data r octets own ≡ d
same_other r octets own d k o =
    let Same : RecordType → Type 0 = λ x. (p : has_own_case x.0 ≡ false) → other_data r octets own ≡ other_data x octets p in
    let base : Same r = λ p. ap (other_data r octets) (Bool-set (has_own_case r.0) false own p) in
    subst Same (sym k) base d.other ∙ ap (λ os. other_data d.record_type os d.other) (sym o)

pub other_read : (r : RecordType) (w octets : List ℕ) (d : OtherData) → hex_word w ≡ Some octets → d.record_type ≡ r → d.octets ≡ octets → other_of_word r.0 w ≡ Some (V.Other d)
other_read r w octets d h k o = rw h (by (has_own_case r.0) refl (subst (λ (x : RecordType). has_own_case x.0 ≡ false) k d.other))
  where
    by : (b : Bool) (e : has_own_case r.0 ≡ b) → b ≡ false → other_unless_own r.0 octets b e ≡ Some (V.Other d)
    by true e g = absurd (true≢false g)
    by false e g = ap (λ (x : OtherData). Some (V.Other x)) (same_other r octets e d k o)

pub ruleset reading = (word_read, word_refused, no_word, then_some, then_none, name_read, name_refused, name_not_text, type_read, type_not_text, other_read)
