-- Whether types are those of a map, as a loop over them finds it
use Rattle.std.proofs.Common.{◌≡◌, ℕ, ◌+◌, ◌<◌, ◌≤◌, true, false, List, [], length, drop, sym, ap, subst, ◌∙◌, arith, true≢false}
use Rattle.std.specs.Prelude.{get_or}
use Rattle.std.specs.List.{AllByRecursion}
use Rattle.std.proofs.lemmas.List.{drop_all}
use Rattle.zone_proto.specs.declared.record_type.RecordType.{RecordType}
use Rattle.message_reading.specs.TypeMaps.{is_passed_over}
use Rattle.message_writing.specs.DataText.{AreMapTypes, AreTypeNumbers}
use Rattle.message_writing.specs.TypeMapText.{IsAscendingFrom, numbers}
use Rattle.message_writing.proofs.MapWriting.{left_at}

abbrev AreKept : List ℕ → Type 0
AreKept = AllByRecursion (λ t. is_passed_over t ≡ false)

-- What is left of types says whether all of them are those of a map.
pub record AreChecked (ts : List RecordType) (i lowest : ℕ) : Type 0 where
  pub all : IsAscendingFrom lowest (numbers (drop i ts)) → AreKept (numbers (drop i ts)) → AreMapTypes ts
  pub ascend : AreMapTypes ts → IsAscendingFrom lowest (numbers (drop i ts))
  pub kept : AreMapTypes ts → AreKept (numbers (drop i ts))
  pub short : AreTypeNumbers (drop i ts) → AreTypeNumbers ts

pub checked_none : (ts : List RecordType) → AreChecked ts 0 0
checked_none ts = record { all = λ a k. record { ascend = a; kept = k }; ascend = λ m. m.ascend; kept = λ m. m.kept; short = λ n. n }

pub checked_more : (ts : List RecordType) (i lowest : ℕ) (t : RecordType) → i < length ts → t ≡ get_or ts i t → lowest ≤ t.0 → is_passed_over t.0 ≡ false
    → t.0 < 65536 → AreChecked ts i lowest → AreChecked ts (i + 1) (t.0 + 1)
checked_more ts i lowest t inside is low kept short h =
    let e = left_at ts i t inside is in
    record {
      all = λ a k. h.all (subst (IsAscendingFrom lowest) (sym e) (low, a)) (subst AreKept (sym e) (kept, k));
      ascend = λ m. (subst (IsAscendingFrom lowest) e (h.ascend m)).1;
      kept = λ m. (subst AreKept e (h.kept m)).1;
      short = λ n. h.short (subst (AllByRecursion (λ x. x < 65536)) (sym e) (short, n));
    }

pub checked_end : (ts : List RecordType) (i lowest : ℕ) → length ts ≤ i → AreChecked ts i lowest → AreMapTypes ts
checked_end ts i lowest past h =
    let none : numbers (drop i ts) ≡ [] = ap numbers (drop_all i ts past) in
    h.all (subst (IsAscendingFrom lowest) (sym none) tt) (subst AreKept (sym none) tt)

pub all_short : (ts : List RecordType) (i lowest : ℕ) → length ts ≤ i → AreChecked ts i lowest → AreTypeNumbers ts
all_short ts i lowest past h = h.short (subst (AllByRecursion (λ x. x < 65536)) (sym (ap numbers (drop_all i ts past))) tt)

pub not_ascending : (ts : List RecordType) (i lowest : ℕ) (t : RecordType) → i < length ts → t ≡ get_or ts i t → t.0 < lowest → AreChecked ts i lowest
    → AreMapTypes ts → ⊥
not_ascending ts i lowest t inside is below h m =
    let low : lowest ≤ t.0 = (subst (IsAscendingFrom lowest) (left_at ts i t inside is) (h.ascend m)).0 in
    absurd (omega (arith, below, low))

pub not_kept : (ts : List RecordType) (i lowest : ℕ) (t : RecordType) → i < length ts → t ≡ get_or ts i t → is_passed_over t.0 ≡ true
    → AreChecked ts i lowest → AreMapTypes ts → ⊥
not_kept ts i lowest t inside is passed h m =
    true≢false (sym passed ∙ (subst AreKept (left_at ts i t inside is) (h.kept m)).0)
