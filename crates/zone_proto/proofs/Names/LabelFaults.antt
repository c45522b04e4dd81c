-- The fault of labels with one more before them.
use Rattle.std.proofs.Common.{◌≡◌, ℕ, zero, suc, ◌+◌, ◌<◌, ◌≤◌, List, [], ◌∷◌, length, true, false, cond, refl, ap, ◌∙◌, arith, Some, None}
use Rattle.std.proofs.lemmas.Bool.Decides.{nat_tests}
use Rattle.std.specs.List.{AllByRecursion}
use Rattle.std.specs.Prelude.{nat_lt, ◌==◌}
use Rattle.zone_proto.specs.declared.error.ProtoError.TheVariants.{EmptyLabel, LabelTooLong, NameTooLong}
use Rattle.zone_proto.specs.Names.{IsLabel, wire_length}
use Rattle.zone_proto.specs.Faults.{label_fault, length_fault, first_of_faults, fault_of}

is_empty : (n : ℕ) → n ≡ 0 → (n == 0) ≡ true
is_empty n h = grind (arith, nat_tests)

is_some : (n : ℕ) → 0 < n → (n == 0) ≡ false
is_some n h = grind (arith, nat_tests)

is_less : (m n : ℕ) → m < n → nat_lt m n ≡ true
is_less m n h = grind (arith, nat_tests)

pub is_not_less : (m n : ℕ) → n ≤ m → nat_lt m n ≡ false
is_not_less m n h = grind (arith, nat_tests)

-- what is left to look at after a label that is one
pub label_passed : (l : List ℕ) (ls : List (List ℕ)) → 0 < length l → length l ≤ 63 → label_fault (l ∷ ls) ≡ label_fault ls
label_passed l ls some short =
    ap (λ t. cond t (Some EmptyLabel) (cond (nat_lt 63 (length l)) (Some LabelTooLong) (label_fault ls))) (is_some (length l) some)
    ∙ ap (λ t. cond t (Some LabelTooLong) (label_fault ls)) (is_not_less 63 (length l) short)

pub label_fault-none : (ls : List (List ℕ)) → AllByRecursion IsLabel ls → label_fault ls ≡ None
label_fault-none [] h = refl
label_fault-none (l ∷ ls) h = label_passed l ls h.0.some h.0.short ∙ label_fault-none ls h.1

-- where each label is one, only the length of the whole is left to look at
fault_is_length : (l : List ℕ) (ls : List (List ℕ)) → 0 < length l → length l ≤ 63 → AllByRecursion IsLabel ls → fault_of (l ∷ ls) ≡ length_fault (l ∷ ls)
fault_is_length l ls some short h = ap (λ f. first_of_faults f (length_fault (l ∷ ls))) (label_passed l ls some short ∙ label_fault-none ls h)

pub name_long_fault : (l : List ℕ) (ls : List (List ℕ)) → 0 < length l → length l ≤ 63 → AllByRecursion IsLabel ls
    → 255 < length l + 1 + wire_length ls → fault_of (l ∷ ls) ≡ Some NameTooLong
name_long_fault l ls some short h long =
    fault_is_length l ls some short h ∙ ap (λ t. cond t (Some NameTooLong) None) (is_less 255 (wire_length (l ∷ ls)) long)

pub no_fault : (l : List ℕ) (ls : List (List ℕ)) → 0 < length l → length l ≤ 63 → AllByRecursion IsLabel ls
    → length l + 1 + wire_length ls ≤ 255 → fault_of (l ∷ ls) ≡ None
no_fault l ls some short h fits =
    fault_is_length l ls some short h ∙ ap (λ t. cond t (Some NameTooLong) None) (is_not_less 255 (wire_length (l ∷ ls)) fits)

pub some_octets : (n : ℕ) → (n == 0) ≡ false → 0 < n
some_octets zero h = cc
some_octets (suc n) h = omega arith
