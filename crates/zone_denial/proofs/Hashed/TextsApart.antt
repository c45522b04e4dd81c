-- Digests are distinguished by their texts in base32hex, whatever their lengths, and so by the owners that they are of
use Rattle.std.proofs.Common.{◌≡◌, ℕ, ◌+◌, ◌*◌, ◌/◌, List, ◌∷◌, length, sym, ap, ◌∙◌, arith}
use Rattle.std.specs.Char.{digit_char}
use Rattle.std.specs.Cmp.Lexicographic.{nat_list_cmp_total}
use Rattle.std.specs.List.{AllByRecursion}
use Rattle.std.proofs.lemmas.Cmp.{tied_itself}
use Rattle.std.proofs.lemmas.List.FromFn.{length-map-range_with_len}
use Rattle.zone_proto.specs.Base32.{base32_count, base32_text, five_bits}
use Rattle.zone_proto.specs.HashedOwners.{hashed_owner}
use Rattle.zone_proto.specs.Names.{Name, octets_cmp}
use Rattle.zone_proto.specs.Ranges.{IsOctet}
use Rattle.zone_proto.proofs.Ordering.Base32Order.{texts_sort}
use Rattle.zone_denial.proofs.Hashed.Nsec3Owners.{octets_order}

counts_apart : (m n : ℕ) → (m * 8 + 4) / 5 ≡ (n * 8 + 4) / 5 → m ≡ n
counts_apart m n e = omega arith

text_length : (d : List ℕ) → length (base32_text d) ≡ base32_count (length d)
text_length d = length-map-range_with_len (λ i. digit_char (five_bits d (i * 5))) 0 (base32_count (length d))

texts_apart : (d e : List ℕ) → AllByRecursion IsOctet d → AllByRecursion IsOctet e → base32_text d ≡ base32_text e → d ≡ e
texts_apart d e h k same =
    let alike : length d ≡ length e = counts_apart (length d) (length e) (sym (text_length d) ∙ ap (λ (t : List ℕ). length t) same ∙ text_length e) in
    octets_order.exact d e (sym (texts_sort d e alike h k) ∙ ap (octets_cmp (base32_text d)) (sym same) ∙ tied_itself nat_list_cmp_total (base32_text d))

heads : (k l : List ℕ) (ls ms : Name) → k ∷ ls ≡ l ∷ ms → k ≡ l
heads k l ls ms e = cc

pub owners_apart : (zone : Name) (d e : List ℕ) → AllByRecursion IsOctet d → AllByRecursion IsOctet e → hashed_owner zone d ≡ hashed_owner zone e → d ≡ e
owners_apart zone d e h k same = texts_apart d e h k (heads (base32_text d) (base32_text e) zone zone same)
