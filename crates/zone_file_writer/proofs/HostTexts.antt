-- The words of a host, put behind a text and two numbers
use Rattle.std.proofs.Common.{◌≡◌, ℕ, List, [], ◌∷◌, ◌++◌, Option, Some, None, refl, ap, ◌∙◌, append_assoc, ◌≤◌, ◌/◌, ◌%◌, ◌-◌, zero, suc, length, take, drop, get_or, arith}
use Rattle.std.specs.Fmt.{decimal}
use Rattle.zone_file_writer.specs.Rows.{appended, behind_numbers, behind_spaces, gateway_words, host_word, one_host, relay_words}
use Rattle.zone_file_writer.specs.Words.{PrintedWord}

host_behind : (text new : List ℕ) (m n : ℕ) (host : Option (PrintedWord × List ℕ)) → new ≡ text ++ (32 ∷ (decimal m ++ (32 ∷ decimal n)))
    → appended new (one_host host) ≡ appended text (behind_numbers m n host)
host_behind text new m n None e = refl
host_behind text new m n (Some h) e =
    let last : List ℕ = behind_spaces (h.0 ∷ []) in
    let words : List ℕ = 32 ∷ (decimal m ++ (32 ∷ decimal n)) in
    ap (λ (t : List ℕ). Some (t, h.1))
    (ap (λ (t : List ℕ). t ++ last) e ∙ append_assoc text words last
    ∙ ap (λ (t : List ℕ). text ++ (32 ∷ t)) (append_assoc (decimal m) (32 ∷ decimal n) last))

all_of : (n : ℕ) (os : List ℕ) → n ≡ length os → take n os ≡ os
all_of zero [] e = refl
all_of zero (b ∷ os) e = absurd (omega arith)
all_of (suc n) [] e = refl
all_of (suc n) (b ∷ os) e = ap (λ (t : List ℕ). b ∷ t) (all_of n os (omega arith))

pub gateway_more : (text new os : List ℕ) → 2 ≤ length os → new ≡ text ++ (32 ∷ (decimal (get_or os 0 0) ++ (32 ∷ decimal (get_or os 1 0))))
    → appended new (one_host (host_word (get_or os 0 0) (take (length os - 2) (drop 2 os)))) ≡ appended text (gateway_words os)
gateway_more text new [] h e = absurd (omega arith)
gateway_more text new (kind ∷ []) h e = absurd (omega arith)
gateway_more text new (kind ∷ algorithm ∷ os) h e =
    ap (λ (t : List ℕ). appended new (one_host (host_word kind t))) (all_of (length (kind ∷ algorithm ∷ os) - 2) os (omega arith))
    ∙ host_behind text new kind algorithm (host_word kind os) e

pub relay_more : (text new os : List ℕ) → 1 ≤ length os → new ≡ text ++ (32 ∷ (decimal (get_or os 0 0 / 128) ++ (32 ∷ decimal (get_or os 0 0 % 128))))
    → appended new (one_host (host_word (get_or os 0 0 % 128) (take (length os - 1) (drop 1 os)))) ≡ appended text (relay_words os)
relay_more text new [] h e = absurd (omega arith)
relay_more text new (b ∷ os) h e =
    ap (λ (t : List ℕ). appended new (one_host (host_word (b % 128) t))) (all_of (length (b ∷ os) - 1) os (omega arith))
    ∙ host_behind text new (b / 128) (b % 128) (host_word (b % 128) os) e
