-- Numbers and names in data, read back
use Rattle.std.proofs.Common.{◌≡◌, ℕ, ◌+◌, ◌*◌, ◌/◌, ◌%◌, ◌≤◌, List, [], ◌∷◌, ◌++◌, length, drop, Some, None, refl, sym, ap, ◌∙◌, append_assoc, arith}
use Rattle.zone_proto.specs.Names.{Name, IsName, wire_form}
use Rattle.message_reading.specs.Octets.{short_of, long_of, counted_of}
use Rattle.message_reading.specs.MessageNames.{name_of, plain_name_of}
use Rattle.message_writing.specs.Continuing.{Continues}
use Rattle.message_writing.specs.KnownNames.{IsCut}
use Rattle.message_writing.specs.DataText.{short_text, long_text, counted_text}
use Rattle.message_writing.proofs.Steps.{octets_back}
use Rattle.message_writing.proofs.NameWriting.{cut_back}
use Rattle.message_writing.proofs.CutTexts.{wire_cut}

pub short_back : (n : ℕ) (after : List ℕ) → short_of (short_text n ++ after) ≡ Some (n, after)
short_back n after = let e : (n / 256) * 256 + n % 256 ≡ n = omega arith in rw e refl

pub long_back : (n : ℕ) (after : List ℕ) → long_of (long_text n ++ after) ≡ Some (n, after)
long_back n after =
    let high = n / 65536 in
    let low = n % 65536 in
    let e₁ : (high / 256) * 256 + high % 256 ≡ high = omega arith in
    let e₂ : (low / 256) * 256 + low % 256 ≡ low = omega arith in
    let e₃ : high * 65536 + low ≡ n = omega arith in
    rw (e₁, e₂, e₃) refl

pub counted_back : (text after : List ℕ) → counted_of (counted_text text ++ after) ≡ Some (text, after)
counted_back text after = octets_back text after

-- ---- a name without pointers is its wire form

all_labels : (n : Name) → drop (length n) n ≡ []
all_labels [] = refl
all_labels (l ∷ n) = all_labels n

pub uncut : (octets : List ℕ) (n : Name) → IsCut octets (length n) None n
uncut octets n = record { within = omega arith; rest = all_labels n }

pub nothing_more : Continues [] [] []
nothing_more = record { size = refl; body = refl }

pub plain_back : (n : Name) (after : List ℕ) → IsName n → plain_name_of (wire_form n ++ after) ≡ Some (n, after)
plain_back n after valid =
    ap (λ s. plain_name_of (s ++ after)) (sym (wire_cut n))
    ∙ cut_back [] [] [] 0 (length n) None n after nothing_more (omega arith) (uncut [] n) valid

-- a name without pointers is read where names may have some too
pub wire_back : (before more m : List ℕ) (at : ℕ) (n : Name) (after : List ℕ) → Continues before more m → length before ≤ at → IsName n
    → name_of m at (wire_form n ++ after) ≡ Some (n, after)
wire_back before more m at n after g behind valid =
    ap (λ s. name_of m at (s ++ after)) (sym (wire_cut n))
    ∙ cut_back before more m at (length n) None n after g behind (uncut before n) valid

-- ---- texts that are written one behind the other

pub then : (old mid new a b : List ℕ) → mid ≡ old ++ a → new ≡ mid ++ b → new ≡ old ++ (a ++ b)
then old mid new a b e f = f ∙ ap (λ s. s ++ b) e ∙ append_assoc old a b

pub three : (o₀ o₁ o₂ o₃ a b c : List ℕ) → o₁ ≡ o₀ ++ a → o₂ ≡ o₁ ++ b → o₃ ≡ o₂ ++ c → o₃ ≡ o₀ ++ (a ++ (b ++ c))
three o₀ o₁ o₂ o₃ a b c e₁ e₂ e₃ = then o₀ o₁ o₃ a (b ++ c) e₁ (then o₁ o₂ o₃ b c e₂ e₃)

pub five : (o₀ o₁ o₂ o₃ o₄ o₅ a b c d e : List ℕ) → o₁ ≡ o₀ ++ a → o₂ ≡ o₁ ++ b → o₃ ≡ o₂ ++ c → o₄ ≡ o₃ ++ d → o₅ ≡ o₄ ++ e
    → o₅ ≡ o₀ ++ (a ++ (b ++ (c ++ (d ++ e))))
five o₀ o₁ o₂ o₃ o₄ o₅ a b c d e e₁ e₂ e₃ e₄ e₅ =
    then o₀ o₁ o₅ a (b ++ (c ++ (d ++ e))) e₁ (then o₁ o₂ o₅ b (c ++ (d ++ e)) e₂ (three o₂ o₃ o₄ o₅ c d e e₃ e₄ e₅))
