-- Readings one after the other, and octets behind which more stands
use Rattle.std.proofs.Common.{◌≡◌, ℕ, ◌+◌, ◌-◌, ◌≤◌, true, leb, List, [], ◌∷◌, ◌++◌, length, take, drop, Option, Some, None, refl, sym, ap, ◌∙◌, arith}
use Rattle.std.proofs.lemmas.Bool.{leb-true, le-leb}
use Rattle.std.proofs.lemmas.List.{length-append, length-drop, take-append-le, drop-append-le, take_at, drop_at, drop-drop}
use Rattle.std.proofs.lemmas.Option.{cond_some}
use Rattle.message_reading.specs.Octets.{◌>>=◌, octet_of, octets_of}

-- the value of a step that found one
pub bind_some : {A B : Type 0} (r : Option A) (f : A → Option B) (y : B) → (r >>= f) ≡ Some y → (x : A) × (r ≡ Some x) × (f x ≡ Some y)
bind_some None f y e = absurd cc
bind_some (Some x) f y e = (x, refl, e)

-- the rest of what was found, with more behind it
abbrev pub with_more : {A : Type 0} → List ℕ → A × List ℕ → A × List ℕ
with_more after found = (found.0, found.1 ++ after)

pub some_more : {A : Type 0} (after : List ℕ) (x y : A × List ℕ) → Some x ≡ Some y → Some (with_more after x) ≡ Some (with_more after y)
some_more after x y e = let same : x ≡ y = cc in ap (λ z. Some (with_more after z)) same

-- ---- what is read is read again where more follows

pub octet_goes_on : (octets after : List ℕ) (x : ℕ × List ℕ) → octet_of octets ≡ Some x → octet_of (octets ++ after) ≡ Some (with_more after x)
octet_goes_on [] after x e = absurd cc
octet_goes_on (b ∷ octets) after x e = some_more after (b, octets) x e

pub octets_go_on : (n : ℕ) (octets after : List ℕ) (x : List ℕ × List ℕ) → octets_of n octets ≡ Some x → octets_of n (octets ++ after) ≡ Some (with_more after x)
octets_go_on n octets after x e =
    let g = cond_some (leb n (length octets)) (take n octets, drop n octets) x e in
    let le : n ≤ length octets = leb-true n (length octets) g.0 in
    let long : leb n (length (octets ++ after)) ≡ true = le-leb _ _ (omega (arith, length-append octets after)) in
    rw (long, take-append-le n octets after le, drop-append-le n octets after le) (ap (λ (y : List ℕ × List ℕ). Some (with_more after y)) g.1)

-- ---- what is written is read

pub octets_back : (text after : List ℕ) → octets_of (length text) (text ++ after) ≡ Some (text, after)
octets_back text after =
    let long : leb (length text) (length (text ++ after)) ≡ true = le-leb _ _ (omega (arith, length-append text after)) in
    rw (long, take_at text after (length text) refl, drop_at text after (length text) refl) refl

-- ---- a message that goes on with octets has them at the same offsets

pub goes_on_at : (before rest message : List ℕ) → drop 12 message ≡ drop 12 before ++ rest → (p : ℕ) → 12 ≤ p → p ≤ length before
    → drop p message ≡ drop p before ++ rest
goes_on_at before rest message body p low high =
    let e : 12 + (p - 12) ≡ p = omega arith in
    let there : drop p message ≡ drop (p - 12) (drop 12 message) = sym (drop-drop (p - 12) 12 message ∙ ap (λ n. drop n message) e) in
    let here : drop (p - 12) (drop 12 before) ≡ drop p before = drop-drop (p - 12) 12 before ∙ ap (λ n. drop n before) e in
    let inside : p - 12 ≤ length (drop 12 before) = omega (arith, length-drop 12 before) in
    there ∙ ap (drop (p - 12)) body ∙ drop-append-le (p - 12) (drop 12 before) rest inside ∙ ap (λ s. s ++ rest) here
