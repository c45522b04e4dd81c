-- The octets of two pieces that are padded for SipHash
use Rattle.std.proofs.Common.{◌≡◌, ◌≢◌, ◌≤◌, ◌<◌, ◌+◌, ◌-◌, ◌/◌, ◌%◌, ℕ, List, [], ◌∷◌, ◌++◌, get_or, length, length-append, replicate, add-one, arith, ap, ◌∙◌, refl}
use Rattle.std.proofs.lemmas.List.{get_or_append_left, get_or-append_right, get_or-replicate, length-replicate}
use Rattle.message_cookies.specs.SipHash.{compressed, padded, state_after, word_at}
use Rattle.message_cookies.specs.declared.sip_hash.State.{State}

module _ (first second : List ℕ) where
  pub octet_of_first : (i : ℕ) → i < length first → get_or (padded (first ++ second)) i 0 ≡ get_or first i 0
  unfolding padded
  octet_of_first i below =
      let inside : i < length (first ++ second) = omega (arith, length-append first second) in
      let more : i < length ((first ++ second) ++ replicate (7 - length (first ++ second) % 8) 0)
      = omega (arith, length-append (first ++ second) (replicate (7 - length (first ++ second) % 8) 0)) in
      get_or_append_left _ _ 0 i more ∙ get_or_append_left _ _ 0 i inside ∙ get_or_append_left first second 0 i below

  pub octet_of_second : (i : ℕ) → length first ≤ i → i < length first + length second →
      get_or (padded (first ++ second)) i 0 ≡ get_or second (i - length first) 0
  unfolding padded
  octet_of_second i from below =
      let inside : i < length (first ++ second) = omega (arith, length-append first second) in
      let more : i < length ((first ++ second) ++ replicate (7 - length (first ++ second) % 8) 0)
      = omega (arith, length-append (first ++ second) (replicate (7 - length (first ++ second) % 8) 0)) in
      get_or_append_left _ _ 0 i more ∙ get_or_append_left _ _ 0 i inside
      ∙ get_or-append_right first second (length first) i 0 refl from

  pub octet_of_count : (i : ℕ) → length first + length second ≤ i → i % 8 ≡ 7 →
      i < length first + length second + 8 - (length first + length second) % 8 →
      get_or (padded (first ++ second)) i 0 ≡ (length first + length second) % 256
  unfolding padded
  octet_of_count i from last below =
      let both = length-append first second in
      let fill_length : length {A = ℕ} (replicate (7 - length (first ++ second) % 8) 0) ≡ 7 - length (first ++ second) % 8
      = length-replicate _ _ in
      let before : length ((first ++ second) ++ replicate (7 - length (first ++ second) % 8) 0) ≡ i
      = length-append (first ++ second) (replicate (7 - length (first ++ second) % 8) 0) ∙ omega (arith, both, fill_length) in
      let none : i - i ≡ 0 = omega arith in
      get_or-append_right _ _ i i 0 before (omega arith)
      ∙ ap (λ n. get_or ((length (first ++ second) % 256) ∷ []) n 0) none ∙ ap (λ n. n % 256) both

  pub octet_of_none : (i : ℕ) → length first + length second ≤ i → i % 8 ≢ 7 →
      i < length first + length second + 8 - (length first + length second) % 8 →
      get_or (padded (first ++ second)) i 0 ≡ 0
  unfolding padded
  octet_of_none i from last below =
      let both = length-append first second in
      let fill_length : length {A = ℕ} (replicate (7 - length (first ++ second) % 8) 0) ≡ 7 - length (first ++ second) % 8
      = length-replicate _ _ in
      let more : i < length ((first ++ second) ++ replicate (7 - length (first ++ second) % 8) 0)
      = omega (arith, both, fill_length, length-append (first ++ second) (replicate (7 - length (first ++ second) % 8) 0)) in
      get_or_append_left _ _ 0 i more
      ∙ get_or-append_right (first ++ second) _ (length first + length second) i 0 both from
      ∙ get_or-replicate (7 - length (first ++ second) % 8) (i - (length first + length second)) 0 0 (omega (arith, both))

-- a message has a word for each 8 octets, and one more
pub words_of : (message : List ℕ) → length (padded message) / 8 ≡ length message / 8 + 1
unfolding padded
words_of message =
    let fill_length : length {A = ℕ} (replicate (7 - length message % 8) 0) ≡ 7 - length message % 8 = length-replicate _ _ in
    let before = length-append message (replicate (7 - length message % 8) 0) in
    let all : length ((message ++ replicate (7 - length message % 8) 0) ++ (length message % 256) ∷ [])
    ≡ length message + (7 - length message % 8) + 1
    = length-append (message ++ replicate (7 - length message % 8) 0) ((length message % 256) ∷ [])
    ∙ omega (arith, before, fill_length) in
    omega (arith, all)

pub words_of_both : (first second : List ℕ) →
    length (padded (first ++ second)) / 8 ≡ (length first + length second) / 8 + 1
words_of_both first second = words_of (first ++ second) ∙ ap (λ n. n / 8 + 1) (length-append first second)

-- the state after one more word
pub state_more : (s : State) (octets : List ℕ) (n : ℕ) →
    compressed (state_after s octets n) (word_at octets n) ≡ state_after s octets (n + 1)
unfolding state_after
state_more s octets n = rw add-one refl
