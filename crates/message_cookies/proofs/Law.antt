-- A server takes the cookies that it makes
use Rattle.std.proofs.Common.{◌≡◌, ◌⊎◌, ◌^◌, ◌<◌, ◌≤◌, ◌-◌, ◌+◌, true, ℕ, List, [], ◌∷◌, ◌++◌, Option, Some, None, length, take, drop, get_or, inl, inr, arith, ap, sym, ◌∙◌, refl, length-append}
use Rattle.std.proofs.Math.Bool.{or-true}
use Rattle.std.proofs.Math.Seq.{take-append_seam, drop-append_seam}
use Rattle.std.proofs.lemmas.List.{append_assoc, get_or-append_right}
use Rattle.std.proofs.lemmas.Bool.{eq-eqb}
use Rattle.std.proofs.lemmas.Nat.{from_be_bytes-to_be_bytes_4}
use Rattle.std.specs.Prelude.{IsTrue, nat_eq}
use Rattle.std.specs.Cmp.Lexicographic.{pointwise}
use Rattle.std.specs.Int.{w32, to_be_bytes}
use Rattle.message_cookies.specs.declared.secrets.CookieSecrets.{CookieSecrets}
use Rattle.message_cookies.specs.Cookies.{IsTakenWhileTimely, before_code, checked_cookie, code_of, cookie_of, is_made_with, is_made_with_one, is_timely, is_valid, time_in}

same_as_itself : (xs : List ℕ) → pointwise nat_eq xs xs ≡ true
same_as_itself [] = refl
same_as_itself (x ∷ xs) = rw (eq-eqb x x refl) (same_as_itself xs)

by_either : (current : List ℕ) (previous : Option (List ℕ)) (secret cookie address : List ℕ) →
    (current ≡ secret) ⊎ (previous ≡ Some secret) → is_made_with secret cookie address ≡ true →
    is_made_with_one current previous cookie address ≡ true
unfolding is_made_with_one
by_either current None secret cookie address (inl e) made = rw e made
by_either current None secret cookie address (inr e) made = cc
by_either current (Some previous) secret cookie address (inl e) made = rw (e, made) refl
by_either current (Some previous) secret cookie address (inr e) made =
    let same : previous ≡ secret = cc in
    rw (same, made) (or-true _)

module _ (secret client address : List ℕ) (now : ℕ) (size : length client ≡ 8) (fits : now < 2 ^ 32) where
  size_before : length (before_code client now) ≡ 16
  size_before = length-append client (1 ∷ 0 ∷ 0 ∷ 0 ∷ to_be_bytes w32 now) ∙ ap (λ n. n + 8) size

  size_of_code : (before : List ℕ) → length (code_of secret before address) ≡ 8
  unfolding code_of
  size_of_code before = refl

  size_of_cookie : length (cookie_of secret client address now) ≡ 24
  unfolding cookie_of
  size_of_cookie = length-append (before_code client now) (code_of secret (before_code client now) address)
      ∙ omega (arith, size_before, size_of_code (before_code client now))

  behind_client : (i : ℕ) → 8 ≤ i → get_or (cookie_of secret client address now) i 0
      ≡ get_or ((1 ∷ 0 ∷ 0 ∷ 0 ∷ to_be_bytes w32 now) ++ code_of secret (before_code client now) address) (i - 8) 0
  unfolding cookie_of
  behind_client i from =
      ap (λ xs. get_or xs i 0) (append_assoc client (1 ∷ 0 ∷ 0 ∷ 0 ∷ to_be_bytes w32 now) (code_of secret (before_code client now) address))
      ∙ get_or-append_right client _ 8 i 0 size from

  version : get_or (cookie_of secret client address now) 8 0 ≡ 1
  version = behind_client 8 (omega arith)

  time : time_in (cookie_of secret client address now) ≡ now
  unfolding time_in
  time =
      let a = behind_client 12 (omega arith) in
      let b = behind_client 13 (omega arith) in
      let c = behind_client 14 (omega arith) in
      let d = behind_client 15 (omega arith) in
      rw (a, b, c, d) (from_be_bytes-to_be_bytes_4 now fits)

  front : take 16 (cookie_of secret client address now) ≡ before_code client now
  unfolding cookie_of
  front = ap (λ n. take n (before_code client now ++ code_of secret (before_code client now) address)) (sym size_before)
      ∙ take-append_seam (before_code client now) _

  back : drop 16 (cookie_of secret client address now) ≡ code_of secret (before_code client now) address
  unfolding cookie_of
  back = ap (λ n. drop n (before_code client now ++ code_of secret (before_code client now) address)) (sym size_before)
      ∙ drop-append_seam (before_code client now) _

  made : is_made_with secret (cookie_of secret client address now) address ≡ true
  unfolding is_made_with
  made = rw (front, back) (same_as_itself (code_of secret (before_code client now) address))

  valid : (secrets : CookieSecrets) (later : ℕ) → (secrets.current ≡ secret) ⊎ (secrets.previous ≡ Some secret) →
      IsTrue (is_timely later now) → is_valid secrets (cookie_of secret client address now) address later ≡ true
  unfolding is_valid
  valid secrets later by timely =
      let one = by_either secrets.current secrets.previous secret (cookie_of secret client address now) address by made in
      rw (size_of_cookie, version, time, one, timely) refl

  pub is_taken : IsTakenWhileTimely secret (cookie_of secret client address now) address now
  unfolding checked_cookie
  is_taken secrets later by timely = rw (size_of_cookie, valid secrets later by timely) refl
