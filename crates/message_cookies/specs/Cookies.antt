-- DNS cookies (RFC 7873), with the server cookies that servers of all makers understand (RFC 9018)
use Rattle.std.specs.Prelude.{◌≡◌, ◌⊎◌, IsTrue, ℕ, ◌+◌, ◌-◌, ◌%◌, ◌^◌, Bool, ◌==◌, ◌&&◌, ◌||◌, not, nat_eq, nat_le, List, [], ◌∷◌, ◌++◌, length, take, drop, slice_index, Option, Some, None, if◌then◌else◌}
use Rattle.std.specs.Cmp.Lexicographic.{pointwise}
use Rattle.std.specs.Int.{w32, w64, from_be_bytes, to_be_bytes, to_le_bytes}
use Rattle.message_cookies.specs.SipHash.{siphash}
use Rattle.message_cookies.specs.declared.checking.CheckedCookie.{CheckedCookie}
use Rattle.message_cookies.specs.declared.checking.CheckedCookie.TheVariants.{ClientAlone, Invalid, Malformed, Valid}
use Rattle.message_cookies.specs.declared.secrets.CookieSecrets.{CookieSecrets}

-- ---- the data of a COOKIE option (RFC 7873 section 4)

-- how many octets it can have: a client cookie of 8, alone or before a server cookie of 8 to 32
abbrev pub is_cookie_size : ℕ → Bool
is_cookie_size n = (n == 8) || (nat_le 16 n && nat_le n 40)

-- ---- server cookies (RFC 9018 section 4): a version, three reserved octets, a time and a code

-- the code is of all that stands before it and of the client's address, the lowest octet first (section 4.4)
unfoldable pub code_of : List ℕ → List ℕ → List ℕ → List ℕ
code_of secret before address = to_le_bytes w64 (siphash secret (before ++ address))

-- what stands before the code of a cookie that is made: the client cookie, version 1, octets 0 and the time (sections 4.1 to 4.3)
abbrev pub before_code : List ℕ → ℕ → List ℕ
before_code client now = client ++ (1 ∷ 0 ∷ 0 ∷ 0 ∷ to_be_bytes w32 now)

-- a client cookie with the server cookie that is made for it
unfoldable pub cookie_of : List ℕ → List ℕ → List ℕ → ℕ → List ℕ
cookie_of secret client address now = before_code client now ++ code_of secret (before_code client now) address

-- ---- which server cookies are valid

-- the time of a cookie, in seconds since 1970 by 2 ^ 32 (section 4.3)
unfoldable pub time_in : List ℕ → ℕ
time_in cookie = from_be_bytes w32
    (slice_index cookie 12 ∷ slice_index cookie 13 ∷ slice_index cookie 14 ∷ slice_index cookie 15 ∷ [])

-- how many seconds after one time another one is, by 2 ^ 32 (RFC 1982)
abbrev pub seconds_after : ℕ → ℕ → ℕ
seconds_after earlier later = (later + 2 ^ 32 - earlier) % 2 ^ 32

-- a cookie is taken for an hour after its time, and five minutes before it, since clocks differ (section 4.3)
unfoldable pub is_timely : ℕ → ℕ → Bool
is_timely now time = nat_le (seconds_after time now) 3600 || nat_le (seconds_after now time) 300

-- a cookie has the code that its other octets and the address have; the reserved octets count as they are (section 4.2)
unfoldable pub is_made_with : List ℕ → List ℕ → List ℕ → Bool
is_made_with secret cookie address = pointwise nat_eq (code_of secret (take 16 cookie) address) (drop 16 cookie)

-- by the secret of today, or by the one before (section 5)
unfoldable pub is_made_with_one : List ℕ → Option (List ℕ) → List ℕ → List ℕ → Bool
is_made_with_one current None cookie address = is_made_with current cookie address
is_made_with_one current (Some previous) cookie address =
    is_made_with current cookie address || is_made_with previous cookie address

-- a cookie of version 1 (section 4.1) is valid if it is timely and made with a secret of the server
unfoldable pub is_valid : CookieSecrets → List ℕ → List ℕ → ℕ → Bool
is_valid secrets cookie address now =
    (length cookie == 24) && ((slice_index cookie 8 == 1)
    && (is_timely now (time_in cookie) && is_made_with_one secrets.current secrets.previous cookie address))

-- what a server finds of the data of a COOKIE option (RFC 7873 sections 5.2.2 to 5.2.5)
unfoldable pub checked_cookie : CookieSecrets → List ℕ → List ℕ → ℕ → CheckedCookie
checked_cookie secrets cookie address now =
    if not (is_cookie_size (length cookie)) then Malformed
    else if length cookie == 8 then ClientAlone
    else if is_valid secrets cookie address now then Valid else Invalid

-- ---- a law: what a server makes, it takes

-- a cookie for an address is found valid by whoever has the secret it was made with, as the current or the previous one
abbrev pub IsTakenWhileTimely : List ℕ → List ℕ → List ℕ → ℕ → Type 0
IsTakenWhileTimely secret cookie address now = (secrets : CookieSecrets) (later : ℕ) →
    (secrets.current ≡ secret) ⊎ (secrets.previous ≡ Some secret) → IsTrue (is_timely later now) →
    checked_cookie secrets cookie address later ≡ Valid
