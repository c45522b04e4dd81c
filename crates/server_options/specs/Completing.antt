-- The options that a response gets
use Rattle.std.specs.Prelude.{ℕ, ◌+◌, ◌-◌, ◌%◌, ◌==◌, List, [], ◌∷◌, ◌++◌, length, nat_le, nat_lt, take, Option, Some, None, if◌then◌else◌}
use Rattle.message_cookies.specs.Cookies.{cookie_of}
use Rattle.message_cookies.specs.declared.secrets.CookieSecrets.{CookieSecrets}
use Rattle.message_options.specs.Options.{ends_with_opt, number_text, option_text, with_options}
use Rattle.server_options.specs.declared.arrival.Arrival.{Arrival}

-- one more option, unless the options go over so many octets with it
abbrev pub added : ℕ → List ℕ → ℕ → List ℕ → List ℕ
added room options code value =
    if nat_le (length options + (4 + length value)) room then options ++ option_text code value else options

-- a new server cookie beside the client cookie, the first eight octets of the query's option (RFC 7873 section 5.2.3, RFC 9018)
abbrev pub with_cookie : ℕ → List ℕ → Option (CookieSecrets × List ℕ) → Arrival → List ℕ
with_cookie room options None a = options
with_cookie room options (Some cookie) a =
    if nat_lt (length cookie.1) 8 then options
    else added room options 10 (cookie_of cookie.0.current (take 8 cookie.1) a.address.now a.moment)

-- The extended error of a response (RFC 8914 section 4): where it is refused (5), no zone of the server has the name: Not Authoritative,
-- 20; where the server has failed (2), a record can't be sent: Other, 0.
abbrev pub error_by : ℕ → Option ℕ
error_by code = if code == 5 then Some 20 else if code == 2 then Some 0 else None

-- the code is in the lower half of the fourth octet (RFC 1035 section 4.1.1)
abbrev pub error_in : List ℕ → Option ℕ
error_in (a ∷ b ∷ c ∷ fourth ∷ rest) = error_by (fourth % 16)
error_in _ = None

abbrev pub with_error : ℕ → List ℕ → Option ℕ → List ℕ
with_error room options None = options
with_error room options (Some code) = added room options 15 (number_text code)

-- the identifier of the server
abbrev pub with_nsid : ℕ → List ℕ → List ℕ → List ℕ
with_nsid room options [] = options
with_nsid room options (b ∷ rest) = added room options 3 (b ∷ rest)

-- cookie, extended error and identifier, in this order, each if there is room for it
abbrev pub options_for : ℕ → Option (CookieSecrets × List ℕ) → List ℕ → Arrival → List ℕ → List ℕ
options_for room cookie nsid a response =
    with_nsid room (with_error room (with_cookie room [] cookie a) (error_in response)) nsid

-- a response within a limit, with its options: no response has any that doesn't end with an OPT record
abbrev pub completed : ℕ → Option (CookieSecrets × List ℕ) → List ℕ → Arrival → List ℕ → List ℕ
completed limit cookie nsid a response =
    if ends_with_opt response
    then with_options (options_for (limit - length response) cookie nsid a response) response
    else response
