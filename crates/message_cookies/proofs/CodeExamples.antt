-- The code of the paper's appendix A, and the cookies of RFC 9018 appendix A
use Rattle.std.proofs.Common.{◌≡◌, List, ℕ, [], ◌∷◌, Some, None, refl}
use Rattle.message_cookies.specs.Cookies.{checked_cookie, code_of, cookie_of, is_made_with, is_made_with_one, is_timely, is_valid, time_in}
use Rattle.message_cookies.specs.SipHash.{compressed, finalized, initial, padded, sip_round, siphash, state_after, word_at}
use Rattle.message_cookies.specs.declared.checking.CheckedCookie.TheVariants.{Invalid, Valid}

-- the octets 0 to 14 under the octets 0 to 15
of_paper : siphash (0 ∷ 1 ∷ 2 ∷ 3 ∷ 4 ∷ 5 ∷ 6 ∷ 7 ∷ 8 ∷ 9 ∷ 10 ∷ 11 ∷ 12 ∷ 13 ∷ 14 ∷ 15 ∷ [])
    (0 ∷ 1 ∷ 2 ∷ 3 ∷ 4 ∷ 5 ∷ 6 ∷ 7 ∷ 8 ∷ 9 ∷ 10 ∷ 11 ∷ 12 ∷ 13 ∷ 14 ∷ []) ≡ 0xA129CA6149BE45E5
unfolding compressed finalized initial padded sip_round siphash state_after word_at
of_paper = refl

abbrev first_secret : List ℕ
first_secret = 0xe5 ∷ 0xe9 ∷ 0x73 ∷ 0xe5 ∷ 0xa6 ∷ 0xb2 ∷ 0xa4 ∷ 0x3f ∷ 0x48 ∷ 0xe7 ∷ 0xdc ∷ 0x84 ∷ 0x9e ∷ 0x37 ∷ 0xbf ∷ 0xcf ∷ []

abbrev second_secret : List ℕ
second_secret = 0xdd ∷ 0x3b ∷ 0xdf ∷ 0x93 ∷ 0x44 ∷ 0xb6 ∷ 0x78 ∷ 0xb1 ∷ 0x85 ∷ 0xa6 ∷ 0xf5 ∷ 0xcb ∷ 0x60 ∷ 0xfc ∷ 0xa7 ∷ 0x15 ∷ []

abbrev third_secret : List ℕ
third_secret = 0x44 ∷ 0x55 ∷ 0x36 ∷ 0xbc ∷ 0xd2 ∷ 0x51 ∷ 0x32 ∷ 0x98 ∷ 0x07 ∷ 0x5a ∷ 0x5d ∷ 0x37 ∷ 0x96 ∷ 0x63 ∷ 0xc9 ∷ 0x62 ∷ []

abbrev first_client : List ℕ
first_client = 0x24 ∷ 0x64 ∷ 0xc4 ∷ 0xab ∷ 0xcf ∷ 0x10 ∷ 0xc9 ∷ 0x57 ∷ []

abbrev first_address : List ℕ
first_address = 0xc6 ∷ 0x33 ∷ 0x64 ∷ 0x64 ∷ []

abbrev third_client : List ℕ
third_client = 0x22 ∷ 0x68 ∷ 0x1a ∷ 0xb9 ∷ 0x7d ∷ 0x52 ∷ 0xc2 ∷ 0x98 ∷ []

abbrev third_address : List ℕ
third_address = 0x20 ∷ 0x01 ∷ 0x0d ∷ 0xb8 ∷ 0x02 ∷ 0x20 ∷ 0x00 ∷ 0x01 ∷ 0x59 ∷ 0xde ∷ 0xd0 ∷ 0xf4 ∷ 0x87 ∷ 0x69 ∷ 0x82 ∷ 0xb8 ∷ []

-- A.1, at 10:53:05 on 5 June 2019
made : cookie_of first_secret first_client first_address 0x5cf79f11
    ≡ 0x24 ∷ 0x64 ∷ 0xc4 ∷ 0xab ∷ 0xcf ∷ 0x10 ∷ 0xc9 ∷ 0x57 ∷ 0x01 ∷ 0x00 ∷ 0x00 ∷ 0x00 ∷ 0x5c ∷ 0xf7 ∷ 0x9f ∷ 0x11 ∷ 0x1f ∷ 0x81 ∷ 0x30 ∷ 0xc3 ∷ 0xee ∷ 0xe2 ∷ 0x94 ∷ 0x80 ∷ []
unfolding code_of cookie_of compressed finalized initial padded sip_round siphash state_after word_at
made = refl

-- A.2: it is valid 40 minutes later
taken : checked_cookie (record { current = first_secret; previous = None })
    (cookie_of first_secret first_client first_address 0x5cf79f11) first_address 0x5cf7a871 ≡ Valid
unfolding checked_cookie code_of cookie_of is_made_with is_made_with_one is_timely is_valid time_in compressed finalized initial padded sip_round siphash state_after word_at
taken = refl

-- A.3: another client's cookie, whose reserved octets aren't 0, is valid for an hour, but no longer when the query comes
reserved : checked_cookie (record { current = first_secret; previous = None })
    (0xfc ∷ 0x93 ∷ 0xfc ∷ 0x62 ∷ 0x80 ∷ 0x7d ∷ 0xdb ∷ 0x86 ∷ 0x01 ∷ 0xab ∷ 0xcd ∷ 0xef ∷ 0x5c ∷ 0xf7 ∷ 0x8f ∷ 0x71 ∷ 0xa3 ∷ 0x14 ∷ 0x22 ∷ 0x7b ∷ 0x66 ∷ 0x79 ∷ 0xeb ∷ 0xf5 ∷ [])
    (0xcb ∷ 0x00 ∷ 0x71 ∷ 0xcb ∷ []) 0x5cf79d81 ≡ Valid
unfolding checked_cookie code_of cookie_of is_made_with is_made_with_one is_timely is_valid time_in compressed finalized initial padded sip_round siphash state_after word_at
reserved = refl

late : checked_cookie (record { current = first_secret; previous = None })
    (0xfc ∷ 0x93 ∷ 0xfc ∷ 0x62 ∷ 0x80 ∷ 0x7d ∷ 0xdb ∷ 0x86 ∷ 0x01 ∷ 0xab ∷ 0xcd ∷ 0xef ∷ 0x5c ∷ 0xf7 ∷ 0x8f ∷ 0x71 ∷ 0xa3 ∷ 0x14 ∷ 0x22 ∷ 0x7b ∷ 0x66 ∷ 0x79 ∷ 0xeb ∷ 0xf5 ∷ [])
    (0xcb ∷ 0x00 ∷ 0x71 ∷ 0xcb ∷ []) 0x5cf7a9ac ≡ Invalid
unfolding checked_cookie code_of cookie_of is_made_with is_made_with_one is_timely is_valid time_in compressed finalized initial padded sip_round siphash state_after word_at
late = refl

-- A.4: a cookie by the secret before, from an address of IPv6
rolled : checked_cookie (record { current = third_secret; previous = Some second_secret })
    (0x22 ∷ 0x68 ∷ 0x1a ∷ 0xb9 ∷ 0x7d ∷ 0x52 ∷ 0xc2 ∷ 0x98 ∷ 0x01 ∷ 0x00 ∷ 0x00 ∷ 0x00 ∷ 0x5c ∷ 0xf7 ∷ 0xc5 ∷ 0x79 ∷ 0x26 ∷ 0x55 ∷ 0x6b ∷ 0xd0 ∷ 0x93 ∷ 0x4c ∷ 0x72 ∷ 0xf8 ∷ []) third_address 0x5cf7c609 ≡ Valid
unfolding checked_cookie code_of cookie_of is_made_with is_made_with_one is_timely is_valid time_in compressed finalized initial padded sip_round siphash state_after word_at
rolled = refl
