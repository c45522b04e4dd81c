-- Addresses as zone files write them
use Rattle.std.specs.Prelude.{ℕ, zero, suc, ◌+◌, ◌-◌, ◌++◌, ◌==◌, ◌&&◌, List, [], ◌∷◌, nat_lt, length, take, drop, count_by, sum_by, Option, Some, None, option_map, option_and_then, if◌then◌else◌}
use Rattle.std.specs.List.{list_any}
use Rattle.line_text.specs.Addresses.{ipv4_of_text, ipv6_of_text, ipv6_text}

-- the digits of a number below 1000
abbrev pub width : ℕ → ℕ
width n = if nat_lt n 10 then 1 else (if nat_lt n 100 then 2 else 3)

-- an IPv4 address has four numbers, and three dots between them
abbrev pub ipv4_width : List ℕ → ℕ
ipv4_width a = 3 + sum_by width a

-- it is written without leading zeros: the word has no more octets than its numbers have digits, and its dots
abbrev pub unpadded : ℕ → List ℕ → Option (List ℕ)
unpadded count a = if count == ipv4_width a then Some a else None

abbrev pub ipv4_of_word : List ℕ → Option (List ℕ)
ipv4_of_word w = option_and_then (unpadded (length w)) (ipv4_of_text w)

-- where the first `::` begins
abbrev pub double_at : List ℕ → Option ℕ
double_at [] = None
double_at (b ∷ []) = None
double_at (b ∷ c ∷ s) = if b == 58 && c == 58 then Some 0 else option_map (λ k. k + 1) (double_at (c ∷ s))

-- how many groups a text has, with colons between them
abbrev pub group_count : List ℕ → ℕ
group_count [] = 0
group_count (b ∷ s) = 1 + count_by (λ c. c == 58) (b ∷ s)

-- a text of groups with a group of 0 more, and with so many more
abbrev pub with_zero : List ℕ → List ℕ
with_zero [] = 48 ∷ []
with_zero (b ∷ s) = (b ∷ s) ++ 58 ∷ 48 ∷ []

abbrev pub with_zeros : ℕ → List ℕ → List ℕ
with_zeros zero s = s
with_zeros (suc k) s = with_zeros k (with_zero s)

abbrev pub with_groups : List ℕ → List ℕ → List ℕ
with_groups s [] = s
with_groups s (b ∷ t) = s ++ 58 ∷ b ∷ t

-- "The use of "::" indicates one or more groups of 16 bits of zeros", as many as lack to eight (RFC 4291 section 2.2)
abbrev pub full_form : List ℕ → List ℕ → Option (List ℕ)
full_form front back =
    if nat_lt (group_count front + group_count back) 8 then Some (with_groups (with_zeros (8 - (group_count front + group_count back)) front) back)
    else None

abbrev pub or_full : Option ℕ → List ℕ → Option (List ℕ)
or_full None w = ipv6_of_text w
or_full (Some k) w = option_and_then ipv6_of_text (full_form (take k w) (drop (k + 2) w))

-- an address of groups, which has at most 39 octets
abbrev pub groups_of_word : List ℕ → Option (List ℕ)
groups_of_word w = if nat_lt 39 (length w) then None else or_full (double_at w) w

-- "x:x:x:x:x:x:d.d.d.d": the four numbers of an IPv4 address stand for the last two groups (RFC 4291 section 2.2). They stand
-- behind the last colon; the address has at most 45 octets then.
abbrev pub last_colon : List ℕ → ℕ
last_colon [] = 0
last_colon (b ∷ s) = if list_any (λ c. c == 58) s then last_colon s + 1 else (if b == 58 then 1 else 0)

abbrev pub with_numbers : List ℕ → List ℕ → Option (List ℕ)
with_numbers front back = option_map (λ a. front ++ ipv6_text a) (ipv4_of_word back)

abbrev pub numbers_of_word : List ℕ → Option (List ℕ)
numbers_of_word w =
    if nat_lt 45 (length w) then None
    else option_and_then groups_of_word (with_numbers (take (last_colon w) w) (drop (last_colon w) w))

-- an address, of groups or with four numbers behind them
abbrev pub or_numbers : List ℕ → Option (List ℕ) → Option (List ℕ)
or_numbers w (Some a) = Some a
or_numbers w None = numbers_of_word w

abbrev pub ipv6_of_word : List ℕ → Option (List ℕ)
ipv6_of_word w = or_numbers w (groups_of_word w)
