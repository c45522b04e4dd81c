-- IPv6 addresses in their recommended form (RFC 5952 section 4): groups in hex without leading zeros, letters in lower case, and `::`
-- for the longest run of groups of zero, if it has two at least; of several that are as long for the first
use Rattle.std.specs.Prelude.{ℕ, ◌+◌, ◌*◌, ◌/◌, ◌%◌, ◌++◌, ◌==◌, List, [], ◌∷◌, take, drop, nat_le, nat_lt, if◌then◌else◌}
use Rattle.std.specs.Char.{digit_char}
use Rattle.std.specs.List.{flat_map, prefix_len}

-- the groups of octets
abbrev pub groups_of : List ℕ → List ℕ
groups_of [] = []
groups_of (b ∷ []) = []
groups_of (b ∷ c ∷ bs) = (b * 256 + c) ∷ groups_of bs

-- a group
abbrev pub group_text : ℕ → List ℕ
group_text g =
    if nat_lt g 16 then digit_char g ∷ []
    else (if nat_lt g 256 then digit_char (g / 16) ∷ digit_char (g % 16) ∷ []
    else (if nat_lt g 4096 then digit_char (g / 256) ∷ digit_char (g / 16 % 16) ∷ digit_char (g % 16) ∷ []
    else digit_char (g / 4096) ∷ digit_char (g / 256 % 16) ∷ digit_char (g / 16 % 16) ∷ digit_char (g % 16) ∷ []))

-- groups, each behind a colon; and with colons between them
abbrev pub behind_colons : List ℕ → List ℕ
behind_colons = flat_map (λ g. 58 ∷ group_text g)

abbrev pub groups_text : List ℕ → List ℕ
groups_text [] = []
groups_text (g ∷ gs) = group_text g ++ behind_colons gs

-- how many groups of zero stand in front
abbrev pub zeros_in_front : List ℕ → ℕ
zeros_in_front gs = prefix_len (λ g. g == 0) gs

-- the first of the longest runs of groups of zero: how many groups come before it, and how many it has
abbrev pub longer_run : ℕ → ℕ × ℕ → ℕ × ℕ
longer_run here later = if nat_le later.1 here then (0, here) else (later.0 + 1, later.1)

abbrev pub longest_run : List ℕ → ℕ × ℕ
longest_run [] = (0, 0)
longest_run (g ∷ gs) = longer_run (zeros_in_front (g ∷ gs)) (longest_run gs)

abbrev pub without_run : List ℕ → ℕ × ℕ → List ℕ
without_run gs run =
    if nat_lt run.1 2 then groups_text gs
    else groups_text (take run.0 gs) ++ 58 ∷ 58 ∷ groups_text (drop (run.0 + run.1) gs)

abbrev pub address_text : List ℕ → List ℕ
address_text os = without_run (groups_of os) (longest_run (groups_of os))
