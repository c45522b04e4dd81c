-- What is written of ascending types as a type map; what it means is said by reading alone
use Rattle.std.specs.Prelude.{ℕ, zero, suc, ◌+◌, ◌*◌, ◌/◌, ◌%◌, ◌≤◌, ◌==◌, List, [], ◌∷◌, ◌++◌, map, if◌then◌else◌}
use Rattle.zone_proto.specs.declared.record_type.RecordType.{RecordType}
use Rattle.message_reading.specs.TypeMaps.{weights}

-- the weight of a bit where the type of its number is at the front, else 0, and the types that are left
abbrev pub bit_taken : ℕ → ℕ → List ℕ → ℕ × List ℕ
bit_taken w n [] = (0, [])
bit_taken w n (t ∷ ts) = if t == n then (w, ts) else (0, t ∷ ts)

-- an octet for the types that are numbered from n on, at the start of these, and the types that are left
abbrev pub bits_taken : List ℕ → ℕ → List ℕ → ℕ × List ℕ
bits_taken [] n ts = (0, ts)
bits_taken (w ∷ ws) n ts =
    let bit = bit_taken w n ts in
    let others = bits_taken ws (n + 1) bit.1 in
    (bit.0 + others.0, others.1)

-- so many octets for them, and the types that are left
abbrev pub octets_taken : ℕ → ℕ → List ℕ → List ℕ × List ℕ
octets_taken zero n ts = ([], ts)
octets_taken (suc count) n ts =
    ((bits_taken weights n ts).0 ∷ (octets_taken count (n + 8) (bits_taken weights n ts).1).0, (octets_taken count (n + 8) (bits_taken weights n ts).1).1)

-- the types of one window at the front, and what follows them
abbrev pub window_front : ℕ → List ℕ → List ℕ
window_front w [] = []
window_front w (t ∷ ts) = if t / 256 == w then t ∷ window_front w ts else []

abbrev pub window_rest : ℕ → List ℕ → List ℕ
window_rest w [] = []
window_rest w (t ∷ ts) = if t / 256 == w then window_rest w ts else t ∷ ts

abbrev pub last_of : ℕ → List ℕ → ℕ
last_of t [] = t
last_of t (u ∷ us) = last_of u us

-- the octets up to that of the last type
abbrev pub count_for : ℕ → ℕ
count_for last = last % 256 / 8 + 1

-- the block of the window of types that begin and end with these: its number, a count of octets, and the octets
abbrev pub window_text : ℕ → ℕ → List ℕ → List ℕ
window_text lowest highest ts = (lowest / 256) ∷ count_for highest ∷ (octets_taken (count_for highest) (lowest / 256 * 256) ts).0

-- the block of a window whose types are t and those that follow it
abbrev pub block : ℕ → List ℕ → List ℕ
block t ts = window_text t (last_of t ts) (t ∷ ts)

-- so many blocks at most
abbrev pub map_text : ℕ → List ℕ → List ℕ
map_text zero ts = []
map_text (suc k) [] = []
map_text (suc k) (t ∷ ts) = block t (window_front (t / 256) ts) ++ map_text k (window_rest (t / 256) ts)

-- each is at least n, and they ascend
abbrev pub IsAscendingFrom : ℕ → List ℕ → Type 0
IsAscendingFrom n [] = Unit {0}
IsAscendingFrom n (t ∷ ts) = (n ≤ t) × IsAscendingFrom (t + 1) ts

-- the numbers of types
abbrev pub numbers : List RecordType → List ℕ
numbers = map (λ t. t.0)

-- how many types at the front belong to a window
abbrev pub run_length : ℕ → List ℕ → ℕ
run_length w [] = 0
run_length w (t ∷ ts) = if t / 256 == w then suc (run_length w ts) else 0

-- the block of the types of one window
abbrev pub block_text : List ℕ → List ℕ
block_text [] = []
block_text (t ∷ ts) = block t ts
