-- Names in one piece: the labels from the root on, each ended by the octet 0
use Rattle.std.specs.Prelude.{◌≡◌, ℕ, ◌+◌, ◌<◌, List, [], ◌∷◌, ◌++◌, ◌==◌, nat_lt, if◌then◌else◌, map}
use Rattle.std.specs.List.{AllByRecursion}
use Rattle.zone_proto.specs.Names.{Name, Label}

-- an octet of a label that is there as it is: 0 would end the label, and 1 begins a pair
abbrev pub IsInner : ℕ → Type 0
IsInner b = 1 < b

-- no label has an octet 0 or 1
abbrev pub IsPackable : Name → Type 0
IsPackable = AllByRecursion (AllByRecursion IsInner)

-- the octets of the name one label up, then those of the first label, and its end
abbrev pub packing : Name → List ℕ
packing [] = []
packing (l ∷ n) = packing n ++ (l ++ 0 ∷ [])

-- the name that octets go on with, after a name and some octets of the next label
abbrev pub read_on : Name → Label → List ℕ → Name
read_on n l [] = n
read_on n l (b ∷ s) = if b == 0 then read_on (l ∷ n) [] s else read_on n (l ++ b ∷ []) s

-- the name of these octets
abbrev pub name_of : List ℕ → Name
name_of = read_on [] []

-- the octets are the packing of the name
pub record IsPacking (s : List ℕ) (n : Name) : Type 0 where
  pub packable : IsPackable n
  pub octets : s ≡ packing n

-- a label in which 0 and 1 are pairs, in their order, and any other octet is itself
abbrev pub escaped : Label → List ℕ
escaped [] = []
escaped (b ∷ l) = if nat_lt 1 b then b ∷ escaped l else 1 ∷ (b + 1) ∷ escaped l

-- the octets by which a name is ordered: the packing of its labels, escaped
abbrev pub order_octets : Name → List ℕ
order_octets n = packing (map escaped n)

-- how many octets are 0 of those that two lists begin with, both
abbrev pub shared_ends : List ℕ → List ℕ → ℕ
shared_ends (a ∷ s) (b ∷ t) = if a == b then (if a == 0 then 1 + shared_ends s t else shared_ends s t) else 0
shared_ends _ _ = 0
