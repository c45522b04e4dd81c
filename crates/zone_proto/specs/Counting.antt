-- Names in one piece in which an octet 0 may stand: each label behind its length, as in the wire form (RFC 1035 section 3.1)
use Rattle.std.specs.Prelude.{◌≡◌, ℕ, zero, suc, List, [], ◌∷◌, ◌++◌, length, take, drop}
use Rattle.std.specs.List.{AllByRecursion}
use Rattle.zone_proto.specs.Names.{Name, IsLabel}

-- the length of the first label, its octets, and then the labels after it
abbrev pub counting : Name → List ℕ
counting [] = []
counting (l ∷ n) = length l ∷ (l ++ counting n)

-- the labels that octets begin with, so many at most
abbrev pub labels_within : ℕ → List ℕ → Name
labels_within zero s = []
labels_within (suc most) [] = []
labels_within (suc most) (count ∷ s) = take count s ∷ labels_within most (drop count s)

-- the name of these octets, which have no more labels than octets
abbrev pub counted_name : List ℕ → Name
counted_name s = labels_within (length s) s

-- the octets are those of the name, whose labels are in the bounds of labels
pub record IsCounting (s : List ℕ) (n : Name) : Type 0 where
  pub labels : AllByRecursion IsLabel n
  pub octets : s ≡ counting n
