-- The octets of a name are in range, and its last labels are a name
use Rattle.std.proofs.Common.{ℕ, zero, suc, List, [], ◌∷◌, ◌++◌, drop, sym, ap, ◌∙◌, arith}
use Rattle.std.proofs.lemmas.List.{drop-map}
use Rattle.std.specs.List.{AllByRecursion}
use Rattle.zone_proto.specs.Ranges.{IsOctet, IsNameInRange, octets_of_labels}
use Rattle.zone_proto.specs.Names.{Name, IsLabel, IsName, IsLowerName, lower_label}

octets-append : (xs ys : List ℕ) → AllByRecursion IsOctet xs → AllByRecursion IsOctet ys → AllByRecursion IsOctet (xs ++ ys)
octets-append [] ys h g = g
octets-append (x ∷ xs) ys h g = (h.0, octets-append xs ys h.1 g)

octets_fit : (n : Name) → AllByRecursion IsLabel n → AllByRecursion IsOctet (octets_of_labels n)
octets_fit [] h = tt
octets_fit (l ∷ ls) h = octets-append l (octets_of_labels ls) h.0.octets (octets_fit ls h.1)

-- the octets of a name are from 0 to 255
pub IsName-in_range : (n : Name) → IsName n → IsNameInRange n
IsName-in_range n h = record { octets = octets_fit n h.labels; types = tt }

-- ---- its last labels

pub last_labels : (count : ℕ) (n : Name) → IsName n → IsName (drop count n)
last_labels zero n h = h
last_labels (suc count) [] h = h
last_labels (suc count) (l ∷ ls) h = last_labels count ls (record { labels = h.labels.1; short = omega (arith, h.short) })

pub last_lower_labels : (count : ℕ) (n : Name) → IsLowerName n → IsLowerName (drop count n)
last_lower_labels count n h = record { name = last_labels count n h.name; lower = sym (drop-map lower_label count n) ∙ ap (drop count) h.lower }
