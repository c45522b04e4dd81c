-- Names: their tree, their canonical order and their wire form
use Rattle.std.specs.Prelude.{◌≡◌, ℕ, ◌+◌, ◌-◌, ◌<◌, ◌≤◌, List, [], ◌∷◌, ◌++◌, length, map, drop, reverse, Bool, true, false, ◌||◌, nat_eq}
use Rattle.std.specs.declared.cmp.Ordering.{Ordering}
use Rattle.std.specs.Char.{to_ascii_lowercase}
use Rattle.std.specs.List.{AllByRecursion}
use Rattle.std.specs.Ordering.{nat_cmp, on, eq_by_cmp}
use Rattle.std.specs.Cmp.Lexicographic.{slice_cmp, pointwise}
use Rattle.zone_proto.specs.Ranges.{IsOctet}

-- a label is a string of octets
abbrev pub Label : Type 0
Label = List ℕ

-- a name is the list of its labels, leftmost first, and always absolute; the root is the empty list (RFC 1034 section 3.1)
abbrev pub Name : Type 0
Name = List Label

-- octet strings in order: octet by octet as numbers, and an end is the least
abbrev pub octets_cmp : Label → Label → Ordering
octets_cmp = slice_cmp nat_cmp

-- the canonical order of names, of names in lower case (RFC 4034 section 6.1): labels are compared from the rightmost on, each as an octet string, and an end is the least
abbrev pub name_cmp : Name → Name → Ordering
name_cmp = on reverse (slice_cmp octets_cmp)

-- the label with its ASCII letters in lower case
abbrev pub lower_label : Label → Label
lower_label = map to_ascii_lowercase

-- the name with its ASCII letters in lower case
abbrev pub lower : Name → Name
lower = map lower_label

-- the canonical order of any names: the case of letters is ignored
abbrev pub caseless_cmp : Name → Name → Ordering
caseless_cmp = on lower name_cmp

-- names are the same, the case of letters aside
abbrev pub same_name : Name → Name → Bool
same_name = eq_by_cmp caseless_cmp

-- a is n or an ancestor of n: a's labels are the last labels of n
abbrev pub IsAtOrAbove : Name → Name → Type 0
IsAtOrAbove a n = (front : Name) × (n ≡ front ++ a)

-- a is a proper ancestor of n: some labels come before a's
abbrev pub IsAbove : Name → Name → Type 0
IsAbove a n = (l : Label) × (front : Name) × (n ≡ (l ∷ front) ++ a)

-- so many labels are at the end of both names, and no more
pub record SharesLabels (n m : Name) (count : ℕ) : Type 0 where
  pub within : count ≤ length n
  pub shared : IsAtOrAbove (drop (length n - count) n) m
  pub most : (a : Name) → IsAtOrAbove a n → IsAtOrAbove a m → length a ≤ count

-- the tests of these: equality of labels and of names, and where a name is in the tree
abbrev pub label_eq : Label → Label → Bool
label_eq = pointwise nat_eq

abbrev pub name_eq : Name → Name → Bool
name_eq = pointwise label_eq

abbrev pub is_at_or_above : Name → Name → Bool
is_at_or_above a [] = name_eq a []
is_at_or_above a (l ∷ ls) = name_eq a (l ∷ ls) || is_at_or_above a ls

abbrev pub is_above : Name → Name → Bool
is_above a [] = false
is_above a (l ∷ ls) = is_at_or_above a ls

-- the name and its ancestors, the longest first, the root last
abbrev pub suffixes : Name → List Name
suffixes [] = [] ∷ []
suffixes (l ∷ ls) = (l ∷ ls) ∷ suffixes ls

-- the name's ancestors without itself, the longest first, the root last
abbrev pub proper_ancestors : Name → List Name
proper_ancestors [] = []
proper_ancestors (l ∷ ls) = suffixes ls

abbrev pub is_root : Name → Bool
is_root [] = true
is_root (l ∷ ls) = false

-- `*`, the label of a wildcard (RFC 4592 section 2.1.1)
abbrev pub asterisk_label : Label
asterisk_label = 42 ∷ []

-- the first label is `*`
abbrev pub IsWildcard : Name → Type 0
IsWildcard n = (base : Name) × (n ≡ asterisk_label ∷ base)

-- the first label replaced by `*`; the root stays
abbrev pub wildcard_of : Name → Name
wildcard_of [] = []
wildcard_of (l ∷ ls) = asterisk_label ∷ ls

-- the test of a first label `*`
abbrev pub is_wildcard : Name → Bool
is_wildcard [] = false
is_wildcard (l ∷ ls) = label_eq l asterisk_label

-- the wildcard at a name: `*` before its labels
abbrev pub wildcard_under : Name → Name
wildcard_under a = asterisk_label ∷ a

-- the name without its first label; the root of the root
abbrev pub base_name : Name → Name
base_name [] = []
base_name (l ∷ ls) = ls

-- the octets of the wire form: a length octet before each label, and a zero octet at the end (RFC 1035 section 3.1)
abbrev pub wire_form : Name → List ℕ
wire_form [] = 0 ∷ []
wire_form (l ∷ ls) = length l ∷ (l ++ wire_form ls)

-- their count
abbrev pub wire_length : Name → ℕ
wire_length [] = 1
wire_length (l ∷ ls) = length l + 1 + wire_length ls

-- a label has 1 to 63 octets (RFC 1035 section 3.1)
pub record IsLabel (l : Label) : Type 0 where
  pub some : 0 < length l
  pub short : length l ≤ 63
  pub octets : AllByRecursion IsOctet l

-- a name has at most 255 octets in wire form (RFC 1035 section 3.1)
pub record IsName (n : Name) : Type 0 where
  pub labels : AllByRecursion IsLabel n
  pub short : wire_length n ≤ 255

-- a name whose letters are in lower case
pub record IsLowerName (n : Name) : Type 0 where
  pub name : IsName n
  pub lower : lower n ≡ n
