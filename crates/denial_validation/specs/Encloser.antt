-- An ancestor of a name by how many labels it has, and the name that is one label closer
use Rattle.std.specs.Prelude.{ℕ, suc, length, ◌==◌, Option, find}
use Rattle.zone_proto.specs.Names.{Name, proper_ancestors, suffixes}

-- the proper ancestor of a name that has so many labels
abbrev pub ancestor_of : Name → ℕ → Option Name
ancestor_of n labels = find (λ a. length a == labels) (proper_ancestors n)

-- the next closer name of x and an ancestor: the name one label longer than the ancestor, which is x or an ancestor of it (RFC 5155
-- section 1.3)
abbrev pub next_closer : Name → Name → Option Name
next_closer x a = find (λ s. length s == suc (length a)) (suffixes x)
