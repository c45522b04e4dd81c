-- Chains of aliases: a CNAME begins the search anew at its target (RFC 1034 section 3.6.2)
use Rattle.std.specs.Prelude.{ℕ, zero, suc, ◌+◌, ◌-◌, Bool, true, false, ◌&&◌, not, cond, List, [], ◌∷◌, map, length, nat_lt, nat_le, Option, Some, None}
use Rattle.std.specs.Option.{option_map_or}
use Rattle.std.specs.List.{list_any}
use Rattle.zone_proto.specs.declared.rdata.RData.{RData}
use Rattle.zone_proto.specs.declared.rdata.RData.TheVariants as V
use Rattle.zone_proto.specs.declared.record.Record.{Record}
use Rattle.zone_proto.specs.Names.{Name, lower, name_eq}
use Rattle.zone_proto.specs.Sets.{RRset}
use Rattle.zone_map.specs.Zones.{Sets}
use Rattle.zone_map.specs.Wildcards.{found}
use Rattle.zone_map.specs.Fronts.{longest_front}

-- the name that data of an alias lead to, in lower case
abbrev pub alias_target : RData → Option Name
alias_target (V.CNAME n) = Some (lower n)
alias_target _ = None

-- the same for a set: that of its first record
abbrev pub first_target : List Record → Option Name
first_target [] = None
first_target (r ∷ rs) = alias_target r.rdata

abbrev pub cname_target : RRset → Option Name
cname_target s = first_target s.records

-- the found sets along the targets from a name on, k of them or all there are, each with its name
abbrev pub links_from : Sets → Bool → ℕ → ℕ → Option Name → List (Name × RRset)
links_from m signed t zero next = []
links_from m signed t (suc k) None = []
links_from m signed t (suc k) (Some n) = option_map_or (λ s. (n, s) ∷ links_from m signed t k (cname_target s)) (found m signed n t) []

-- the queried name with its set, and the next k found sets
abbrev pub links : Sets → Bool → Name → RRset → ℕ → ℕ → List (Name × RRset)
links m signed n s t k = (n, s) ∷ links_from m signed t k (cname_target s)

-- no name appears twice
abbrev pub are_distinct : List Name → Bool
are_distinct [] = true
are_distinct (n ∷ ns) = not (list_any (name_eq n) ns) && are_distinct ns

-- at most 8 sets, no two of one name
abbrev pub may_be_chain : List (Name × RRset) → Bool
may_be_chain es = nat_le (length es) 8 && are_distinct (map (λ e. e.0) es)

-- the chain from a name and its set: the longest front of the found sets along the targets that has at most 8 sets and no name twice
abbrev pub chain_links : Sets → Bool → Name → RRset → ℕ → List (Name × RRset)
chain_links m signed n s t = longest_front may_be_chain (links m signed n s t 7)

-- its sets
abbrev pub chain : Sets → Bool → Name → RRset → ℕ → List RRset
chain m signed n s t = map (λ e. e.1) (chain_links m signed n s t)

-- the target of the last set
abbrev pub last_target : List (Name × RRset) → Option Name
last_target [] = None
last_target (e ∷ []) = cname_target e.1
last_target (e ∷ es) = last_target es

-- it is a name that the chain doesn't have yet, and the chain has room for its set
abbrev pub leads_on : List (Name × RRset) → Bool
leads_on es = nat_lt (length es) 8 && option_map_or (λ n. not (list_any (name_eq n) (map (λ e. e.0) es))) (last_target es) false

-- how many names are searched for the chain: one for each set after the first, and one more where it ends at a name without a set
abbrev pub chain_searches : Sets → Bool → Name → RRset → ℕ → ℕ
chain_searches m signed n s t = length (chain_links m signed n s t) - 1 + cond (leads_on (chain_links m signed n s t)) 1 0
