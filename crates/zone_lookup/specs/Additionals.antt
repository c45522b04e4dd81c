-- Additional records: what a client is likely to ask for next (RFC 1034 section 3.7, RFC 1035 sections 3.3.9 and 3.3.11)
use Rattle.std.specs.Prelude.{◌≡◌, ℕ, ◌+◌, Bool, ◌||◌, cond, List, [], ◌∷◌, length, fold, ◌==◌, Option, Some, None, filter, filter_map, option_and_then}
use Rattle.std.specs.Option.{option_or}
use Rattle.std.specs.Map.{keys_of}
use Rattle.zone_proto.specs.declared.rdata.RData.{RData}
use Rattle.zone_proto.specs.declared.rdata.RData.TheVariants as V
use Rattle.zone_proto.specs.declared.record.Record.{Record}
use Rattle.zone_proto.specs.declared.rr_key.RrKey.{RrKey}
use Rattle.zone_proto.specs.Names.{Name, lower, name_eq}
use Rattle.zone_proto.specs.Sets.{RRset, same_set}
use Rattle.zone_proto.specs.Types.{A, NS, CNAME, MX, AAAA, SRV, ANAME}
use Rattle.zone_map.specs.Zones.{Sets}
use Rattle.zone_map.specs.Direct.{is_address}
use Rattle.zone_map.specs.Wildcards.{found}
use Rattle.zone_map.specs.Chains.{cname_target}
use Rattle.zone_lookup.specs.Runs.{AreSearched, with_new}
use Rattle.zone_map.specs.Counts.{counted_more}

-- ---- where a set leads

-- the name that data lead to when a type is asked for, in lower case: ANAME data lead on for addresses and for ANAME itself, and those of NS, MX and SRV for their own type
abbrev pub followed : ℕ → RData → Option Name
followed t (V.ANAME n) = cond (is_address t || (t == ANAME)) (Some (lower n)) None
followed t (V.NS n) = cond (t == NS) (Some (lower n)) None
followed t (V.MX d) = cond (t == MX) (Some (lower d.exchange)) None
followed t (V.SRV d) = cond (t == SRV) (Some (lower d.target)) None
followed t _ = None

abbrev pub first_data : List Record → Option RData
first_data [] = None
first_data (r ∷ rs) = Some r.rdata

-- the same for a set: that of its first record alone
abbrev pub next_name : ℕ → RRset → Option Name
next_name t s = option_and_then (followed t) (first_data s.records)

-- where a set leads a run that searches a type: an alias leads on whatever is searched (RFC 1034 section 3.6.2)
abbrev pub run_target : ℕ → RRset → Option Name
run_target t s = option_or (cname_target s) (next_name t s)

-- ---- the runs

-- the types whose data name a host: its addresses are of use beside them
abbrev pub names_host : ℕ → Bool
names_host t = (t == ANAME) || (t == NS) || (t == MX) || (t == SRV)

-- the types that are searched for a query: those of addresses for a host, and else the type itself
abbrev pub run_types : ℕ → List ℕ
run_types t = cond (names_host t) (A ∷ AAAA ∷ []) (t ∷ [])

-- the names that a run takes as seen from the start: the queried one where its own type is searched again
abbrev pub seen_at_start : Name → ℕ → List Name
seen_at_start n t = cond (names_host t) [] (n ∷ [])

-- where the found set of a name leads
abbrev pub leads_to : Sets → Bool → ℕ → Name → Option Name
leads_to m signed t n = option_and_then (run_target t) (found m signed n t)

-- the names that one run searches for a type, from a name on: each is the first target of the one before; a name that was seen isn't searched again, and one without a set is the last
abbrev pub AreSearchedNames : Sets → Bool → List Name → ℕ → Option Name → List Name → Type 0
AreSearchedNames m signed seen t from names = AreSearched name_eq (leads_to m signed t) seen from names

-- the sets that are found for names
abbrev pub found_sets : Sets → Bool → ℕ → List Name → List RRset
found_sets m signed t names = filter_map (λ n. found m signed n t) names

-- the sets that are found for names, listed behind those that were listed before, and an equal set once
abbrev pub listed_with : Sets → Bool → ℕ → List RRset → List Name → List RRset
listed_with m signed t had names = fold (with_new same_set) had (found_sets m signed t names)

-- what one run does to the list and to the count of searches: the names that it searches are counted, and the sets that are found for them listed
pub record IsFollowed (m : Sets) (signed : Bool) (seen : List Name) (t : ℕ) (from : Name) (had sets : List RRset) (before after : ℕ) : Type 0 where
  pub names : List Name
  pub searched : AreSearchedNames m signed seen t (Some from) names
  pub listed : sets ≡ listed_with m signed t had names
  pub counted : after ≡ counted_more (length names) before

-- runs for types, one after the other, from one name: the sets that are listed in the end
abbrev pub AreListed : Sets → Bool → List Name → Name → List ℕ → List RRset → List RRset → Type 0
AreListed m signed seen from [] had sets = sets ≡ had
AreListed m signed seen from (t ∷ ts) had sets = (names : List Name) × AreSearchedNames m signed seen t (Some from) names × AreListed m signed seen from ts (listed_with m signed t had names) sets

-- the additional sets for a query of a name and a type, from the next name on
abbrev pub AreAdditionals : Sets → Bool → Name → ℕ → Name → List RRset → Type 0
AreAdditionals m signed n t from sets = AreListed m signed (seen_at_start n t) from (run_types t) [] sets

-- ---- how many names are searched

-- for some types, one run after the other
abbrev pub AreCounted : Sets → Bool → List Name → Name → List ℕ → ℕ → Type 0
AreCounted m signed seen from [] searches = searches ≡ 0
AreCounted m signed seen from (t ∷ ts) searches =
    (names : List Name) × (later : ℕ) × AreSearchedNames m signed seen t (Some from) names × AreCounted m signed seen from ts later × (searches ≡ length names + later)

-- for the additional sets
abbrev pub AreSearches : Sets → Bool → Name → ℕ → Name → ℕ → Type 0
AreSearches m signed n t from searches = AreCounted m signed (seen_at_start n t) from (run_types t) searches

-- how many sets of type CNAME or ANAME are stored
abbrev pub alias_sets : Sets → ℕ
alias_sets m = length (filter (λ (k : RrKey). (k.record_type.0 == CNAME) || (k.record_type.0 == ANAME)) (keys_of m))
