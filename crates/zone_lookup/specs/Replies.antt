-- What a query is answered with
use Rattle.std.specs.Prelude.{◌≡◌, ℕ, Bool, ◌&&◌, ◌||◌, not, cond, ◌==◌, List, [], ◌∷◌, Option, MatchOption, option_and_then}
use Rattle.zone_proto.specs.declared.record.Record.{Record}
use Rattle.zone_proto.specs.Names.{Name, is_at_or_above}
use Rattle.zone_proto.specs.Sets.{RRset}
use Rattle.zone_proto.specs.Types.{CNAME}
use Rattle.zone_map.specs.Zones.{Sets, owns_at_or_below}
use Rattle.zone_map.specs.Wildcards.{asked_wildcard_exists, found}
use Rattle.zone_map.specs.Chains.{chain}
use Rattle.zone_map.specs.AnyTypes.{searched_type}
use Rattle.zone_lookup.specs.Additionals.{next_name, AreAdditionals}
use Rattle.zone_lookup.specs.Flattening.{last_set, alone, beside}

-- the negative answers: the name is there without the type (RFC 2308 section 2.2), the name isn't there (RFC 2308 section 2.1), the name isn't the zone's (RFC 1035 section 4.1.1)
pub data NegativeAnswer : Type 0 where
  name_exists : NegativeAnswer
  nx_domain : NegativeAnswer
  refused : NegativeAnswer

-- a name that isn't present is no name of the zone, and outside the zone it is refused
abbrev pub absent : Name → Name → NegativeAnswer
absent origin n = cond (is_at_or_above origin n) nx_domain refused

-- a name is present if it or a name below it owns a set, wherever it stands, or if the wildcard at its closest encloser
-- exists, which gives it all types that it has (RFC 4592 section 2.2.1)
abbrev pub is_present : Sets → Name → Bool
is_present m n = owns_at_or_below m n || asked_wildcard_exists m n

abbrev pub negative_answer : Name → Sets → Name → NegativeAnswer
negative_answer origin m n = cond (is_present m n) name_exists (absent origin n)

-- what an answer section has: one set, or the sets of a chain
pub data Answers : Type 0 where
  one_set : RRset → Answers
  chained : List RRset → Answers

-- what a lookup answers: a negative answer, or an answer section with the sets of the additional section
pub data Reply : Type 0 where
  negative : NegativeAnswer → Reply
  answered : Answers → (additionals : List RRset) → Reply

-- an alias is followed, unless aliases are asked for (RFC 1034 section 3.6.2)
abbrev pub is_followed : ℕ → RRset → Bool
is_followed t s = (s.record_type == CNAME) && not (t == CNAME)

-- the sets that answer: the chain from an alias, and else the found set alone
abbrev pub answer_sets : Sets → Bool → Name → ℕ → RRset → List RRset
answer_sets m signed n t s = cond (is_followed t s) (chain m signed n s t) (s ∷ [])

-- the additional sets are those from where the last of these leads, if it leads anywhere
abbrev pub AreFrom : Sets → Bool → Name → ℕ → Option RRset → List RRset → Type 0
AreFrom m signed n t terminal more = MatchOption (option_and_then (next_name t) terminal) (more ≡ []) (λ next. AreAdditionals m signed n t next more)

-- the answer section: a chain stays as it is, and a set alone may be flattened; `sign` gives the signatures of a set that the answer makes
abbrev pub answer_section : (RRset → List Record) → Sets → Bool → Name → ℕ → RRset → List RRset → Answers
answer_section sign m signed n t s more = cond (is_followed t s) (chained (chain m signed n s t)) (one_set (alone sign t s (last_set more)))

-- the reply by the set that is found
pub record IsAnswer (sign : RRset → List Record) (m : Sets) (signed : Bool) (n : Name) (t : ℕ) (s : RRset) (r : Reply) : Type 0 where
  pub more : List RRset
  pub found : AreFrom m signed n t (last_set (answer_sets m signed n t s)) more
  pub sections : r ≡ answered (answer_section sign m signed n t s more) (beside t (last_set (answer_sets m signed n t s)) more)

-- the reply for a type, by what is found, and without a found set the negative answer
abbrev pub IsReplyFor : (RRset → List Record) → Name → Sets → Bool → Name → ℕ → Reply → Type 0
IsReplyFor sign origin m signed n t r = MatchOption (found m signed n t) (r ≡ negative (negative_answer origin m n)) (λ s. IsAnswer sign m signed n t s r)

-- the reply to a query; for one of ANY a type is chosen
abbrev pub IsReply : (RRset → List Record) → Name → Sets → Bool → Name → ℕ → Reply → Type 0
IsReply sign origin m signed n t r = IsReplyFor sign origin m signed n (searched_type m n t) r
