-- The path of a query: its name, and the names that its aliases and DNAMEs lead on to (RFC 1034 section 4.3.2 step 3a, RFC 6672 section 3.2)
use Rattle.std.specs.Prelude.{ℕ, zero, suc, Bool, ◌&&◌, ◌||◌, cond, List, [], ◌∷◌, ◌++◌, ◌==◌}
use Rattle.std.specs.List.{list_any}
use Rattle.zone_proto.specs.Names.{Name, lower, name_eq}
use Rattle.zone_proto.specs.Sets.{RRset}
use Rattle.zone_proto.specs.Types.{RRSIG, DNAME}
use Rattle.zone_response.specs.declared.paths.Path.{Path as KeptPath}
use Rattle.zone_response.specs.Queries.{Inquiry}
use Rattle.zone_response.specs.Sections.{is_signed, sent_sets}
use Rattle.zone_response.specs.Steps.{End, complete, unfollowed, Next, on, ends, step, end_of}

-- the sets of the answer section, the names for which a wildcard answered, and how the search ends
pub record Path : Type 0 where
  pub answers : List RRset
  pub made : List Name
  pub end : End

abbrev pub ended : End → Path
ended e = record { answers = []; made = []; end = e }

-- a path behind the sets and names of others
abbrev pub behind : List RRset → List Name → Path → Path
behind answers made p = record { answers = answers ++ p.answers; made = made ++ p.made; end = p.end }

-- a set that was passed tells what a query of t asks for of x: a DNAME set of x, where DNAME is asked for; or where
-- RRSIG is, and the set is there with a signature
abbrev pub is_sought : ℕ → Name → RRset → Bool
is_sought t x s = (s.record_type == DNAME) && name_eq (lower s.owner) x && ((t == DNAME) || (t == RRSIG) && is_signed s)

-- what comes next behind these sets of the answer section. Where one of them tells what is asked for, it is the answer:
-- a set appears once in a section (RFC 2181 section 5.5)
abbrev pub unless_answered : ℕ → List RRset → Next → Next
unless_answered t sets (on x) = cond (list_any (is_sought t x) sets) (ends complete) (on x)
unless_answered t sets (ends e) = ends e

-- what comes next, searched
abbrev pub searched : (Name → Path) → Next → Path
searched search (on x) = search x
searched search (ends e) = ended e

-- the names that are searched from what comes next on
abbrev pub names_on : (Name → List Name) → Next → List Name
names_on search (on x) = search x
names_on search (ends e) = []

module _ (q : Inquiry) where
  -- what comes next behind the step from x
  abbrev pub next_behind : List RRset → Name → Next
  next_behind before x = unless_answered q.record_type (before ++ (step q before x).answers) (step q before x).next

  -- the path from x on, of k names at most, behind these sets; a name that was searched isn't searched again
  abbrev pub path_from : ℕ → List Name → List RRset → Name → Path
  path_from zero seen before x = ended unfollowed
  path_from (suc k) seen before x = cond (list_any (name_eq x) seen) (ended unfollowed)
      (behind (step q before x).answers (step q before x).made (searched (path_from k (seen ++ x ∷ []) (before ++ (step q before x).answers)) (next_behind before x)))

  -- a chain has 8 names at most
  unfoldable pub path : Name → Path
  path = path_from 8 [] []

  -- the names that are searched on it
  abbrev pub names_from : ℕ → List Name → List RRset → Name → List Name
  names_from zero seen before x = []
  names_from (suc k) seen before x = cond (list_any (name_eq x) seen) []
      (x ∷ names_on (names_from k (seen ++ x ∷ []) (before ++ (step q before x).answers)) (next_behind before x))

  unfoldable pub path_names : Name → List Name
  path_names = names_from 8 [] []

-- as the program keeps it
abbrev pub path_of : KeptPath → Path
path_of p = record { answers = sent_sets p.answers; made = p.made.items; end = end_of p.end }
