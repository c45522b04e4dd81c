-- One step of a search: what a name of a chain is answered with (RFC 1034 section 4.3.2 step 3)
use Rattle.std.specs.Prelude.{◌≡◌, ℕ, Bool, true, false, ◌&&◌, ◌||◌, not, cond, List, [], ◌∷◌, ◌++◌, ◌==◌, Option, Some, None}
use Rattle.zone_proto.specs.Names.{Name, lower, is_at_or_above}
use Rattle.zone_proto.specs.Sets.{RRset}
use Rattle.zone_proto.specs.Types.{CNAME, RRSIG, ANY}
use Rattle.zone_map.specs.Chains.{cname_target}
use Rattle.zone_map.specs.Wildcards.{exists, renamed}
use Rattle.zone_response.specs.declared.response.Part.{Part}
use Rattle.zone_response.specs.declared.response.Part.TheVariants as part
use Rattle.zone_response.specs.declared.steps.End.{End as KeptEnd}
use Rattle.zone_response.specs.declared.steps.End.TheVariants as kept_end
use Rattle.zone_response.specs.declared.steps.Next.{Next as KeptNext}
use Rattle.zone_response.specs.declared.steps.Next.TheVariants as kept_next
use Rattle.zone_response.specs.declared.steps.SoFar.{SoFar}
use Rattle.zone_response.specs.Queries.{Inquiry}
use Rattle.zone_response.specs.Nodes.{AtNode, own, alias, stand_in, nothing, at_node}
use Rattle.zone_response.specs.Dname.{dname_target, in_place_of, unless_long, synthesized_alias}
use Rattle.zone_response.specs.Sections.{is_signed, as_it_is, part_for, unless_among, sent_sets}
use Rattle.zone_response.specs.Wildcards.{source_of_synthesis}
use Rattle.zone_response.specs.Aname.{StandInAnswer, addresses, no_addresses, untold, stand_in_answer}
use Rattle.zone_response.specs.Descent.{Diversion, cut, renaming, diversion}

-- how a search ends
pub data End : Type 0 where
  -- with the set that is asked for
  complete : End
  -- at a zone cut, of which this is the NS set
  referred : RRset → End
  -- at a name of the zone without such a set; with the wildcard that was asked for it, none if the name exists, and
  -- with whether one of the two exists
  missing : Name → Option Name → Bool → End
  -- at a name outside the zone
  outside : Name → End
  -- at an alias that isn't followed any farther
  unfollowed : End
  -- at a name to which a DNAME gives a name that is too long
  too_long : End
  -- at what this server doesn't answer
  failed : End

-- what comes after a step: the search of another name, or the end
pub data Next : Type 0 where
  on : Name → Next
  ends : End → Next

-- the sets that a step adds to the answer section; the names for which a wildcard answered; and what comes next
pub record Step : Type 0 where
  pub answers : List RRset
  pub made : List Name
  pub next : Next

abbrev pub at_end : End → Step
at_end e = record { answers = []; made = []; next = ends e }

-- a set as it is found for x: its own, or that of a wildcard at the name x, whose signatures are kept where they are of
-- use
abbrev pub as_found_for : Bool → Option Name → Name → RRset → RRset
as_found_for keep None x s = s
as_found_for keep (Some wildcard_name) x s = renamed keep wildcard_name x s

-- the name for which a wildcard answered
abbrev pub expanded_names : Option Name → Name → List Name
expanded_names None x = []
expanded_names (Some wildcard_name) x = x ∷ []

-- behind an alias comes its target
abbrev pub after_alias : Option Name → Next
after_alias None = ends complete
after_alias (Some target) = on target

-- for a query of t, which asks for DNSSEC or not
module _ (signed : Bool) (t : ℕ) where
  -- signatures are of use where the query asks for DNSSEC, and where it asks for them
  abbrev pub keeps : Bool
  keeps = signed || (t == RRSIG)

  -- what is sent of the set that is asked for
  abbrev pub own_part : Part
  own_part = cond (t == RRSIG) part.Signatures (part_for signed)

-- for a query whose answer has to be proved or not, and that asks for DNSSEC or not
module _ (proved signed : Bool) where
  -- the addresses for which an ANAME set of x stands in, itself or that of the wildcard, are the whole answer. Where
  -- the answer has to be proved and nobody signs them, it fails: a validator would find them bogus (RFC 4035 section
  -- 4.3)
  abbrev pub addresses_step : Option Name → Name → RRset → Step
  addresses_step wildcard_name x s = cond (proved && not (is_signed s)) (at_end failed) (record { answers = as_it_is (part_for signed) s ∷ []; made = expanded_names wildcard_name x; next = ends complete })

  -- by what it stands for
  abbrev pub stood_in_step : Option Name → Name → StandInAnswer → Step
  stood_in_step wildcard_name x (addresses s) = addresses_step wildcard_name x s
  stood_in_step wildcard_name x no_addresses = at_end (missing x wildcard_name true)
  stood_in_step wildcard_name x untold = at_end failed

-- by what x itself has, or the wildcard at its closest encloser
module _ (q : Inquiry) where
  abbrev pub stand_in_step : Option Name → Name → RRset → Step
  stand_in_step wildcard_name x s = stood_in_step q.is_proved q.signed wildcard_name x (stand_in_answer q x (as_found_for (keeps q.signed q.record_type) wildcard_name x s))

  -- the set that is asked for is the whole answer, and an alias is followed (RFC 1034 section 4.3.2 step 3a)
  abbrev pub node_step : Option Name → Name → AtNode → Step
  node_step wildcard_name x (own s) = record { answers = as_it_is (own_part q.signed q.record_type) (as_found_for (keeps q.signed q.record_type) wildcard_name x s) ∷ []; made = expanded_names wildcard_name x; next = ends complete }
  node_step wildcard_name x (alias s) = record { answers = as_it_is (part_for q.signed) (as_found_for (keeps q.signed q.record_type) wildcard_name x s) ∷ []; made = expanded_names wildcard_name x; next = after_alias (cname_target s) }
  node_step wildcard_name x (stand_in s) = stand_in_step wildcard_name x s
  node_step wildcard_name x nothing = at_end (missing x wildcard_name true)

-- ---- below a DNAME

-- the search goes on at the new name, unless the query asks for CNAME, or for any type: then the CNAME is the answer, as it is of an alias of the zone
abbrev pub after_renaming : ℕ → Name → Next
after_renaming t n = cond ((t == CNAME) || (t == ANY)) (ends complete) (on (lower n))

-- behind these sets, for a query of t that asks for DNSSEC or not
module _ (signed : Bool) (t : ℕ) (before : List RRset) (x : Name) (s : RRset) where
  -- the DNAME set is sent, with its signatures where the query asks for DNSSEC (RFC 6672 section 5.3.1)
  abbrev pub dname_sets : List RRset
  dname_sets = unless_among before (as_it_is (part_for signed) s)

  -- behind it stands the CNAME that it makes; of a new name that is too long nothing is told (RFC 6672 section 3.2)
  abbrev pub new_name_step : Option Name → Step
  new_name_step (Some n) = record { answers = dname_sets ++ synthesized_alias s x n ∷ []; made = []; next = after_renaming t n }
  new_name_step None = record { answers = dname_sets; made = []; next = ends too_long }

  -- by its target; a set that has none isn't answered
  abbrev pub target_step : Option Name → Step
  target_step (Some target) = new_name_step (unless_long (in_place_of s.owner target x))
  target_step None = at_end failed

module _ (q : Inquiry) where
  -- by what a name has, for x
  abbrev pub step_at : Option Name → Name → Name → Step
  step_at wildcard_name x a = node_step q wildcard_name x (at_node q.sets a q.record_type)

  -- for a name that doesn't exist: by the wildcard at its closest encloser, if that exists (RFC 1034 section 4.3.2 step
  -- 3c, RFC 4592 section 3.3.1)
  abbrev pub wildcard_step : Name → Option Name → Step
  wildcard_step x None = at_end (missing x None false)
  wildcard_step x (Some wildcard_name) = cond (exists q.sets wildcard_name) (step_at (Some wildcard_name) x wildcard_name) (at_end (missing x (Some wildcard_name) false))

  -- for a name that no cut and no DNAME is above
  abbrev pub name_step : Name → Step
  name_step x = cond (exists q.sets x) (step_at None x x) (wildcard_step x (source_of_synthesis q.sets x))

  -- a cut refers (RFC 1034 section 4.3.2 step 3b), and a DNAME gives the name another (RFC 6672 section 3.2)
  abbrev pub diverted_step : List RRset → Name → Option Diversion → Step
  diverted_step before x None = name_step x
  diverted_step before x (Some (cut s)) = at_end (referred s)
  diverted_step before x (Some (renaming s)) = target_step q.signed q.record_type before x s (dname_target s)

  -- the step from x, behind these sets of the answer section
  abbrev pub step : List RRset → Name → Step
  step before x = cond (is_at_or_above q.origin x) (diverted_step before x (diversion q.origin q.sets x q.record_type)) (at_end (outside x))

-- ---- as the program keeps it

abbrev pub end_of : KeptEnd → End
end_of kept_end.Complete = complete
end_of (kept_end.Referred s) = referred s.now
end_of (kept_end.Missing x) = missing x.name x.wildcard x.is_there
end_of (kept_end.Outside x) = outside x
end_of kept_end.Unfollowed = unfollowed
end_of kept_end.TooLong = too_long
end_of kept_end.Failed = failed

abbrev pub next_of : KeptNext → Next
next_of (kept_next.On x) = on x
next_of (kept_next.Ends e) = ends (end_of e)

-- a step, from what was found before it: the sets and names that it adds come after these, and this comes next
pub record Takes (s : Step) (before after : SoFar) (came : KeptNext) : Type 0 where
  pub answers : sent_sets after.answers ≡ sent_sets before.answers ++ s.answers
  pub made : after.made.items ≡ before.made.items ++ s.made
  pub next : next_of came ≡ s.next
