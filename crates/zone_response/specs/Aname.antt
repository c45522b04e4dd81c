-- The addresses for which an ANAME set stands in: those at the end of its targets, as a lookup finds them in the zone. No standard has ANAME
use Rattle.std.specs.Prelude.{ℕ, ◌+◌, Bool, cond, List, [], ◌∷◌, ◌==◌, Some, unwrap_or}
use Rattle.std.specs.Option.{option_map_or}
use Rattle.zone_proto.specs.Names.{Name, is_at_or_above}
use Rattle.zone_proto.specs.Sets.{RRset}
use Rattle.zone_map.specs.Fronts.{longest_front}
use Rattle.zone_map.specs.Zones.{Sets}
use Rattle.zone_lookup.specs.AdditionalLaws.{are_new}
use Rattle.zone_lookup.specs.Additionals.{next_name, run_target, run_types, seen_at_start, leads_to, listed_with, alias_sets}
use Rattle.zone_lookup.specs.Flattening.{last_set, flattened}
use Rattle.zone_lookup.specs.Runs.{along}
use Rattle.zone_response.specs.declared.aname.StandInAnswer.{StandInAnswer as KeptAnswer}
use Rattle.zone_response.specs.declared.aname.StandInAnswer.TheVariants as kept
use Rattle.zone_response.specs.Queries.{Inquiry}
use Rattle.zone_response.specs.Descent.{diversion}

-- ---- where the targets lead

module _ (m : Sets) (signed : Bool) where
  -- the names that are searched for a type from a name on: each is the first target of what is found for the one before, as long as none comes twice and none was seen before
  abbrev pub run_names : List Name → ℕ → Name → List Name
  run_names seen t from = longest_front (are_new seen) (along (leads_to m signed t) (1 + alias_sets m) (Some from))

  -- the sets that are found for them, for one type after the other, behind others
  abbrev pub listed_along : List Name → Name → List ℕ → List RRset → List RRset
  listed_along seen from [] had = had
  listed_along seen from (t ∷ ts) had = listed_along seen from ts (listed_with m signed t had (run_names seen t from))

  -- the sets along the targets of an ANAME set of x: those that a lookup lists beside it
  abbrev pub target_sets : Name → ℕ → RRset → List RRset
  target_sets x t s = option_map_or (λ from. listed_along (seen_at_start x t) from (run_types t) []) (next_name t s) []

-- ---- what it stands for

pub data StandInAnswer : Type 0 where
  -- these addresses
  addresses : RRset → StandInAnswer
  -- none: the last target is a name of the zone for which none are found
  no_addresses : StandInAnswer
  -- those of a name that the zone doesn't tell
  untold : StandInAnswer

module _ (q : Inquiry) where
  -- a set of the type that is asked for has the addresses: they go under the owner of the ANAME set, with the lesser one of both TTLs, and are signed for the response. Any other set without a target is that of a zone cut
  abbrev pub by_addresses : RRset → RRset → StandInAnswer
  by_addresses s last = cond (last.record_type == q.record_type) (addresses (flattened q.sign s q.record_type last)) untold

  -- at a target for which nothing is found: one outside the zone, below a zone cut or below a DNAME isn't told
  abbrev pub at_last_target : Name → StandInAnswer
  at_last_target n = cond (is_at_or_above q.origin n) (option_map_or (λ diversion. untold) (diversion q.origin q.sets n q.record_type) no_addresses) untold

  -- by the last set along the targets, which may be an alias or an ANAME set itself
  abbrev pub by_last_set : RRset → RRset → StandInAnswer
  by_last_set s last = option_map_or at_last_target (run_target q.record_type last) (by_addresses s last)

  -- what an ANAME set of x stands for; where nothing is found along the targets it is the last set itself
  abbrev pub stand_in_answer : Name → RRset → StandInAnswer
  stand_in_answer x s = by_last_set s (unwrap_or (last_set (target_sets q.sets q.signed x q.record_type s)) s)

-- ---- as the program keeps it

abbrev pub answer_of : KeptAnswer → StandInAnswer
answer_of (kept.Addresses s) = addresses s
answer_of kept.NoAddresses = no_addresses
answer_of kept.Untold = untold
