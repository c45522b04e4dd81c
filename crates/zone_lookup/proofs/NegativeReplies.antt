-- What a reply that denies says
use Rattle.std.proofs.Common.{◌≡◌, ℕ, Bool, List, refl}
use Rattle.std.specs.Prelude.{Option, Some, None, MatchOption}
use Rattle.zone_proto.specs.declared.record.Record.{Record}
use Rattle.zone_proto.specs.Names.{Name}
use Rattle.zone_proto.specs.Sets.{RRset}
use Rattle.zone_map.specs.Wildcards.{found}
use Rattle.zone_map.specs.Zones.{Sets}
use Rattle.zone_lookup.specs.Replies.{NegativeAnswer, negative, negative_answer, IsAnswer, IsReplyFor}
use Rattle.zone_lookup.specs.ReplyLaws.{NegativeIsNotFound, NegativeByName}

-- what was found, which is nothing, and which denial it is
pub reply_is_negative : (sign : RRset → List Record) (origin : Name) (m : Sets) (signed : Bool) (n : Name) (t : ℕ) (d : NegativeAnswer) → IsReplyFor sign origin m signed n t (negative d) → (found m signed n t ≡ None) × (negative_answer origin m n ≡ d)
reply_is_negative sign origin m signed n t d = by (found m signed n t)
  where
    by : (o : Option RRset) → MatchOption o (negative d ≡ negative (negative_answer origin m n)) (λ s. IsAnswer sign m signed n t s (negative d)) → (o ≡ None) × (negative_answer origin m n ≡ d)
    by None e = (refl, cc)
    by (Some s) i = absurd (let e = i.sections in cc)

pub negative_is_not_found : NegativeIsNotFound
negative_is_not_found sign origin m signed n t d i = (reply_is_negative sign origin m signed n _ d i).0

pub negative_by_name : NegativeByName
negative_by_name sign origin m signed n t d i = (reply_is_negative sign origin m signed n _ d i).1
