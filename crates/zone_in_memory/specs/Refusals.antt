-- What a refusal to store a set hands back
use Rattle.std.specs.Prelude.{◌≡◌, ◌≢◌, []}
use Rattle.zone_proto.specs.Sets.{RRset}
use Rattle.zone_in_memory.specs.declared.put_refused.PutRefused.{PutRefused}
use Rattle.zone_in_memory.specs.declared.put_refused.PutRefused.TheVariants.{Empty, Memory}

-- the set as it was passed in: a set without records is refused for that, and any other only for lack of memory
abbrev pub Refuses : PutRefused → RRset → Type 0
Refuses (Empty s) set = (s ≡ set) × (set.records ≡ [])
Refuses (Memory s) set = (s ≡ set) × (set.records ≢ [])
