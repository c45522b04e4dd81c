-- Names as the program keeps them: vectors of octets
use Rattle.std.specs.Prelude.{ℕ, List, map}
use Rattle.std.specs.declared.alloc.Global.{Global}
use Rattle.std.specs.declared.vec.Vec.{Vec}
use Rattle.zone_proto.specs.Names.{Name}

-- the octets of labels that are kept as vectors
abbrev pub octets_of : List (Vec ℕ Global) → Name
octets_of = map (λ l. l.items)
