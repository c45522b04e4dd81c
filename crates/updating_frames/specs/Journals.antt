-- What the journals of zones take
use Rattle.std.specs.Prelude.{◌≡◌, ℕ, Bool, true, false, List, [], ◌∷◌, ◌++◌, ⊤, Option, Some, None}
use Rattle.zone_proto.specs.Names.{Name}

-- a frame that the journal of the zone of an origin takes
pub record Entry : Type 0 where
  pub origin : Name
  pub frame : List ℕ

-- what is known of journals grows by entries; nothing is known of those of which nothing was
abbrev pub Grows : Option (List Entry) → Option (List Entry) → List Entry → Type 0
Grows None new es = ⊤
Grows (Some old) None es = ⊥
Grows (Some old) (Some new) es = new ≡ old ++ es

-- by an entry that they took, or by none
abbrev pub Takes : Option (List Entry) → Option (List Entry) → Bool → Entry → Type 0
Takes old new true e = Grows old new (e ∷ [])
Takes old new false e = Grows old new []
