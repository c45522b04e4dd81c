-- Names that are held in the order of their digests, of which some may have one digest
use Rattle.std.specs.Prelude.{◌≡◌, ◌⊎◌, ℕ, ◌<◌, ◌-◌, List, [], ◌∷◌, ◌++◌, slice_index_or}
use Rattle.zone_proto.specs.declared.rr_key.RrKey.{RrKey}
use Rattle.zone_proto.specs.Sets.{RRset}
use Rattle.zone_map.specs.Zones.{Sets}
use Rattle.zone_denial.specs.declared.hashed_names.HashedName.{HashedName as HeldName}

-- the name of a place has the digest of the one before it
abbrev pub RepeatsDigest : List HeldName → ℕ → Type 0
RepeatsDigest hs i = (0 < i) × ((h : HeldName) → (slice_index_or hs (i - 1) h).digest ≡ (slice_index_or hs i h).digest)

-- the last of these sets by their keys has this key
abbrev pub EndsWith : Sets → RrKey → Type 0
EndsWith es k = (others : Sets) × (s : RRset) × (es ≡ others ++ (k, s) ∷ [])

-- sets behind which another was put, or in place of the last of which, where that has its key
abbrev pub IsPutBehind : Sets → RrKey × RRset → Sets → Type 0
IsPutBehind es e after = (after ≡ es ++ e ∷ []) ⊎ ((others : Sets) × (s : RRset) × (es ≡ others ++ (e.0, s) ∷ []) × (after ≡ others ++ e ∷ []))
