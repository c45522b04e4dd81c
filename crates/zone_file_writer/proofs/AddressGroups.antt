-- The groups of sixteen octets
use Rattle.std.proofs.Common.{◌≡◌, ℕ, List, [], ◌∷◌, ◌+◌, ◌*◌, length, get_or, refl, arith}
use Rattle.zone_file_writer.specs.Addresses.{groups_of}

abbrev pub group_at : List ℕ → ℕ → ℕ
group_at xs i = get_or xs i 0 * 256 + get_or xs (i + 1) 0

pub groups_of_sixteen : (xs : List ℕ) → length xs ≡ 16
    → groups_of xs ≡ group_at xs 0 ∷ group_at xs 2 ∷ group_at xs 4 ∷ group_at xs 6 ∷ group_at xs 8 ∷ group_at xs 10 ∷ group_at xs 12 ∷ group_at xs 14 ∷ []
groups_of_sixteen [] l = absurd (omega arith)
groups_of_sixteen (x0 ∷ []) l = absurd (omega arith)
groups_of_sixteen (x0 ∷ x1 ∷ []) l = absurd (omega arith)
groups_of_sixteen (x0 ∷ x1 ∷ x2 ∷ []) l = absurd (omega arith)
groups_of_sixteen (x0 ∷ x1 ∷ x2 ∷ x3 ∷ []) l = absurd (omega arith)
groups_of_sixteen (x0 ∷ x1 ∷ x2 ∷ x3 ∷ x4 ∷ []) l = absurd (omega arith)
groups_of_sixteen (x0 ∷ x1 ∷ x2 ∷ x3 ∷ x4 ∷ x5 ∷ []) l = absurd (omega arith)
groups_of_sixteen (x0 ∷ x1 ∷ x2 ∷ x3 ∷ x4 ∷ x5 ∷ x6 ∷ []) l = absurd (omega arith)
groups_of_sixteen (x0 ∷ x1 ∷ x2 ∷ x3 ∷ x4 ∷ x5 ∷ x6 ∷ x7 ∷ []) l = absurd (omega arith)
groups_of_sixteen (x0 ∷ x1 ∷ x2 ∷ x3 ∷ x4 ∷ x5 ∷ x6 ∷ x7 ∷ x8 ∷ []) l = absurd (omega arith)
groups_of_sixteen (x0 ∷ x1 ∷ x2 ∷ x3 ∷ x4 ∷ x5 ∷ x6 ∷ x7 ∷ x8 ∷ x9 ∷ []) l = absurd (omega arith)
groups_of_sixteen (x0 ∷ x1 ∷ x2 ∷ x3 ∷ x4 ∷ x5 ∷ x6 ∷ x7 ∷ x8 ∷ x9 ∷ x10 ∷ []) l = absurd (omega arith)
groups_of_sixteen (x0 ∷ x1 ∷ x2 ∷ x3 ∷ x4 ∷ x5 ∷ x6 ∷ x7 ∷ x8 ∷ x9 ∷ x10 ∷ x11 ∷ []) l = absurd (omega arith)
groups_of_sixteen (x0 ∷ x1 ∷ x2 ∷ x3 ∷ x4 ∷ x5 ∷ x6 ∷ x7 ∷ x8 ∷ x9 ∷ x10 ∷ x11 ∷ x12 ∷ []) l = absurd (omega arith)
groups_of_sixteen (x0 ∷ x1 ∷ x2 ∷ x3 ∷ x4 ∷ x5 ∷ x6 ∷ x7 ∷ x8 ∷ x9 ∷ x10 ∷ x11 ∷ x12 ∷ x13 ∷ []) l = absurd (omega arith)
groups_of_sixteen (x0 ∷ x1 ∷ x2 ∷ x3 ∷ x4 ∷ x5 ∷ x6 ∷ x7 ∷ x8 ∷ x9 ∷ x10 ∷ x11 ∷ x12 ∷ x13 ∷ x14 ∷ []) l = absurd (omega arith)
groups_of_sixteen (x0 ∷ x1 ∷ x2 ∷ x3 ∷ x4 ∷ x5 ∷ x6 ∷ x7 ∷ x8 ∷ x9 ∷ x10 ∷ x11 ∷ x12 ∷ x13 ∷ x14 ∷ x15 ∷ []) l = refl
groups_of_sixteen (x0 ∷ x1 ∷ x2 ∷ x3 ∷ x4 ∷ x5 ∷ x6 ∷ x7 ∷ x8 ∷ x9 ∷ x10 ∷ x11 ∷ x12 ∷ x13 ∷ x14 ∷ x15 ∷ x16 ∷ xs) l = absurd (omega arith)
