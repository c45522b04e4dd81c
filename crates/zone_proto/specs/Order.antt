-- Words on values under an order: the least and the greatest of a list
use Rattle.std.specs.Prelude.{Bool, IsFalse, cond, List, [], ◌∷◌, Option, Some, None}
use Rattle.std.specs.List.{Contains}
use Rattle.std.specs.declared.cmp.Ordering.{Ordering}
use Rattle.std.specs.Ordering.{is_lt, is_le, flip_args}

module _ {K : Type 0} (cmp : K → K → Ordering) where
  -- x comes before y
  abbrev pub is_before : K → K → Bool
  is_before x y = is_lt (cmp x y)

  -- x is y or comes before it
  abbrev pub is_upto : K → K → Bool
  is_upto x y = is_le (cmp x y)

  -- the greater of a value and a value that may be there
  abbrev pub greater : K → Option K → K
  greater x None = x
  greater x (Some y) = cond (is_before x y) y x

  -- the greatest element of a list
  abbrev pub greatest : List K → Option K
  greatest [] = None
  greatest (x ∷ xs) = Some (greater x (greatest xs))

  -- what these words mean: an element that none comes after
  pub record IsGreatest (xs : List K) (m : K) : Type 0 where
    pub element : Contains xs m
    pub last : (x : K) → Contains xs x → IsFalse (is_before m x)

  -- an element that none comes before
  pub record IsLeast (xs : List K) (m : K) : Type 0 where
    pub element : Contains xs m
    pub first : (x : K) → Contains xs x → IsFalse (is_before x m)

-- the least element of a list
abbrev pub least : {K : Type 0} → (K → K → Ordering) → List K → Option K
least cmp xs = greatest (flip_args cmp) xs
