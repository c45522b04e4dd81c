-- What a file has once a frame was put behind its own, or taken back
use Rattle.std.proofs.Common.{◌≡◌, ◌≤◌, ℕ, ◌+◌, List, ◌++◌, length, take, refl, sym, ap, ◌∙◌, arith, take_all}
use Rattle.std.specs.Prelude.{Option, Some, None}
use Rattle.std.specs.Io.KnownBytes.{Appends, Keeps}
use Rattle.std.proofs.lemmas.Grind.{common_steps}
use Rattle.journal_files.specs.Files.{BeginsAs, Grows, HasLength, IsCutAt}

-- what is put behind octets stands behind these
front : (n : ℕ) (xs more : List ℕ) → n ≤ length xs → take n (xs ++ more) ≡ take n xs
front n xs more less = grind (arith, common_steps)

twice : (n : ℕ) (xs : List ℕ) → take n (take n xs) ≡ take n xs
twice n xs = grind (arith, common_steps)

-- nothing is cut off
pub uncut : (n m : ℕ) (octets : Option (List ℕ)) → HasLength octets n → n ≤ m → IsCutAt m octets octets
uncut n m None has less = absurd has
uncut n m (Some xs) has less = sym (take_all m xs (omega (arith, has, less)))

pub length_cut : (n m : ℕ) (old new : Option (List ℕ)) → HasLength old n → m ≤ n → IsCutAt m old new → HasLength new m
length_cut n m None new has less cut = absurd has
length_cut n m (Some xs) None has less cut = absurd cut
length_cut n m (Some xs) (Some ys) has less cut = grind (arith, common_steps)

pub cut_begins : (n : ℕ) (old new : Option (List ℕ)) → IsCutAt n old new → BeginsAs n old new
cut_begins n None new cut = tt
cut_begins n (Some xs) None cut = absurd cut
cut_begins n (Some xs) (Some ys) cut = ap (take n) cut ∙ twice n xs

-- what a failed write left is taken back
pub taken_back : (n : ℕ) (old mid new : Option (List ℕ)) → HasLength old n → Grows old mid → IsCutAt n mid new → Keeps old new
taken_back n None mid new has grows cut = tt
taken_back n (Some xs) None new has grows cut = absurd grows
taken_back n (Some xs) (Some ms) None has (more, grows) cut = absurd cut
taken_back n (Some xs) (Some ms) (Some ys) has (more, grows) cut =
    cut ∙ ap (take n) grows ∙ front n xs more (omega (arith, has)) ∙ take_all n xs (omega (arith, has))

-- or stands behind the frames
pub stands : (n : ℕ) (old mid new : Option (List ℕ)) → HasLength old n → Grows old mid → BeginsAs n mid new → BeginsAs n old new
stands n None mid new has grows begins = tt
stands n (Some xs) None new has grows begins = absurd grows
stands n (Some xs) (Some ms) None has (more, grows) begins = absurd begins
stands n (Some xs) (Some ms) (Some ys) has (more, grows) begins = begins ∙ ap (take n) grows ∙ front n xs more (omega (arith, has))

-- nothing was written
pub same : (n : ℕ) (octets : Option (List ℕ)) → Keeps octets octets × BeginsAs n octets octets
same n None = (tt, tt)
same n (Some xs) = (refl, refl)

pub length_grown : (n m : ℕ) (old new : Option (List ℕ)) (frame : List ℕ) → HasLength old n → Appends old new frame → m ≡ n + length frame → HasLength new m
length_grown n m None new frame has grown sum = absurd has
length_grown n m (Some xs) None frame has grown sum = absurd grown
length_grown n m (Some xs) (Some ys) frame has grown sum = grind (arith, common_steps)

pub length_back : (n : ℕ) (old mid new : Option (List ℕ)) → HasLength old n → Grows old mid → IsCutAt n mid new → HasLength new n
length_back n None mid new has grows cut = absurd has
length_back n (Some xs) None new has grows cut = absurd grows
length_back n (Some xs) (Some ms) None has (more, grows) cut = absurd cut
length_back n (Some xs) (Some ms) (Some ys) has (more, grows) cut =
    ap length (cut ∙ ap (take n) grows ∙ front n xs more (omega (arith, has)) ∙ take_all n xs (omega (arith, has))) ∙ has
