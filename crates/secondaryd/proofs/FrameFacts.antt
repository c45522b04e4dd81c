-- Frames that are read, piece by piece
use Rattle.std.proofs.Common.{◌≡◌, ◌≢◌, ℕ, ◌≤◌, List, [], ◌∷◌, ◌++◌, length, take, slice_index_or, refl, subst, ◌∙◌, arith}
use Rattle.std.specs.Prelude.{Option, Some}
use Rattle.std.specs.Int.{from_be_bytes, w32, w64, Width}
use Rattle.std.specs.Io.KnownBytes.{Consumes}
use Rattle.std.proofs.KnownBytes.{Consumes-trans}
use Rattle.std.proofs.lemmas.List.{take_all}
use Rattle.secondaryd.specs.declared.frames.Event.{Event}
use Rattle.secondaryd.specs.Frames.{ReadsEvent, ReadsKind, ReadsNumber}

alone : (xs : List ℕ) → length xs ≡ 1 → xs ≡ slice_index_or xs 0 0 ∷ []
alone [] one = absurd (omega arith)
alone (x ∷ []) one = refl
alone (x ∷ y ∷ ys) one = absurd (omega arith)

-- one octet that is read
pub octet_read : (a b : Option (List ℕ)) (xs : List ℕ) (n : ℕ) → length xs ≡ 1 → n ≤ length xs → n ≢ 0 → Consumes a b (take n xs)
    → Consumes a b (slice_index_or xs 0 0 ∷ [])
octet_read a b xs n one most some consumed =
    let all : take n xs ≡ xs = take_all n xs (omega (arith, one, most, some)) in
    subst (Consumes a b) (all ∙ alone xs one) consumed

-- octets that are read are those of their number
pub number_read : (w : Width) (size : ℕ) (a b : Option (List ℕ)) (n : ℕ) (xs : List ℕ) → length xs ≡ size → from_be_bytes w xs ≡ n
    → Consumes a b xs → ReadsNumber w size a b n
number_read w size a b n xs size_is number consumed = record { text = xs; size_is = size_is; number = number; consumed = consumed }

-- a kind, a moment, a length and octets make an event
pub event_read : (a b c d k : Option (List ℕ)) (count : ℕ) (e : Event) → ReadsKind a b (Some e.kind) → ReadsNumber w64 8 b c e.moment
    → ReadsNumber w32 4 c d count → length e.octets.items ≡ count → Consumes d k e.octets.items → ReadsEvent a k (Some e)
event_read a b c d k count e (octet, kind_is, octet_is) moment count_read size octets_read =
    let xs : List ℕ = e.octets.items in (
      (octet ∷ []) ++ (moment.text ++ (count_read.text ++ xs)),
      record {
        octet = octet;
        moment = moment.text;
        count = count_read.text;
        parts = refl;
        kind_is = kind_is;
        moment_size = moment.size_is;
        count_size = count_read.size_is;
        moment_is = moment.number;
        count_is = cc (count_read.number, size);
      },
      Consumes-trans a b k (octet ∷ []) (moment.text ++ (count_read.text ++ xs)) octet_is
          (Consumes-trans b c k moment.text (count_read.text ++ xs) moment.consumed
          (Consumes-trans c d k count_read.text xs count_read.consumed octets_read)),
    )
