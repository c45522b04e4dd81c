-- Records each by itself
use Rattle.std.proofs.Common.{◌≡◌, ℕ, zero, suc, ◌+◌, ◌<◌, List, [], ◌∷◌, ◌++◌, length, drop, refl, ap, ◌∙◌, arith, length-append}
use Rattle.zone_proto.specs.declared.record.Record.{Record}
use Rattle.message_writing.specs.Responses.{all_records, records_of}
use Rattle.message_writing.specs.declared.response.Group.{Group}
use Rattle.message_series.specs.Singles.{AreSingle}

pub single_more : (gs : List Group) (g : Group) → AreSingle gs → length (records_of g) ≡ 1 → AreSingle (gs ++ g ∷ [])
single_more [] g h one = (one, tt)
single_more (f ∷ gs) g h one = (h.0, single_more gs g h.1 one)

pub singles_left : (k : ℕ) (gs : List Group) → AreSingle gs → AreSingle (drop k gs)
singles_left zero gs h = h
singles_left (suc k) [] h = h
singles_left (suc k) (g ∷ gs) h = singles_left k gs h.1

-- there are as many records as groups
pub as_many : (gs : List Group) → AreSingle gs → length (all_records gs) ≡ length gs
as_many [] h = refl
as_many (g ∷ gs) h =
    let one : length (records_of g) ≡ 1 = h.0 in
    let others : length (all_records gs) ≡ length gs = as_many gs h.1 in
    length-append (records_of g) (all_records gs) ∙ omega (arith, one, others)

pub the_one : (rs : List Record) → length rs ≡ 1 → (r : Record) × (rs ≡ r ∷ [])
the_one [] h = absurd (omega (arith, h))
the_one (r ∷ []) h = (r, refl)
the_one (r ∷ s ∷ rs) h = absurd (omega (arith, h))
