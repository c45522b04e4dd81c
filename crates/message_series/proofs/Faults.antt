-- Why no series was written
use Rattle.std.proofs.Common.{◌≡◌, ℕ, ◌+◌, ◌<◌, ◌≤◌, List, [], ◌∷◌, ◌++◌, length, take, drop, refl, sym, ap, subst, ◌∙◌, arith, inl, inr, append_assoc}
use Rattle.std.specs.Prelude.{◌⊎◌}
use Rattle.zone_proto.specs.declared.record.Record.{Record}
use Rattle.message_reading.specs.declared.query.Query.{Query}
use Rattle.message_writing.specs.Fronts.{FirstHasNoRoom, HasNoRoomFor}
use Rattle.message_writing.specs.Outcomes.{HasUnwritable}
use Rattle.message_writing.specs.Responses.{all_records, records_of}
use Rattle.message_writing.specs.declared.response.Group.{Group}
use Rattle.message_series.specs.Faults.{AreTooMany, HasTooLong, HaveNoSeries, IsSeriesFault}
use Rattle.message_series.specs.Singles.{AreSingle, FirstIsTooLong, IsPushFault}
use Rattle.message_series.specs.declared.fault.SeriesFault.{SeriesFault}
use Rattle.message_series.specs.declared.fault.SeriesFault.TheVariants.{Unwritable, Memory}
use Rattle.message_series.proofs.Pushed.{AreWritten}
use Rattle.message_series.proofs.OneByOne.{as_many, the_one}

-- a message was written of none of some groups
pub first_is_too_long : (q : Query) (gs : List Group) (taken : ℕ) → FirstHasNoRoom 65535 q (all_records (take taken gs)) (drop taken gs) → taken ≡ 0 → 0 < length gs
    → FirstIsTooLong q gs
first_is_too_long q [] taken h none some = absurd (omega (arith, some))
first_is_too_long q (g ∷ gs) taken h none some = record {
  first = g;
  rest = gs;
  stands = refl;
  is = subst (λ (n : ℕ). FirstHasNoRoom 65535 q (all_records (take n (g ∷ gs))) (drop n (g ∷ gs))) none h;
}

-- a record among those that are left is one of all
unwritable_in : (written left all : List Record) → written ++ left ≡ all → HasUnwritable left → HasUnwritable all
unwritable_in written left all parts u = record {
  front = written ++ u.front;
  unwritable = u.unwritable;
  rest = u.rest;
  stands = sym parts ∙ ap (λ (rs : List Record). written ++ rs) u.stands ∙ sym (append_assoc written u.front (u.unwritable ∷ u.rest));
  is = u.is;
}

too_long_in : (q : Query) (written all : List Record) (g : Group) (gs : List Group) → written ++ all_records (g ∷ gs) ≡ all → length (records_of g) ≡ 1
    → HasNoRoomFor 65535 q [] (records_of g) → HasTooLong q all
too_long_in q written all g gs parts one h =
    let r = the_one (records_of g) one in
    record {
      front = written;
      long = r.0;
      rest = all_records gs;
      stands = sym parts ∙ ap (λ (rs : List Record). written ++ (rs ++ all_records gs)) r.1;
      is = subst (HasNoRoomFor 65535 q []) r.1 h;
    }

first_in : (q : Query) (written all : List Record) (left : List Group) → written ++ all_records left ≡ all → AreSingle left → FirstIsTooLong q left → HasTooLong q all
first_in q written all [] parts single f = absurd cc
first_in q written all (g ∷ gs) parts single f =
    let same : g ≡ f.first = cc in
    too_long_in q written all g gs parts single.0 (subst (λ (x : Group). HasNoRoomFor 65535 q [] (records_of x)) (sym same) f.is)

-- why no message of those that are left was written
pub fault_in : (q : Query) (count : ℕ) (octets : List ℕ) (left all : List Group) (fault : SeriesFault) → AreWritten count octets left all → IsPushFault q left fault
    → IsSeriesFault q (all_records all) fault
fault_in q count octets left all Memory h f = tt
fault_in q count octets left all Unwritable h f = by f
  where
    by : HasUnwritable (all_records left) ⊎ FirstIsTooLong q left → HaveNoSeries q (all_records all)
    by (inl u) = inl (unwritable_in h.written (all_records left) (all_records all) h.parts u)
    by (inr l) = inr (inl (first_in q h.written (all_records all) left h.parts h.single l))

-- there are messages enough, and records are left
pub too_many : (q : Query) (count : ℕ) (octets : List ℕ) (left all : List Group) → AreWritten count octets left all → AreSingle all → count ≡ 65534 → 0 < length left
    → HaveNoSeries q (all_records all)
too_many q count octets left all h single full some =
    let many : AreTooMany (all_records all) = omega (arith, h.least, full, some, as_many all single) in
    inr (inr many)
