-- A message of the first of the records that were gathered
use Rattle.std.proofs.Common.{◌≡◌, inl, inr, ℕ, ◌+◌, ◌<◌, ◌≤◌, List, [], ◌∷◌, ◌++◌, length, drop, take, map, refl, sym, ap, subst, ◌∙◌, append_assoc, arith}
use Rattle.std.specs.Prelude.{IsErrAnd, Option, Result, Ok, Err}
use Rattle.std.proofs.lemmas.List.{length-take-le, take-append-drop, take-append-le, take-map}
use Rattle.zone_proto.specs.declared.record.Record.{Record}
use Rattle.message_writing.specs.declared.response.Group.{Group}
use Rattle.message_writing.specs.Fronts.{FirstHasNoRoom, HasNoRoomFor}
use Rattle.message_writing.specs.Outcomes.{HasUnwritable}
use Rattle.message_writing.specs.Responses.{all_records, records_of}
use Rattle.transfer_messages.specs.declared.place.Place.{Place}
use Rattle.transfer_messages.specs.declared.transfer.TransferFault.{TransferFault}
use Rattle.transfer_messages.specs.declared.transfer.TransferFault.TheVariants as faults
use Rattle.transfer_messages.specs.Gathering.{Gathers}
use Rattle.transfer_messages.specs.Messages.{Goes, HasTooLong, HasUnsendable, IsMessageOf, IsNext, Transfer, WritesMessage, left_of}
use Rattle.zone_server.specs.Transfers.{one_by_one}
use Rattle.transfer_messages.proofs.Gathered.{grown}
use Rattle.transfer_messages.proofs.Lists.{no_elements}

-- the records of groups of one record each
records_alone : (gs : List Group) (rs : List Record) → map records_of gs ≡ one_by_one rs → all_records gs ≡ rs
records_alone [] [] e = refl
records_alone [] (r ∷ rs) e = absurd cc
records_alone (g ∷ gs) [] e = absurd cc
records_alone (g ∷ gs) (r ∷ rs) e =
    let first : records_of g ≡ r ∷ [] = cc in
    let others : map records_of gs ≡ one_by_one rs = cc in
    ap (λ (x : List Record). x ++ all_records gs) first ∙ ap (λ (x : List Record). r ∷ x) (records_alone gs rs others)

-- the first of them
first_alone : (gs : List Group) (rs : List Record) (count : ℕ) → map records_of gs ≡ one_by_one rs → all_records (take count gs) ≡ take count rs
first_alone gs rs count e =
    records_alone (take count gs) (take count rs)
    (sym (take-map records_of count gs) ∙ ap (take count) e ∙ take-map (λ (r : Record). r ∷ []) count rs)

module _ (gs : List Group) (left : List Record) (g : Gathers [] gs left []) where
  -- where none was gathered, none is left
  pub none_left : length gs ≡ 0 → left ≡ []
  none_left e =
      let count : length gs ≡ 0 + length g.taken = grown [] gs g.taken g.put in
      let taken : g.taken ≡ [] = no_elements g.taken (omega (arith, count, e)) in
      let passed : g.passed ≡ [] = g.room (omega (arith, e)) in
      g.parts ∙ ap (λ (x : List Record). x ++ (g.passed ++ [])) taken ∙ ap (λ (x : List Record). x ++ []) passed

  module _ (t : Transfer) where
    pub unwritable_left : HasUnwritable (all_records gs) → HasUnsendable t left
    unwritable_left h =
        let alone : all_records gs ≡ g.taken = records_alone gs g.taken g.put in
        inl (record {
          front = h.front;
          unwritable = h.unwritable;
          rest = h.rest ++ (g.passed ++ []);
          stands =
              g.parts ∙ ap (λ (x : List Record). x ++ (g.passed ++ [])) (sym alone ∙ h.stands) ∙ append_assoc h.front (h.unwritable ∷ h.rest) (g.passed ++ []);
          is = h.is;
        })

    pub too_long_left : (count : ℕ) (octets : List ℕ) → count ≡ 0 → 0 < length gs → IsMessageOf t gs count octets → HasUnsendable t left
    too_long_left count octets none some h = inr (by gs g.taken g.put some (subst (λ (n : ℕ). FirstHasNoRoom t.limit t.query (all_records (take n gs)) (drop n gs)) none h.next) g.parts)
      where
        by : (ds : List Group) (rs : List Record) → map records_of ds ≡ one_by_one rs → 0 < length ds → FirstHasNoRoom t.limit t.query [] ds → left ≡ rs ++ (g.passed ++ []) → HasTooLong t left
        by [] rs e more n parts = absurd (omega (arith, more))
        by (d ∷ ds) [] e more n parts = absurd cc
        by (d ∷ ds) (r ∷ rs) e more n parts =
            let first : records_of d ≡ r ∷ [] = cc in
            record {
              front = [];
              long = r;
              rest = rs ++ (g.passed ++ []);
              stands = parts;
              is = subst (λ (x : List Record). HasNoRoomFor t.limit t.query [] x) first n;
            }

    -- the message, and what is left behind it
    pub next_sent : (old new : Place) (count : ℕ) (octets : List ℕ) → left ≡ left_of t old → 0 < count → IsMessageOf t gs count octets → left_of t new ≡ drop count left → IsNext t old new octets
    next_sent old new count octets is some h behind =
        let alone : all_records (take count gs) ≡ take count g.taken = first_alone gs g.taken count g.put in
        let size : length gs ≡ 0 + length g.taken = grown [] gs g.taken g.put in
        let most : count ≤ length g.taken = omega (arith, h.at_most, size) in
        let first : take count left ≡ take count g.taken = ap (take count) g.parts ∙ take-append-le count g.taken (g.passed ++ []) most in
        let same : all_records (take count gs) ≡ take count left = alone ∙ sym first in
        let counted : length (take count g.taken) ≡ count = length-take-le count g.taken most in
        record {
          records = all_records (take count gs);
          some = λ none. let zero : length (take count g.taken) ≡ 0 = ap length (sym alone ∙ none) in absurd (omega (arith, zero, counted, some));
          parts =
              sym is ∙ sym (take-append-drop count left) ∙ ap (λ (x : List Record). x ++ drop count left) (sym same)
              ∙ ap (λ (x : List Record). all_records (take count gs) ++ x) (sym behind);
          message = h.message;
        }

    pub not_written : (place : Place) (octets : List ℕ) (fault : TransferFault) → left ≡ left_of t place → WritesMessage t gs octets (Err fault) → Goes t place octets (Err fault)
    not_written place octets faults.Unsendable is h = subst (HasUnsendable t) is (unwritable_left h)
    not_written place octets faults.Memory is h = tt

-- a fault is handed on
pub raised : (t : Transfer) (place : Place) (octets : List ℕ) (r : Result (Option Place) TransferFault) (e : TransferFault) → IsErrAnd r (λ k. k ≡ e) → Goes t place octets (Err e) → Goes t place octets r
raised t place octets (Ok a) e h p = absurd h
raised t place octets (Err k) e h p = subst (λ (x : TransferFault). Goes t place octets (Err x)) (sym h) p
