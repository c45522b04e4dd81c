-- A transfer message by message: what is left of it, and where it ends
use Rattle.std.proofs.Common.{◌≡◌, ◌⊎◌, inl, inr, ℕ, zero, suc, ◌<◌, Bool, false, List, [], ◌∷◌, ◌++◌, length, map, take, drop, refl, sym, ap, subst, ◌∙◌, append_assoc, append-nil, arith, true≢false}
use Rattle.std.specs.Prelude.{◌≢◌, ◌==◌, IfErr, OnErr, OnOk, Option, Some, Result, Ok, Err}
use Rattle.std.proofs.lemmas.List.{map-append, take-append-drop}
use Rattle.zone_proto.specs.declared.record.Record.{Record}
use Rattle.message_reading.specs.declared.query.Query.{Query as ReadQuery}
use Rattle.message_writing.specs.declared.error.WriteError.{WriteError}
use Rattle.message_writing.specs.declared.error.WriteError.TheVariants.{Unwritable, NoRoom, BadCode, Memory}
use Rattle.message_writing.specs.declared.response.Group.{Group}
use Rattle.message_writing.specs.declared.response.Response.{Response}
use Rattle.message_writing.specs.Fronts.{FirstHasNoRoom, WritesFront}
use Rattle.message_writing.specs.Outcomes.{HasUnwritable, records_in}
use Rattle.message_writing.specs.Responses.{all_records, parts_for, records_of}
use Rattle.zone_server.specs.declared.transfer_writer.Halt.{Halt}
use Rattle.zone_server.specs.declared.waiting.Stop.{Stop}
use Rattle.zone_server.specs.declared.transfer_writer.Halt.TheVariants as halt
use Rattle.zone_proto.specs.declared.response_code.ResponseCode.TheVariants as code
use Rattle.zone_response.specs.Responses.{bare}
use Rattle.zone_response.specs.Sections.{Sections}
use Rattle.zone_server.specs.Answers.{GoesOut, IsSent}
use Rattle.zone_server.specs.Frames.{framed}
use Rattle.zone_server.specs.Serving.{Moves, Puts}
use Rattle.zone_server.specs.Stopping.{BeginsSets, MovesFront, Stops}
use Rattle.zone_server.specs.Transfers.{joined, one_by_one, transfer_parts, AreBrokenOff, AreMessages, AreSentWhole, AreTooLong, HasTooLong, IsOneMessage}
use Rattle.zone_server.specs.TransferSteps.{Halts, HasBrokenOff, HasSent, HasSentFirst, HasSentPieces, HasSentSets, HasStopped, WritesMessage}
use Rattle.zone_server.proofs.ServedFrames.{moved_on}
use Rattle.zone_server.proofs.WrittenFronts.{front_after, moved_front, on_err_from, text_stops}
use Rattle.zone_server.proofs.TransferFacts.{broken_after, broken_after_sets, broken_before, joined-append, joined_one_by_one, none_sent, no_sets_sent, sent_more, set_sent_singly, sets_sent_more, sets_sent_whole, stopped_after, stopped_after_sets, stopped_before}

-- ---- a message

-- what a call that writes a message says, of a response whose answers are these groups, and that has no other records
pub writes : (q : ReadQuery) (r : Response) (gs : List Group) (octets : List ℕ) (result : Result ℕ WriteError) → WritesFront 65535 r octets result
    → IfErr result (λ e. e ≢ NoRoom) → r.query.now ≡ q → r.answers.now ≡ gs → records_in r ≡ all_records gs → r.code ≡ 0
    → ((rs : List Record) → parts_for r false rs [] [] ≡ transfer_parts q rs) → WritesMessage q gs octets result
writes q r gs octets (Ok count) (code, h) room e f same is_zero is = record {
  at_most = omega (arith, h.at_most, ap length f);
  message = record {
    reads = h.reads ∙ ap Some (is (all_records (take count r.answers.now))) ∙ (λ i. Some (transfer_parts q (all_records (take count (f i)))));
    within = h.within;
  };
  next = subst (λ (x : ReadQuery). FirstHasNoRoom 65535 x (all_records (take count gs)) (drop count gs)) e
      (subst (λ (xs : List Group). FirstHasNoRoom 65535 r.query.now (all_records (take count xs)) (drop count xs)) f h.next);
}
writes q r gs octets (Err Unwritable) h room e f same is_zero is = subst HasUnwritable same h.1
writes q r gs octets (Err NoRoom) h room e f same is_zero is = room refl
writes q r gs octets (Err BadCode) h room e f same is_zero is = let over : 4095 < r.code = h.1 in absurd (omega (arith, over, is_zero))
writes q r gs octets (Err Memory) h room e f same is_zero is = tt

-- where none of some sets is sent only if there are none, some are
pub some_sent : (count : ℕ) (gs : List Group) → (count ≡ 0 → gs ≡ []) → 0 < length gs → 0 < count
some_sent count gs h some = by count refl
  where
    by : (n : ℕ) → count ≡ n → 0 < count
    by zero e = let none : gs ≡ [] = h e in absurd (omega (arith, ap length none, some))
    by (suc n) e = omega (arith, e)

-- a test of emptiness that failed
pub some_left : (gs : List Group) (b : Bool) → b ≡ (length gs == 0) → b ≡ false → 0 < length gs
some_left [] b e f = absurd (true≢false (sym e ∙ f))
some_left (g ∷ gs) b e f = omega arith

none_left : (gs : List Group) → length gs ≡ 0 → gs ≡ []
none_left [] e = refl
none_left (g ∷ gs) e = absurd (omega (arith, e))

pub nothing_left : (gs : List Group) → length gs ≡ 0 → map records_of gs ≡ []
nothing_left gs e = ap (map records_of) (none_left gs e)

module _ (q : ReadQuery) where
  -- ---- where it ends

  pub halts_of : (rs ss : List Record) (a b : List ℕ) (u v : Option (List ℕ)) (e : Halt) → rs ≡ ss → Halts q rs a b u v e → Halts q ss a b u v e
  halts_of rs ss a b u v e same h = subst (λ (x : List Record). Halts q x a b u v e) same h

  pub halts_before : (rs more : List Record) (a b : List ℕ) (u v : Option (List ℕ)) (e : Halt) → Halts q rs a b u v e → Halts q (rs ++ more) a b u v e
  halts_before rs more a b u v halt.Unsendable h = broken_before q rs more a b u v h
  halts_before rs more a b u v (halt.Stop stop) h = stopped_before q rs more a u v h

  pub halts_after : (ps : List (List Record)) (rs : List Record) (a b c : List ℕ) (u v w : Option (List ℕ)) (e : Halt) → HasSent q ps a b u v → Halts q rs b c v w e
      → Halts q (joined ps ++ rs) a c u w e
  halts_after ps rs a b c u v w halt.Unsendable first h = broken_after q ps rs a b c u v w first h
  halts_after ps rs a b c u v w (halt.Stop stop) first h = stopped_after q ps rs a b u v w first h

  halts_after_sets : (ss : List (List Record)) (rs : List Record) (a b c : List ℕ) (u v w : Option (List ℕ)) (e : Halt) → HasSentSets q ss a b u v → Halts q rs b c v w e
      → Halts q (joined ss ++ rs) a c u w e
  halts_after_sets ss rs a b c u v w halt.Unsendable first h = broken_after_sets q ss rs a b c u v w first h
  halts_after_sets ss rs a b c u v w (halt.Stop stop) first h = stopped_after_sets q ss rs a b u v w first h

  -- ---- pieces that are left

  pub no_pieces_yet : (pieces : List (List Record)) (waiting : List ℕ) (h : Option (List ℕ)) → HasSentPieces q pieces pieces waiting waiting h h
  no_pieces_yet pieces waiting h = record { first = []; parts = refl; sent = none_sent q waiting h }

  pub pieces_more : (pieces : List (List Record)) (gs left : List Group) (count : ℕ) (a b c : List ℕ) (u v w : Option (List ℕ)) → HasSentPieces q pieces (map records_of gs) a b u v
      → HasSent q (map records_of (take count gs)) b c v w → left ≡ drop count gs → HasSentPieces q pieces (map records_of left) a c u w
  pieces_more pieces gs left count a b c u v w h more e =
      let f : Group → List Record = records_of in
      let split : map f gs ≡ map f (take count gs) ++ map f left =
      ap (map f) (sym (take-append-drop count gs)) ∙ map-append f (take count gs) (drop count gs) ∙ ap (λ xs. map f (take count gs) ++ map f xs) (sym e) in
      record {
        first = h.first ++ map f (take count gs);
        parts = h.parts ∙ ap (λ xs. h.first ++ xs) split ∙ sym (append_assoc h.first (map f (take count gs)) (map f left));
        sent = sent_more q h.first (map f (take count gs)) a b c u v w h.sent more;
      }

  pub all_pieces : (pieces left : List (List Record)) (a b : List ℕ) (u v : Option (List ℕ)) → HasSentPieces q pieces left a b u v → left ≡ [] → HasSent q pieces a b u v
  all_pieces pieces left a b u v h none =
      subst (λ (x : List (List Record)). HasSent q x a b u v) (sym (h.parts ∙ ap (λ xs. h.first ++ xs) none ∙ append-nil h.first)) h.sent

  -- one of the pieces that are left halts
  pub pieces_halt : (pieces left : List (List Record)) (a b c : List ℕ) (u v w : Option (List ℕ)) (e : Halt) → HasSentPieces q pieces left a b u v → Halts q (joined left) b c v w e
      → Halts q (joined pieces) a c u w e
  pieces_halt pieces left a b c u v w e h failure =
      halts_of (joined h.first ++ joined left) (joined pieces) a c u w e (sym (ap joined h.parts ∙ joined-append h.first left))
      (halts_after h.first (joined left) a b c u v w e h.sent failure)

  -- ---- sets that are left

  pub no_sets_yet : (sets left : List (List Record)) (waiting : List ℕ) (h : Option (List ℕ)) → left ≡ sets → HasSentFirst q sets left waiting waiting h h
  no_sets_yet sets left waiting h e = record { first = []; parts = sym e; sent = no_sets_sent q waiting h }

  pub sets_more : (sets : List (List Record)) (gs left : List Group) (count : ℕ) (a b c : List ℕ) (u v w : Option (List ℕ)) → HasSentFirst q sets (map records_of gs) a b u v
      → HasSentSets q (map records_of (take count gs)) b c v w → left ≡ drop count gs → HasSentFirst q sets (map records_of left) a c u w
  sets_more sets gs left count a b c u v w h more e =
      let f : Group → List Record = records_of in
      let split : map f gs ≡ map f (take count gs) ++ map f left =
      ap (map f) (sym (take-append-drop count gs)) ∙ map-append f (take count gs) (drop count gs) ∙ ap (λ xs. map f (take count gs) ++ map f xs) (sym e) in
      record {
        first = h.first ++ map f (take count gs);
        parts = h.parts ∙ ap (λ xs. h.first ++ xs) split ∙ sym (append_assoc h.first (map f (take count gs)) (map f left));
        sent = sets_sent_more q h.first (map f (take count gs)) a b c u v w h.sent more;
      }

  pub all_sets : (sets left : List (List Record)) (a b : List ℕ) (u v : Option (List ℕ)) → HasSentFirst q sets left a b u v → left ≡ [] → HasSentSets q sets a b u v
  all_sets sets left a b u v h none =
      subst (λ (x : List (List Record)). HasSentSets q x a b u v) (sym (h.parts ∙ ap (λ xs. h.first ++ xs) none ∙ append-nil h.first)) h.sent

  pub sets_halt : (sets left : List (List Record)) (a b c : List ℕ) (u v w : Option (List ℕ)) (e : Halt) → HasSentFirst q sets left a b u v → Halts q (joined left) b c v w e
      → Halts q (joined sets) a c u w e
  sets_halt sets left a b c u v w e h failure =
      halts_of (joined h.first ++ joined left) (joined sets) a c u w e (sym (ap joined h.parts ∙ joined-append h.first left))
      (halts_after_sets h.first (joined left) a b c u v w e h.sent failure)

  -- more sets are put behind those that are left
  pub sets_behind : (sets left more : List (List Record)) (a b : List ℕ) (u v : Option (List ℕ)) → HasSentFirst q sets left a b u v → HasSentFirst q (sets ++ more) (left ++ more) a b u v
  sets_behind sets left more a b u v h = record {
    first = h.first;
    parts = ap (λ xs. xs ++ more) h.parts ∙ append_assoc h.first left more;
    sent = h.sent;
  }

  -- one sending after the other
  pub sets_then : (sets left end : List (List Record)) (a b c : List ℕ) (u v w : Option (List ℕ)) → HasSentFirst q sets left a b u v → HasSentFirst q left end b c v w
      → HasSentFirst q sets end a c u w
  sets_then sets left end a b c u v w first second = record {
    first = first.first ++ second.first;
    parts = first.parts ∙ ap (λ xs. first.first ++ xs) second.parts ∙ sym (append_assoc first.first second.first end);
    sent = sets_sent_more q first.first second.first a b c u v w first.sent second.sent;
  }

  -- ---- the first of some sets, where no message has room for it

  pub first_alone : (gs rest : List Group) (g : Group) (a b c : List ℕ) (u v w : Option (List ℕ)) (count : ℕ) → gs ≡ g ∷ rest → count ≡ 0 → FirstHasNoRoom 65535 q [] gs
      → HasSent q (map records_of (take count gs)) a b u v → HasSent q (one_by_one (records_of g)) b c v w → HasSentSets q (map records_of (take 1 gs)) a c u w
  first_alone gs rest g a b c u v w count e is_zero long none h =
      let before : HasSent q [] a b u v = subst (λ (n : ℕ). HasSent q (map records_of (take n gs)) a b u v) is_zero none in
      let alone : HasSentSets q (records_of g ∷ []) a c u w =
      set_sent_singly q (records_of g) a c u w (subst (λ (xs : List Group). FirstHasNoRoom 65535 q [] xs) e long)
      (sent_more q [] (one_by_one (records_of g)) a b c u v w before h) in
      subst (λ (xs : List Group). HasSentSets q (map records_of (take 1 xs)) a c u w) (sym e) alone

  pub none_first : (gs : List Group) (a b : List ℕ) (u v : Option (List ℕ)) (count : ℕ) → count ≡ 0 → HasSent q (map records_of (take count gs)) a b u v → HasSentSets q [] a b u v
  none_first gs a b u v count is_zero h =
      sets_sent_whole q [] a b u v (subst (λ (n : ℕ). HasSent q (map records_of (take n gs)) a b u v) is_zero h)

  pub first_halts : (gs rest : List Group) (g : Group) (a b c : List ℕ) (u v w : Option (List ℕ)) (count : ℕ) (e : Halt) → gs ≡ g ∷ rest → count ≡ 0
      → HasSent q (map records_of (take count gs)) a b u v → Halts q (records_of g) b c v w e → Halts q (joined (map records_of gs)) a c u w e
  first_halts gs rest g a b c u v w count e is is_zero none h =
      let before : HasSent q [] a b u v = subst (λ (n : ℕ). HasSent q (map records_of (take n gs)) a b u v) is_zero none in
      subst (λ (xs : List Group). Halts q (joined (map records_of xs)) a c u w e) (sym is)
      (halts_before (records_of g) (joined (map records_of rest)) a c u w e (halts_after [] (records_of g) a b c u v w e before h))

  -- each of the records that go one by one is alone
  is_alone : (rs : List Record) (first : List (List Record)) (x : List Record) (others : List (List Record)) → one_by_one rs ≡ first ++ x ∷ others → (r : Record) × (x ≡ r ∷ [])
  is_alone [] [] x others e = absurd cc
  is_alone (r ∷ rs) [] x others e = (r, cc)
  is_alone [] (y ∷ first) x others e = absurd cc
  is_alone (r ∷ rs) (y ∷ first) x others e = is_alone rs first x others cc

  first_is_long : (gs : List Group) (rs : List Record) (first : List (List Record)) → one_by_one rs ≡ first ++ map records_of gs → 0 < length gs → FirstHasNoRoom 65535 q [] gs
      → HasTooLong q (joined (map records_of gs))
  first_is_long [] rs first e some long = absurd (omega arith)
  first_is_long (g ∷ gs) rs first e some long =
      let alone = is_alone rs first (records_of g) (map records_of gs) e in
      record {
        front = [];
        long = alone.0;
        rest = joined (map records_of gs);
        stands = ap (λ xs. xs ++ joined (map records_of gs)) alone.1;
        is = subst (AreTooLong q) alone.1 long;
      }

  -- a record by itself has no room
  pub single_halts : (pieces : List (List Record)) (rs : List Record) (gs : List Group) (a b c : List ℕ) (u v w : Option (List ℕ)) (count : ℕ) → pieces ≡ one_by_one rs
      → HasSentPieces q pieces (map records_of gs) a b u v → 0 < length gs → count ≡ 0 → FirstHasNoRoom 65535 q [] gs
      → HasSent q (map records_of (take count gs)) b c v w → HasBrokenOff q rs a c u w
  single_halts pieces rs gs a b c u v w count is h some is_zero long none =
      let after : HasSent q [] b c v w = subst (λ (n : ℕ). HasSent q (map records_of (take n gs)) b c v w) is_zero none in
      let left : List (List Record) = map records_of gs in
      let parts : one_by_one rs ≡ h.first ++ left = sym is ∙ h.parts in
      let sent : HasSent q h.first a c u w =
      subst (λ (x : List (List Record)). HasSent q x a c u w) (append-nil h.first) (sent_more q h.first [] a b c u v w h.sent after) in
      record {
        pieces = h.first;
        left = joined left;
        parts = sym (joined_one_by_one rs) ∙ ap joined parts ∙ joined-append h.first left;
        unsendable = inr (first_is_long gs rs h.first parts some long);
        sent = sent;
      }

  -- ---- a set put behind those that wait, of all that is sent

  pub set_added : (all w x more v : List (List Record)) (set : List Record) (a b c : List ℕ) (u k l : Option (List ℕ)) → x ≡ w ++ set ∷ more → HasSentFirst q all x a b u k
      → HasSentFirst q (w ++ set ∷ []) v b c k l → HasSentFirst q all (v ++ more) a c u l
  set_added all w x more v set a b c u k l e h added =
      sets_then all (w ++ set ∷ more) (v ++ more) a b c u k l
      (subst (λ (y : List (List Record)). HasSentFirst q all y a b u k) e h)
      (subst (λ (y : List (List Record)). HasSentFirst q y (v ++ more) b c k l) (append_assoc w (set ∷ []) more) (sets_behind (w ++ set ∷ []) v more b c k l added))

  pub set_halts : (all w x more : List (List Record)) (set : List Record) (a b c : List ℕ) (u k l : Option (List ℕ)) (e : Halt) → x ≡ w ++ set ∷ more → HasSentFirst q all x a b u k
      → Halts q (joined (w ++ set ∷ [])) b c k l e → Halts q (joined all) a c u l e
  set_halts all w x more set a b c u k l e same h failure =
      let whole : joined (w ++ set ∷ []) ++ joined more ≡ joined x =
      sym (joined-append (w ++ set ∷ []) more) ∙ ap joined (append_assoc w (set ∷ []) more ∙ sym same) in
      sets_halt all x a b c u k l e h
      (halts_of (joined (w ++ set ∷ []) ++ joined more) (joined x) b c k l e whole (halts_before (joined (w ++ set ∷ [])) (joined more) b c k l e failure))

  -- and then all that wait
  pub sets_then_all : (sets left : List (List Record)) (a b c : List ℕ) (u v w : Option (List ℕ)) → HasSentFirst q sets left a b u v → HasSentSets q left b c v w
      → HasSentSets q sets a c u w
  sets_then_all sets left a b c u v w h more =
      subst (λ (x : List (List Record)). HasSentSets q x a c u w) (sym h.parts) (sets_sent_more q h.first left a b c u v w h.sent more)

  -- those that are left are sent, as the call tells that sends them
  pub sets_end : (r : Result (Unit {0}) Halt) (sets : List (List Record)) (waiting gs : List Group) (a b c : List ℕ) (u v w : Option (List ℕ)) → gs ≡ waiting
      → HasSentFirst q sets (map records_of waiting ++ []) a b u v → OnOk r (HasSentSets q (map records_of gs) b c v w) → OnOk r (HasSentSets q sets a c u w)
  sets_end (Ok done) sets waiting gs a b c u v w same h more =
      sets_then_all sets (map records_of waiting ++ []) a b c u v w h
      (subst (λ (x : List (List Record)). HasSentSets q x b c v w) (ap (map records_of) same ∙ sym (append-nil (map records_of waiting))) more)
  sets_end (Err e) sets waiting gs a b c u v w same h more = tt

  pub sets_end_halt : (r : Result (Unit {0}) Halt) (sets : List (List Record)) (waiting gs : List Group) (a b c : List ℕ) (u v w : Option (List ℕ)) → gs ≡ waiting
      → HasSentFirst q sets (map records_of waiting ++ []) a b u v → IfErr r (Halts q (joined (map records_of gs)) b c v w)
      → IfErr r (Halts q (joined sets) a c u w)
  sets_end_halt (Ok done) sets waiting gs a b c u v w same h failure = tt
  sets_end_halt (Err e) sets waiting gs a b c u v w same h failure =
      let left : List (List Record) = map records_of waiting ++ [] in
      sets_halt sets left a b c u v w e h
      (halts_of (joined (map records_of gs)) (joined left) b c v w e
      (ap joined (ap (map records_of) same ∙ sym (append-nil (map records_of waiting)))) failure)

  -- ---- the whole

  pub zone_sent : (sets : List (List Record)) (a b : List ℕ) (u v : Option (List ℕ)) → HasSentSets q sets a b u v
      → Puts (λ text. AreSentWhole q sets text ⊎ AreBrokenOff q sets text) a b u v
  zone_sent sets a b u v h = record {
    text = h.sent.text;
    is = inl (record { pieces = h.pieces; cut = h.cut; messages = h.sent.messages; parted = h.sent.parted; written = h.sent.written });
    moved = h.sent.moved;
  }

  -- and then a message of ServFail
  broken_text : (sets : List (List Record)) (last a b : List ℕ) (u v : Option (List ℕ)) → (h : HasBrokenOff q (joined sets) a b u v)
      → IsSent 65535 q (bare code.ServFail) last → AreBrokenOff q sets (h.sent.text ++ framed last)
  broken_text sets last a b u v h failed = record {
    sent = joined h.pieces;
    left = h.left;
    parts = h.parts;
    unsendable = h.unsendable;
    messages = h.sent.messages;
    parted = ap joined h.sent.parted;
    written_text = h.sent.text;
    written = h.sent.written;
    last = last;
    failed = failed;
    text_is = refl;
  }

  pub zone_broken_off : (sets : List (List Record)) (last a b c : List ℕ) (u v w : Option (List ℕ)) → HasBrokenOff q (joined sets) a b u v
      → IsSent 65535 q (bare code.ServFail) last → Moves (b ++ framed last) v w c → Puts (λ text. AreSentWhole q sets text ⊎ AreBrokenOff q sets text) a c u w
  zone_broken_off sets last a b c u v w h failed moved = record {
    text = h.sent.text ++ framed last;
    is = inr (broken_text sets last a b u v h failed);
    moved = subst (λ (t : List ℕ). Moves t u w c) (append_assoc a h.sent.text (framed last)) (moved_on (a ++ h.sent.text) b (framed last) c u v w h.sent.moved moved);
  }

  pub zone_broken_put : (r : Result (Unit {0}) Stop) (sets : List (List Record)) (last a b c : List ℕ) (u v w : Option (List ℕ)) → HasBrokenOff q (joined sets) a b u v
      → IsSent 65535 q (bare code.ServFail) last → OnOk r (Moves (b ++ framed last) v w c)
      → OnOk r (Puts (λ text. AreSentWhole q sets text ⊎ AreBrokenOff q sets text) a c u w)
  zone_broken_put (Ok done) sets last a b c u v w h failed moved = zone_broken_off sets last a b c u v w h failed moved
  zone_broken_put (Err stop) sets last a b c u v w h failed moved = tt

  -- one message, as the call tells that puts it there
  pub message_put : (r : Result (Unit {0}) Stop) (limit : ℕ) (s : Sections) (octets a b : List ℕ) (u v : Option (List ℕ)) → GoesOut limit q s octets
      → OnOk r (Moves (a ++ framed octets) u v b) → OnOk r (Puts (IsOneMessage limit q s) a b u v)
  message_put (Ok done) limit s octets a b u v out moved =
      record { text = framed octets; is = record { octets = octets; goes_out = out; text_is = refl }; moved = moved }
  message_put (Err stop) limit s octets a b u v out moved = tt

  -- ---- the whole, where it stops

  -- the first messages of sets
  first_messages : (sets pieces : List (List Record)) (left : List Record) (messages : List (List (List Record))) (text : List ℕ) → joined sets ≡ joined pieces ++ left
      → joined messages ≡ pieces → AreMessages q messages text → BeginsSets q sets text
  first_messages sets pieces left messages text parts parted written =
      inl (record { sent = joined pieces; left = left; parts = parts; messages = messages; parted = ap joined parted; written = written })

  pub zone_stops : (sets : List (List Record)) (a : List ℕ) (u v : Option (List ℕ)) → HasStopped q (joined sets) a u v → Stops (BeginsSets q sets) a u v
  zone_stops sets a u v h =
      text_stops (BeginsSets q sets) h.text a u v (first_messages sets h.pieces h.left h.messages h.text h.parts h.parted h.written) h.front

  -- before the message of ServFail
  pub zone_broken_stops : (sets : List (List Record)) (a b : List ℕ) (u v : Option (List ℕ)) → HasBrokenOff q (joined sets) a b u v → Stops (BeginsSets q sets) a u v
  zone_broken_stops sets a b u v h =
      text_stops (BeginsSets q sets) h.sent.text a u v (first_messages sets h.pieces h.left h.sent.messages h.sent.text h.parts h.sent.parted h.sent.written)
      (moved_front (a ++ h.sent.text) b u v h.sent.moved)

  -- at it
  pub zone_broken_unput : (r : Result (Unit {0}) Stop) (sets : List (List Record)) (last a b : List ℕ) (u v w : Option (List ℕ)) → HasBrokenOff q (joined sets) a b u v
      → IsSent 65535 q (bare code.ServFail) last → OnErr r (MovesFront (b ++ framed last) v w) → OnErr r (Stops (BeginsSets q sets) a u w)
  zone_broken_unput r sets last a b u v w h failed front =
      on_err_from r (MovesFront (b ++ framed last) v w) (Stops (BeginsSets q sets) a u w)
      (λ f. text_stops (BeginsSets q sets) (h.sent.text ++ framed last) a u w (inr (inr (broken_text sets last a b u v h failed)))
      (subst (λ (t : List ℕ). MovesFront t u w) (append_assoc a h.sent.text (framed last)) (front_after (a ++ h.sent.text) b (framed last) u v w h.sent.moved f))) front

  -- one message
  pub message_unput : (r : Result (Unit {0}) Stop) (limit : ℕ) (s : Sections) (octets a : List ℕ) (u v : Option (List ℕ)) → GoesOut limit q s octets
      → OnErr r (MovesFront (a ++ framed octets) u v) → OnErr r (Stops (IsOneMessage limit q s) a u v)
  message_unput r limit s octets a u v out front =
      on_err_from r (MovesFront (a ++ framed octets) u v) (Stops (IsOneMessage limit q s) a u v)
      (λ f. text_stops (IsOneMessage limit q s) (framed octets) a u v (record { octets = octets; goes_out = out; text_is = refl }) f) front
