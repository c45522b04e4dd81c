-- Messages of a transfer one behind the other, and sets in pieces
use Rattle.std.proofs.Common.{◌≡◌, inl, inr, ℕ, zero, suc, ◌≤◌, List, [], ◌∷◌, ◌++◌, length, map, take, drop, refl, sym, ap, subst, ◌∙◌, append_assoc, append-nil, arith}
use Rattle.std.specs.Prelude.{◌≢◌, Option}
use Rattle.std.proofs.lemmas.List.{take-append-drop}
use Rattle.std.proofs.lemmas.List.Concat.{flat_map-append}
use Rattle.zone_proto.specs.declared.record.Record.{Record}
use Rattle.message_reading.specs.declared.query.Query.{Query as ReadQuery}
use Rattle.message_writing.specs.declared.response.Group.{Group}
use Rattle.message_writing.specs.Outcomes.{HasUnwritable}
use Rattle.message_writing.specs.Responses.{all_records, records_of}
use Rattle.zone_server.specs.Frames.{framed}
use Rattle.zone_server.specs.Serving.{Moves}
use Rattle.zone_server.specs.Stopping.{MovesFront}
use Rattle.zone_server.specs.Transfers.{joined, one_by_one, AreMessages, ArePiecesOf, AreTooLong, HasTooLong, HasUnsendable, IsCutInto, IsTransferMessage}
use Rattle.zone_server.specs.TransferSteps.{HasBrokenOff, HasSent, HasSentSets, HasStopped}
use Rattle.zone_server.proofs.ServedFrames.{moved_on, nothing_moved}
use Rattle.zone_server.proofs.WrittenFronts.{front_after, none_front}

-- ---- lists of lists

pub joined-append : {A : Type 0} (xss yss : List (List A)) → joined (xss ++ yss) ≡ joined xss ++ joined yss
joined-append xss yss = flat_map-append (λ xs. xs) xss yss

pub joined_one_by_one : (rs : List Record) → joined (one_by_one rs) ≡ rs
joined_one_by_one [] = refl
joined_one_by_one (r ∷ rs) = ap (λ xs. r ∷ xs) (joined_one_by_one rs)

-- the records of groups
pub joined_groups : (gs : List Group) → joined (map records_of gs) ≡ all_records gs
joined_groups [] = refl
joined_groups (g ∷ gs) = ap (λ xs. records_of g ++ xs) (joined_groups gs)

-- the records of the first of some groups, so many, and of the others
pub groups_parted : (count : ℕ) (gs : List Group) → all_records gs ≡ joined (map records_of (take count gs)) ++ all_records (drop count gs)
groups_parted count gs =
    ap all_records (sym (take-append-drop count gs)) ∙ flat_map-append records_of (take count gs) (drop count gs)
    ∙ ap (λ xs. xs ++ all_records (drop count gs)) (sym (joined_groups (take count gs)))

-- the first of some groups, so many but none, are some
pub some_first : (count : ℕ) (gs : List Group) → (count ≡ 0 → ⊥) → count ≤ length gs → map records_of (take count gs) ≢ []
some_first zero gs some few e = some refl
some_first (suc n) [] some few e = absurd (omega (arith, few))
some_first (suc n) (g ∷ gs) some few e = cc

-- ---- what can't be sent

unwritable_within : (xs rs ys : List Record) → HasUnwritable rs → HasUnwritable (xs ++ (rs ++ ys))
unwritable_within xs rs ys h = record {
  front = xs ++ h.front;
  unwritable = h.unwritable;
  rest = h.rest ++ ys;
  stands =
      ap (λ s. xs ++ (s ++ ys)) h.stands ∙ ap (λ s. xs ++ s) (append_assoc h.front (h.unwritable ∷ h.rest) ys)
      ∙ sym (append_assoc xs h.front (h.unwritable ∷ (h.rest ++ ys)));
  is = h.is;
}

module _ (q : ReadQuery) where
  too_long_then : (rs ys : List Record) → HasTooLong q rs → HasTooLong q (rs ++ ys)
  too_long_then rs ys h = record {
    front = h.front;
    long = h.long;
    rest = h.rest ++ ys;
    stands = ap (λ s. s ++ ys) h.stands ∙ append_assoc h.front (h.long ∷ h.rest) ys;
    is = h.is;
  }

  pub unsendable_then : (rs ys : List Record) → HasUnsendable q rs → HasUnsendable q (rs ++ ys)
  unsendable_then rs ys (inl h) = inl (unwritable_within [] rs ys h)
  unsendable_then rs ys (inr h) = inr (too_long_then rs ys h)

  -- ---- messages

  messages_join : (ms ns : List (List (List Record))) (text more : List ℕ) → AreMessages q ms text → AreMessages q ns more → AreMessages q (ms ++ ns) (text ++ more)
  messages_join [] ns text more e h = subst (λ (t : List ℕ). AreMessages q ns (t ++ more)) (sym e) h
  messages_join (m ∷ ms) ns text more (octets, others, some, message, e, h) g =
      (octets, others ++ more, some, message, ap (λ t. t ++ more) e ∙ append_assoc (framed octets) others more, messages_join ms ns others more h g)

  -- ---- what was sent

  pub none_sent : (waiting : List ℕ) (h : Option (List ℕ)) → HasSent q [] waiting waiting h h
  none_sent waiting h = record {
    text = [];
    messages = [];
    parted = refl;
    written = refl;
    moved = subst (λ (w : List ℕ). Moves w h h waiting) (sym (append-nil waiting)) (nothing_moved waiting h);
  }

  -- a message was put behind what waited
  pub one_sent : (pieces : List (List Record)) (octets waited waiting : List ℕ) (h k : Option (List ℕ)) → pieces ≢ []
      → IsTransferMessage q (joined pieces) octets → Moves (waited ++ framed octets) h k waiting → HasSent q pieces waited waiting h k
  one_sent pieces octets waited waiting h k some message moved = record {
    text = framed octets;
    messages = pieces ∷ [];
    parted = append-nil pieces;
    written = (octets, [], some, message, sym (append-nil (framed octets)), refl);
    moved = moved;
  }

  pub sent_more : (ps rs : List (List Record)) (a b c : List ℕ) (u v w : Option (List ℕ)) → HasSent q ps a b u v → HasSent q rs b c v w → HasSent q (ps ++ rs) a c u w
  sent_more ps rs a b c u v w first second = record {
    text = first.text ++ second.text;
    messages = first.messages ++ second.messages;
    parted = joined-append first.messages second.messages ∙ (λ i. first.parted i ++ second.parted i);
    written = messages_join first.messages second.messages first.text second.text first.written second.written;
    moved = subst (λ (t : List ℕ). Moves t u w c) (append_assoc a first.text second.text) (moved_on (a ++ first.text) b second.text c u v w first.moved second.moved);
  }

  -- ---- sets

  -- sets that are a piece each
  pub whole_pieces : (sets : List (List Record)) → ArePiecesOf q sets sets
  whole_pieces [] = refl
  whole_pieces (set ∷ sets) = (set ∷ [], sets, refl, inl refl, whole_pieces sets)

  pieces_join : (ss ts ps rs : List (List Record)) → ArePiecesOf q ss ps → ArePiecesOf q ts rs → ArePiecesOf q (ss ++ ts) (ps ++ rs)
  pieces_join [] ts ps rs e h = subst (λ (x : List (List Record)). ArePiecesOf q ts (x ++ rs)) (sym e) h
  pieces_join (s ∷ ss) ts ps rs (first, others, e, cut, h) g =
      (first, others ++ rs, ap (λ x. x ++ rs) e ∙ append_assoc first others rs, cut, pieces_join ss ts others rs h g)

  cut_joined : (set : List Record) (pieces : List (List Record)) → IsCutInto q set pieces → joined pieces ≡ set
  cut_joined set pieces (inl e) = ap joined e ∙ append-nil set
  cut_joined set pieces (inr (long, e)) = ap joined e ∙ joined_one_by_one set

  -- the pieces have the records of the sets
  pieces_joined : (sets pieces : List (List Record)) → ArePiecesOf q sets pieces → joined pieces ≡ joined sets
  pieces_joined [] pieces e = ap joined e
  pieces_joined (set ∷ sets) pieces (first, others, e, cut, h) =
      ap joined e ∙ joined-append first others ∙ (λ i. cut_joined set first cut i ++ pieces_joined sets others h i)

  pub sets_sent_whole : (sets : List (List Record)) (a b : List ℕ) (u v : Option (List ℕ)) → HasSent q sets a b u v → HasSentSets q sets a b u v
  sets_sent_whole sets a b u v h = record { pieces = sets; cut = whole_pieces sets; sent = h }

  pub set_sent_singly : (set : List Record) (a b : List ℕ) (u v : Option (List ℕ)) → AreTooLong q set → HasSent q (one_by_one set) a b u v → HasSentSets q (set ∷ []) a b u v
  set_sent_singly set a b u v long h = record {
    pieces = one_by_one set;
    cut = (one_by_one set, [], sym (append-nil (one_by_one set)), inr (long, refl), refl);
    sent = h;
  }

  pub no_sets_sent : (waiting : List ℕ) (h : Option (List ℕ)) → HasSentSets q [] waiting waiting h h
  no_sets_sent waiting h = sets_sent_whole [] waiting waiting h h (none_sent waiting h)

  pub sets_sent_more : (ss ts : List (List Record)) (a b c : List ℕ) (u v w : Option (List ℕ)) → HasSentSets q ss a b u v → HasSentSets q ts b c v w → HasSentSets q (ss ++ ts) a c u w
  sets_sent_more ss ts a b c u v w first second = record {
    pieces = first.pieces ++ second.pieces;
    cut = pieces_join ss ts first.pieces second.pieces first.cut second.cut;
    sent = sent_more first.pieces second.pieces a b c u v w first.sent second.sent;
  }

  -- ---- where it broke off

  pub broken_at_once : (rs : List Record) (waiting : List ℕ) (h : Option (List ℕ)) → HasUnsendable q rs → HasBrokenOff q rs waiting waiting h h
  broken_at_once rs waiting h failure = record { pieces = []; left = rs; parts = refl; unsendable = failure; sent = none_sent waiting h }

  -- more records behind those, which don't come to be sent
  pub broken_before : (rs more : List Record) (a b : List ℕ) (u v : Option (List ℕ)) → HasBrokenOff q rs a b u v → HasBrokenOff q (rs ++ more) a b u v
  broken_before rs more a b u v h = record {
    pieces = h.pieces;
    left = h.left ++ more;
    parts = ap (λ s. s ++ more) h.parts ∙ append_assoc (joined h.pieces) h.left more;
    unsendable = unsendable_then h.left more h.unsendable;
    sent = h.sent;
  }

  -- pieces were sent before
  pub broken_after : (ps : List (List Record)) (rs : List Record) (a b c : List ℕ) (u v w : Option (List ℕ)) → HasSent q ps a b u v → HasBrokenOff q rs b c v w
      → HasBrokenOff q (joined ps ++ rs) a c u w
  broken_after ps rs a b c u v w first h = record {
    pieces = ps ++ h.pieces;
    left = h.left;
    parts = ap (λ s. joined ps ++ s) h.parts ∙ sym (append_assoc (joined ps) (joined h.pieces) h.left)
        ∙ ap (λ s. s ++ h.left) (sym (joined-append ps h.pieces));
    unsendable = h.unsendable;
    sent = sent_more ps h.pieces a b c u v w first h.sent;
  }

  -- sets were
  pub broken_after_sets : (ss : List (List Record)) (rs : List Record) (a b c : List ℕ) (u v w : Option (List ℕ)) → HasSentSets q ss a b u v → HasBrokenOff q rs b c v w
      → HasBrokenOff q (joined ss ++ rs) a c u w
  broken_after_sets ss rs a b c u v w first h =
      subst (λ s. HasBrokenOff q (s ++ rs) a c u w) (pieces_joined ss first.pieces first.cut) (broken_after first.pieces rs a b c u v w first.sent h)

  -- ---- where it stopped

  pub stopped_at_once : (rs : List Record) (waiting : List ℕ) (h : Option (List ℕ)) → HasStopped q rs waiting h h
  stopped_at_once rs waiting h = record {
    pieces = [];
    left = rs;
    parts = refl;
    text = [];
    messages = [];
    parted = refl;
    written = refl;
    front = none_front (waiting ++ []) h;
  }

  -- a message couldn't be put behind what waited, or written
  pub message_stopped : (pieces : List (List Record)) (rs left : List Record) (octets waited : List ℕ) (h k : Option (List ℕ)) → pieces ≢ []
      → rs ≡ joined pieces ++ left → IsTransferMessage q (joined pieces) octets → MovesFront (waited ++ framed octets) h k → HasStopped q rs waited h k
  message_stopped pieces rs left octets waited h k some parts message front = record {
    pieces = pieces;
    left = left;
    parts = parts;
    text = framed octets;
    messages = pieces ∷ [];
    parted = append-nil pieces;
    written = (octets, [], some, message, sym (append-nil (framed octets)), refl);
    front = front;
  }

  -- more records behind those, which don't come to be sent
  pub stopped_before : (rs more : List Record) (a : List ℕ) (u v : Option (List ℕ)) → HasStopped q rs a u v → HasStopped q (rs ++ more) a u v
  stopped_before rs more a u v h = record {
    pieces = h.pieces;
    left = h.left ++ more;
    parts = ap (λ s. s ++ more) h.parts ∙ append_assoc (joined h.pieces) h.left more;
    text = h.text;
    messages = h.messages;
    parted = h.parted;
    written = h.written;
    front = h.front;
  }

  -- pieces were sent before
  pub stopped_after : (ps : List (List Record)) (rs : List Record) (a b : List ℕ) (u v w : Option (List ℕ)) → HasSent q ps a b u v → HasStopped q rs b v w
      → HasStopped q (joined ps ++ rs) a u w
  stopped_after ps rs a b u v w first h = record {
    pieces = ps ++ h.pieces;
    left = h.left;
    parts = ap (λ s. joined ps ++ s) h.parts ∙ sym (append_assoc (joined ps) (joined h.pieces) h.left)
        ∙ ap (λ s. s ++ h.left) (sym (joined-append ps h.pieces));
    text = first.text ++ h.text;
    messages = first.messages ++ h.messages;
    parted = joined-append first.messages h.messages ∙ (λ i. first.parted i ++ h.parted i);
    written = messages_join first.messages h.messages first.text h.text first.written h.written;
    front = subst (λ (t : List ℕ). MovesFront t u w) (append_assoc a first.text h.text) (front_after (a ++ first.text) b h.text u v w first.moved h.front);
  }

  -- sets were
  pub stopped_after_sets : (ss : List (List Record)) (rs : List Record) (a b : List ℕ) (u v w : Option (List ℕ)) → HasSentSets q ss a b u v → HasStopped q rs b v w
      → HasStopped q (joined ss ++ rs) a u w
  stopped_after_sets ss rs a b u v w first h =
      subst (λ s. HasStopped q (s ++ rs) a u w) (pieces_joined ss first.pieces first.cut) (stopped_after first.pieces rs a b u v w first.sent h)
