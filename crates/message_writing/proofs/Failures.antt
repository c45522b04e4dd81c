-- Why one of some records was not written
use Rattle.std.proofs.Common.{◌≡◌, ℕ, ◌+◌, ◌<◌, List, [], ◌∷◌, ◌++◌, length, map, take, drop, sym, ap, subst, ◌∙◌, append_assoc}
use Rattle.std.proofs.lemmas.List.{append-nil, map-append, drop_more, take-append-drop}
use Rattle.std.proofs.lemmas.Grind.{flat_map-append}
use Rattle.std.specs.Prelude.{get_or}
use Rattle.zone_proto.specs.declared.record.Record.{Record}
use Rattle.message_writing.specs.declared.error.WriteError.{WriteError}
use Rattle.message_writing.specs.declared.error.WriteError.TheVariants as errors
use Rattle.message_writing.specs.declared.response.Group.{Group}
use Rattle.message_writing.specs.declared.response.Response.{Response}
use Rattle.message_writing.specs.Outcomes.{FailsToPut, FailsToPutAny, FailsToWrite, HasUnwritable, records_in}
use Rattle.message_writing.specs.Responses.{all_records, records_of, with_ttl}

unwritable_in : (xs rs ys : List Record) → HasUnwritable rs → HasUnwritable (xs ++ (rs ++ ys))
unwritable_in xs rs ys h = record {
  front = xs ++ h.front;
  unwritable = h.unwritable;
  rest = h.rest ++ ys;
  stands =
      ap (λ s. xs ++ (s ++ ys)) h.stands ∙ ap (λ s. xs ++ s) (append_assoc h.front (h.unwritable ∷ h.rest) ys)
      ∙ sym (append_assoc xs h.front (h.unwritable ∷ (h.rest ++ ys)));
  is = h.is;
}

pub fails_in : (xs rs ys : List Record) (e : WriteError) → FailsToPutAny rs e → FailsToPutAny (xs ++ (rs ++ ys)) e
fails_in xs rs ys errors.Unwritable h = unwritable_in xs rs ys h
fails_in xs rs ys errors.NoRoom h = h
fails_in xs rs ys errors.BadCode h = h
fails_in xs rs ys errors.Memory h = h

-- a record of a list, written with another TTL
pub one_fails : (ttl : ℕ) (rs : List Record) (i : ℕ) (r : Record) (e : WriteError) → i < length rs → r ≡ get_or rs i r → FailsToPut r.rdata e
    → FailsToPutAny (map (with_ttl ttl) rs) e
one_fails ttl rs i r errors.Unwritable inside is h =
    let f : Record → Record = with_ttl ttl in
    let split : rs ≡ take i rs ++ r ∷ drop (i + 1) rs =
    sym (take-append-drop i rs) ∙ ap (λ s. take i rs ++ s) (drop_more rs i r inside ∙ ap (λ x. x ∷ drop (i + 1) rs) (sym is)) in
    record {
      front = map f (take i rs);
      unwritable = f r;
      rest = map f (drop (i + 1) rs);
      stands = ap (map f) split ∙ map-append f (take i rs) (r ∷ drop (i + 1) rs);
      is = h;
    }
one_fails ttl rs i r errors.NoRoom inside is h = absurd h
one_fails ttl rs i r errors.BadCode inside is h = absurd h
one_fails ttl rs i r errors.Memory inside is h = h

-- the records of one of two lists with a TTL
pub first_fails : (ttl : ℕ) (rs ss : List Record) (e : WriteError) → FailsToPutAny (map (with_ttl ttl) rs) e → FailsToPutAny (map (with_ttl ttl) (rs ++ ss)) e
first_fails ttl rs ss e h =
    subst (λ s. FailsToPutAny s e) (sym (map-append (with_ttl ttl) rs ss)) (fails_in [] (map (with_ttl ttl) rs) (map (with_ttl ttl) ss) e h)

-- the records of the other of two lists with a TTL
pub second_fails : (ttl : ℕ) (rs ss : List Record) (e : WriteError) → FailsToPutAny (map (with_ttl ttl) ss) e → FailsToPutAny (map (with_ttl ttl) (rs ++ ss)) e
second_fails ttl rs ss e h =
    let f : Record → Record = with_ttl ttl in
    let whole : map f (rs ++ ss) ≡ map f rs ++ (map f ss ++ []) = map-append f rs ss ∙ ap (λ s. map f rs ++ s) (sym (append-nil (map f ss))) in
    subst (λ s. FailsToPutAny s e) (sym whole) (fails_in (map f rs) (map f ss) [] e h)

-- a group of some groups
pub group_fails : (gs : List Group) (i : ℕ) (g : Group) (e : WriteError) → i < length gs → g ≡ get_or gs i g → FailsToPutAny (records_of g) e
    → FailsToPutAny (all_records gs) e
group_fails gs i g e inside is h =
    let split : gs ≡ take i gs ++ g ∷ drop (i + 1) gs =
    sym (take-append-drop i gs) ∙ ap (λ s. take i gs ++ s) (drop_more gs i g inside ∙ ap (λ x. x ∷ drop (i + 1) gs) (sym is)) in
    let whole : all_records gs ≡ all_records (take i gs) ++ (records_of g ++ all_records (drop (i + 1) gs)) =
    ap all_records split ∙ flat_map-append records_of (take i gs) (g ∷ drop (i + 1) gs) in
    subst (λ s. FailsToPutAny s e) (sym whole) (fails_in (all_records (take i gs)) (records_of g) (all_records (drop (i + 1) gs)) e h)

-- some of more groups
pub groups_fail : (before gs after : List Group) (e : WriteError) → FailsToPutAny (all_records gs) e → FailsToPutAny (all_records (before ++ (gs ++ after))) e
groups_fail before gs after e h =
    let split : all_records (before ++ (gs ++ after)) ≡ all_records before ++ (all_records gs ++ all_records after) =
    flat_map-append records_of before (gs ++ after) ∙ ap (λ s. all_records before ++ s) (flat_map-append records_of gs after) in
    subst (λ s. FailsToPutAny s e) (sym split) (fails_in (all_records before) (all_records gs) (all_records after) e h)

pub body_fails : (limit : ℕ) (r : Response) (e : WriteError) → FailsToPutAny (records_in r) e → FailsToWrite limit r e
body_fails limit r errors.Unwritable h = h
body_fails limit r errors.NoRoom h = absurd h
body_fails limit r errors.BadCode h = absurd h
body_fails limit r errors.Memory h = h

-- records are written, or not, whatever the limit
pub unfit : (rs : List Record) (e : WriteError) → FailsToPutAny rs e → e ≡ errors.NoRoom → ⊥
unfit rs errors.Unwritable h e = cc
unfit rs errors.NoRoom h e = absurd h
unfit rs errors.BadCode h e = cc
unfit rs errors.Memory h e = cc
