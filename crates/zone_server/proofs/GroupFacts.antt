-- Sets that are put into a response as groups of records
use Rattle.std.proofs.Common.{◌≡◌, ℕ, ◌+◌, ◌<◌, ◌≤◌, ◌&&◌, Bool, true, false, cond, List, [], ◌∷◌, ◌++◌, length, map, take, drop, refl, ap, subst, ◌∙◌, append_assoc, true≢false, sym}
use Rattle.std.proofs.lemmas.List.{append-nil, drop_more, map-append, map_more, take_all, take-append-drop}
use Rattle.std.proofs.lemmas.List.Concat.{flat_map-append}
use Rattle.std.proofs.lemmas.List.Folds.{flat_map-map}
use Rattle.std.specs.Prelude.{◌≢◌, filter, get_or}
use Rattle.std.specs.List.{flat_map, list_all}
use Rattle.zone_proto.specs.Sets.{RRset}
use Rattle.zone_proto.specs.declared.record.Record.{Record}
use Rattle.zone_response.specs.Sections.{Sections, sent_set}
use Rattle.zone_response.specs.declared.response.Sent.{Sent}
use Rattle.message_writing.specs.declared.error.WriteError.{WriteError}
use Rattle.message_writing.specs.declared.error.WriteError.TheVariants.{Unwritable, NoRoom, BadCode, Memory}
use Rattle.message_writing.specs.declared.response.Group.{Group}
use Rattle.message_writing.specs.declared.response.Response.{Response}
use Rattle.message_writing.specs.declared.response.ResponseHead.{ResponseHead}
use Rattle.message_writing.specs.declared.response.Section.{Section}
use Rattle.message_writing.specs.declared.response.Section.TheVariants.{Answers, Authorities, Glue, Additionals}
use Rattle.message_writing.specs.declared.response_writer.ResponseWriter.{ResponseWriter}
use Rattle.message_writing.specs.Outcomes.{FailsToPutAny}
use Rattle.message_writing.specs.Responses.{records_of, with_ttl}
use Rattle.message_writing.specs.Writers.{FailsToBegin, IsLast, IsUnderway, PutsGroups, with_groups}
use Rattle.message_writing.proofs.Failures.{fails_in}
use Rattle.message_writing.proofs.MoreGroups.{last_more, more_groups, no_more_groups}
use Rattle.zone_server.specs.Answers.{code_number, records_in, records_sent, AreSets}
use Rattle.zone_server.specs.Sending.{FailsToSend, HasSections, PutsSections, PutsSets}

-- where all pass, those that pass are all
pub all_pass : {X : Type 0} (p : X → Bool) (xs : List X) → list_all p xs ≡ true → filter p xs ≡ xs
all_pass p [] e = refl
all_pass p (x ∷ xs) e = by (p x) e (all_pass p xs)
  where
    by : (b : Bool) → (b && list_all p xs) ≡ true → (list_all p xs ≡ true → filter p xs ≡ xs) → cond b (x ∷ filter p xs) (filter p xs) ≡ x ∷ xs
    by true q h = ap (λ ys. x ∷ ys) (h q)
    by false q h = absurd (true≢false (sym q))

-- ---- one set

-- the records of a group that is a set as it is sent
pub group_sent : (g : Group) (s : RRset) → map (with_ttl g.ttl) g.records.now ≡ s.records → map (with_ttl g.ttl) g.signatures.now ≡ s.signatures
    → records_of g ≡ records_sent s
group_sent g s e f = map-append (with_ttl g.ttl) g.records.now g.signatures.now ∙ (λ i. e i ++ f i)

pub puts_one : (section : Section) (g : Group) (s : RRset) (before after : ResponseWriter) (old new : List ℕ) → records_of g ≡ records_sent s
    → PutsGroups section (g ∷ []) before old after new → PutsSets section (s ∷ []) before old after new
puts_one section g s before after old new same h = λ limit r last u. (g ∷ [], ap (λ x. x ∷ []) same, h limit r last u)

-- ---- sets one behind the other

pub puts_none : (section : Section) (w : ResponseWriter) (octets : List ℕ) → PutsSets section [] w octets w octets
puts_none section w octets =
    λ limit r last u. ([], refl, subst (λ x. IsUnderway limit x w octets) (sym (no_more_groups section r)) u)

sets_join : (gs hs : List Group) (xs ys : List RRset) → AreSets gs xs → AreSets hs ys → AreSets (gs ++ hs) (xs ++ ys)
sets_join gs hs xs ys e f = map-append records_of gs hs ∙ (λ i. e i ++ f i) ∙ sym (map-append records_sent xs ys)

pub puts_then : (section : Section) (xs ys : List RRset) (before mid after : ResponseWriter) (old here new : List ℕ)
    → PutsSets section xs before old mid here → PutsSets section ys mid here after new → PutsSets section (xs ++ ys) before old after new
puts_then section xs ys before mid after old here new p q = λ limit r last u.
    let a = p limit r last u in
    let b = q limit (with_groups section a.0 r) (last_more section a.0 r last) a.2 in (
      a.0 ++ b.0,
      sets_join a.0 b.0 xs ys a.1 b.1,
      subst (λ x. IsUnderway limit x after new) (more_groups section a.0 b.0 r) b.2,
    )

pub puts_more : (section : Section) (sets : List Sent) (i : ℕ) (x : Sent) (before mid after : ResponseWriter) (old here new : List ℕ) → i < length sets
    → x ≡ get_or sets i x → PutsSets section (map sent_set (take i sets)) before old mid here → PutsSets section (sent_set x ∷ []) mid here after new
    → PutsSets section (map sent_set (take (i + 1) sets)) before old after new
puts_more section sets i x before mid after old here new inside is p q =
    let more : map sent_set (take (i + 1) sets) ≡ map sent_set (take i sets) ++ sent_set x ∷ [] =
    map_more sent_set sets i x inside ∙ ap (λ y. map sent_set (take i sets) ++ sent_set y ∷ []) (sym is) in
    subst (λ ss. PutsSets section ss before old after new) (sym more)
    (puts_then section (map sent_set (take i sets)) (sent_set x ∷ []) before mid after old here new p q)

pub puts_all : (section : Section) (sets : List Sent) (i : ℕ) (before after : ResponseWriter) (old new : List ℕ) → length sets ≤ i
    → PutsSets section (map sent_set (take i sets)) before old after new → PutsSets section (map sent_set sets) before old after new
puts_all section sets i before after old new past p =
    subst (λ ss. PutsSets section (map sent_set ss) before old after new) (take_all i sets past) p

-- ---- the sections one behind the other

pub puts_sections : (s : Sections) (w₀ w₁ w₂ w₃ w₄ : ResponseWriter) (o₀ o₁ o₂ o₃ o₄ : List ℕ) → PutsSets Answers s.answers w₀ o₀ w₁ o₁
    → PutsSets Authorities s.authorities w₁ o₁ w₂ o₂ → PutsSets Glue s.glue w₂ o₂ w₃ o₃ → PutsSets Additionals s.additionals w₃ o₃ w₄ o₄
    → PutsSections s w₀ o₀ w₄ o₄
puts_sections s w₀ w₁ w₂ w₃ w₄ o₀ o₁ o₂ o₃ o₄ p₁ p₂ p₃ p₄ = λ limit r none u₀.
    let a = p₁ limit r (none.authorities, none.glue, none.additionals) u₀ in
    let r₁ = with_groups Answers a.0 r in
    let b = p₂ limit r₁ (none.glue, none.additionals) a.2 in
    let r₂ = with_groups Authorities b.0 r₁ in
    let g = p₃ limit r₂ none.additionals b.2 in
    let r₃ = with_groups Glue g.0 r₂ in
    let d = p₄ limit r₃ tt g.2 in (
      with_groups Additionals d.0 r₃,
      record {
        query = refl;
        authoritative = refl;
        code = refl;
        size = refl;
        answers = ap (λ gs. map records_of (gs ++ a.0)) none.answers ∙ a.1;
        authorities = ap (λ gs. map records_of (gs ++ b.0)) none.authorities ∙ b.1;
        glue = ap (λ gs. map records_of (gs ++ g.0)) none.glue ∙ g.1;
        additionals = ap (λ gs. map records_of (gs ++ d.0)) none.additionals ∙ d.1;
      },
      d.2,
    )

-- ---- why a set was not put

one_fails : {A : Type 0} (f : A → List Record) (xs : List A) (i : ℕ) (x : A) (e : WriteError) → i < length xs → x ≡ get_or xs i x → FailsToPutAny (f x) e
    → FailsToPutAny (flat_map f xs) e
one_fails f xs i x e inside is h =
    let split : xs ≡ take i xs ++ x ∷ drop (i + 1) xs =
    sym (take-append-drop i xs) ∙ ap (λ s. take i xs ++ s) (drop_more xs i x inside ∙ ap (λ y. y ∷ drop (i + 1) xs) (sym is)) in
    let whole : flat_map f xs ≡ flat_map f (take i xs) ++ (f x ++ flat_map f (drop (i + 1) xs)) =
    ap (flat_map f) split ∙ flat_map-append f (take i xs) (x ∷ drop (i + 1) xs) in
    subst (λ s. FailsToPutAny s e) (sym whole) (fails_in (flat_map f (take i xs)) (f x) (flat_map f (drop (i + 1) xs)) e h)

pub set_fails : (sets : List Sent) (i : ℕ) (x : Sent) (e : WriteError) → i < length sets → x ≡ get_or sets i x
    → FailsToPutAny (records_sent (sent_set x)) e → FailsToPutAny (flat_map records_sent (map sent_set sets)) e
set_fails sets i x e inside is h =
    subst (λ s. FailsToPutAny s e) (sym (flat_map-map records_sent sent_set sets)) (one_fails (λ y. records_sent (sent_set y)) sets i x e inside is h)

part_fails : (before ss after : List RRset) (e : WriteError) → FailsToPutAny (flat_map records_sent ss) e
    → FailsToPutAny (flat_map records_sent (before ++ (ss ++ after))) e
part_fails before ss after e h =
    let split : flat_map records_sent (before ++ (ss ++ after)) ≡ flat_map records_sent before ++ (flat_map records_sent ss ++ flat_map records_sent after) =
    flat_map-append records_sent before (ss ++ after) ∙ ap (λ s. flat_map records_sent before ++ s) (flat_map-append records_sent ss after) in
    subst (λ s. FailsToPutAny s e) (sym split)
    (fails_in (flat_map records_sent before) (flat_map records_sent ss) (flat_map records_sent after) e h)

pub answers_fail : (s : Sections) (e : WriteError) → FailsToPutAny (flat_map records_sent s.answers) e → FailsToPutAny (records_in s) e
answers_fail s e h = part_fails [] s.answers (s.authorities ++ (s.glue ++ s.additionals)) e h

pub authorities_fail : (s : Sections) (e : WriteError) → FailsToPutAny (flat_map records_sent s.authorities) e → FailsToPutAny (records_in s) e
authorities_fail s e h = part_fails s.answers s.authorities (s.glue ++ s.additionals) e h

pub glue_fails : (s : Sections) (e : WriteError) → FailsToPutAny (flat_map records_sent s.glue) e → FailsToPutAny (records_in s) e
glue_fails s e h =
    subst (λ x. FailsToPutAny (flat_map records_sent x) e) (append_assoc s.answers s.authorities (s.glue ++ s.additionals))
    (part_fails (s.answers ++ s.authorities) s.glue s.additionals e h)

pub additionals_fail : (s : Sections) (e : WriteError) → FailsToPutAny (flat_map records_sent s.additionals) e → FailsToPutAny (records_in s) e
additionals_fail s e h =
    let same : (s.answers ++ (s.authorities ++ s.glue)) ++ (s.additionals ++ []) ≡ s.answers ++ (s.authorities ++ (s.glue ++ s.additionals)) =
    ap (λ x. (s.answers ++ (s.authorities ++ s.glue)) ++ x) (append-nil s.additionals)
    ∙ append_assoc s.answers (s.authorities ++ s.glue) s.additionals ∙ ap (λ x. s.answers ++ x) (append_assoc s.authorities s.glue s.additionals) in
    subst (λ x. FailsToPutAny (flat_map records_sent x) e) same
    (part_fails (s.answers ++ (s.authorities ++ s.glue)) s.additionals [] e h)

-- ---- why a response was not sent

pub put_fails : (s : Sections) (e : WriteError) → FailsToPutAny (records_in s) e → FailsToSend s e
put_fails s Unwritable h = h
put_fails s NoRoom h = absurd h
put_fails s BadCode h = absurd h
put_fails s Memory h = tt

pub begin_fails : (limit : ℕ) (head : ResponseHead) (s : Sections) (e : WriteError) → head.code ≡ code_number s.code → e ≢ NoRoom
    → FailsToBegin limit head e → FailsToSend s e
begin_fails limit head s Unwritable code room h = absurd h
begin_fails limit head s NoRoom code room h = absurd (room refl)
begin_fails limit head s BadCode code room h = subst (λ n. 4095 < n) code h
begin_fails limit head s Memory code room h = tt
