-- A query and a message behind their headers, and the refusals of a query
use Rattle.std.proofs.Common.{◌≡◌, ℕ, Bool, true, false, cond, eqb, List, Option, Some, None, Result, Ok, Err, refl, sym, ap, ◌∙◌, eq-eqb}
use Rattle.std.proofs.lemmas.Bool.{ne_eqb}
use Rattle.message_reading.specs.declared.header.Header.{Header}
use Rattle.message_reading.specs.declared.query.Query.{Query}
use Rattle.message_reading.specs.declared.error.ReadError.{ReadError}
use Rattle.message_reading.specs.declared.error.ReadError.TheVariants.{NoHeader, NoQuery, NotImplemented, Malformed, BadVersion, Memory}
use Rattle.message_reading.specs.Octets.{◌>>=◌}
use Rattle.message_reading.specs.Headers.{header_of}
use Rattle.message_reading.specs.Messages.{message_of, sections_of, Parts}
use Rattle.message_reading.specs.Queries.{body_of, if_formed, if_query, query_of, ReadsQuery}

-- ---- messages

pub message_none : (m : List ℕ) → None ≡ header_of m → message_of m ≡ None
unfolding message_of
message_none m e = ap (λ x. x >>= λ header. sections_of m header.0 header.1) (sym e)

pub message_is : (m : List ℕ) (h : Header) (rest : List ℕ) (read : Option Parts) → Some (h, rest) ≡ header_of m → read ≡ sections_of m h rest
    → message_of m ≡ read
unfolding message_of
message_is m h rest read e f = ap (λ x. x >>= λ header. sections_of m header.0 header.1) (sym e) ∙ sym f

-- ---- queries

pub reads_same : (r read : Result Query ReadError) → r ≡ read → ReadsQuery r read
reads_same (Ok q) read e = sym e
reads_same (Err NoHeader) read e = sym e
reads_same (Err NoQuery) read e = sym e
reads_same (Err (NotImplemented h)) read e = sym e
reads_same (Err (Malformed h)) read e = sym e
reads_same (Err (BadVersion q)) read e = sym e
reads_same (Err Memory) read e = tt

pub query_none : (m : List ℕ) → None ≡ header_of m → query_of m ≡ Err NoHeader
unfolding query_of
query_none m e = ap (if_query m) (sym e)

pub query_response : (m : List ℕ) (h : Header) (rest : List ℕ) → Some (h, rest) ≡ header_of m → h.is_response ≡ true → query_of m ≡ Err NoQuery
unfolding query_of
query_response m h rest e response =
    ap (if_query m) (sym e) ∙ first h.is_response (Err NoQuery) _ response
  where
    first : (b : Bool) (x y : Result Query ReadError) → b ≡ true → cond b x y ≡ x
    first true x y p = refl
    first false x y p = absurd cc

pub query_opcode : (m : List ℕ) (h : Header) (rest : List ℕ) → Some (h, rest) ≡ header_of m → h.is_response ≡ false → (h.opcode ≡ 0 → ⊥)
    → query_of m ≡ Err (NotImplemented h)
unfolding query_of
query_opcode m h rest e query other =
    let f : eqb h.opcode 0 ≡ false = ne_eqb h.opcode 0 other in
    ap (if_query m) (sym e)
    ∙ third h.is_response (eqb h.opcode 0) (Err NoQuery) (if_formed h (body_of m h rest)) (Err (NotImplemented h)) query f
  where
    third : (b c : Bool) (x y z : Result Query ReadError) → b ≡ false → c ≡ false → cond b x (cond c y z) ≡ z
    third true c x y z p q = absurd cc
    third false true x y z p q = absurd cc
    third false false x y z p q = refl

pub query_rest : (m : List ℕ) (h : Header) (rest : List ℕ) → Some (h, rest) ≡ header_of m → h.is_response ≡ false → h.opcode ≡ 0
    → query_of m ≡ if_formed h (body_of m h rest)
unfolding query_of
query_rest m h rest e query standard =
    let f : eqb h.opcode 0 ≡ true = eq-eqb h.opcode 0 standard in
    ap (if_query m) (sym e)
    ∙ second h.is_response (eqb h.opcode 0) (Err NoQuery) (if_formed h (body_of m h rest)) (Err (NotImplemented h)) query f
  where
    second : (b c : Bool) (x y z : Result Query ReadError) → b ≡ false → c ≡ true → cond b x (cond c y z) ≡ y
    second true c x y z p q = absurd cc
    second false true x y z p q = refl
    second false false x y z p q = absurd cc
