-- The opcode of a header has four bits
use Rattle.std.proofs.Common.{ℕ, ◌<◌, Bool, true, false, eqb, cond, List, subst, arith}
use Rattle.std.specs.Prelude.{Option, Some, None, Result, Ok, Err, nat_lt}
use Rattle.message_reading.specs.declared.header.Header.{Header}
use Rattle.message_reading.specs.declared.query.Query.{Query}
use Rattle.message_reading.specs.declared.query.Extension.{Extension}
use Rattle.message_reading.specs.declared.error.ReadError.{ReadError}
use Rattle.message_reading.specs.declared.error.ReadError.TheVariants.{NoHeader, NoQuery, NotImplemented, Malformed, BadVersion, Memory}
use Rattle.message_reading.specs.Octets.{◌>>=◌, octet_of, short_of}
use Rattle.message_reading.specs.Headers.{header_of}
use Rattle.message_reading.specs.Queries.{query_of, if_query, if_formed, if_version, body_of, ReadsQuery}
use Rattle.zone_server.specs.BareHeaders.{HasOpcode}

-- what was found has this property, if something was
abbrev IfFound : {A : Type 0} → (A → Type 0) → Option A → Type 0
IfFound P None = Unit {0}
IfFound P (Some x) = P x

-- one reading after the other, of which the second has the property whatever the first one found
last : {A B : Type 0} (Q : B → Type 0) (o : Option A) (f : A → Option B) → ((x : A) → IfFound Q (f x)) → IfFound Q (o >>= f)
last Q None f g = tt
last Q (Some x) f g = g x

of_version : (q : Query) (e : Option Extension) → HasOpcode (if_version q e)
of_version q None = tt
of_version q (Some e) = by (nat_lt 0 e.version)
  where
    by : (b : Bool) → HasOpcode (cond b (Err (BadVersion q)) (Ok q))
    by true = tt
    by false = tt

of_form : (h : Header) (body : Option Query) → h.opcode < 16 → HasOpcode (if_formed h body)
of_form h None small = small
of_form h (Some q) small = of_version q q.extension

of_header : (message : List ℕ) (h : Header) (rest : List ℕ) → h.opcode < 16 → HasOpcode (if_query message (Some (h, rest)))
of_header message h rest small = by h.is_response (eqb h.opcode 0)
  where
    by : (b c : Bool) → HasOpcode (cond b (Err NoQuery) (cond c (if_formed h (body_of message h rest)) (Err (NotImplemented h))))
    by true c = tt
    by false true = of_form h (body_of message h rest) small
    by false false = small

abbrev IsSmall : Header × List ℕ → Type 0
IsSmall h = h.0.opcode < 16

opcodes : (octets : List ℕ) → IfFound IsSmall (header_of octets)
opcodes octets =
    last IsSmall (short_of octets) _ (λ id.
    last IsSmall (octet_of id.1) _ (λ high.
    last IsSmall (octet_of high.1) _ (λ low.
    last IsSmall (short_of low.1) _ (λ questions.
    last IsSmall (short_of questions.1) _ (λ answers.
    last IsSmall (short_of answers.1) _ (λ authorities.
    last IsSmall (short_of authorities.1) _ (λ additionals. omega arith)))))))

of_octets : (message : List ℕ) (h : Option (Header × List ℕ)) → IfFound IsSmall h → HasOpcode (if_query message h)
of_octets message None small = tt
of_octets message (Some h) small = of_header message h.0 h.1 small

pub opcode_is_small : (message : List ℕ) → HasOpcode (query_of message)
unfolding query_of
opcode_is_small message = of_octets message (header_of message) (opcodes message)

-- and so has that of what is read
pub read_opcode : (message : List ℕ) (read : Result Query ReadError) → ReadsQuery read (query_of message) → HasOpcode read
read_opcode message (Ok q) e = tt
read_opcode message (Err NoHeader) e = tt
read_opcode message (Err NoQuery) e = tt
read_opcode message (Err (NotImplemented h)) e = subst HasOpcode e (opcode_is_small message)
read_opcode message (Err (Malformed h)) e = subst HasOpcode e (opcode_is_small message)
read_opcode message (Err (BadVersion q)) e = tt
read_opcode message (Err Memory) e = tt
