-- Worked examples: those of the standards, and what isn't read
use Rattle.std.proofs.Common.{◌≡◌, ℕ, List, [], ◌∷◌, Option, Some, None, Ok, true, false, drop, refl}
use Rattle.std.specs.Prelude.{option_map}
use Rattle.zone_proto.specs.Names.{Name}
use Rattle.message_reading.specs.MessageNames.{name_of, name_within}
use Rattle.message_reading.specs.TypeMaps.{types_within}
use Rattle.message_reading.specs.Messages.{question_of}
use Rattle.message_reading.specs.Queries.{query_of, body_of, behind_question, behind_authorities, additionals_of, are_options}
use Rattle.message_reading.specs.Unread.{behind_owner, record_frame_of}

-- the names of RFC 1035 section 4.1.4: F.ISI.ARPA at 20, FOO.F.ISI.ARPA at 40, ARPA at 64, and the root at 92
message : List ℕ
message = 0 ∷ 0 ∷ 0 ∷ 0 ∷ 0 ∷ 0 ∷ 0 ∷ 0 ∷ 0 ∷ 0 ∷ 0 ∷ 0 ∷ 0 ∷ 0 ∷ 0 ∷ 0 ∷ 0 ∷ 0 ∷ 0 ∷ 0 ∷ 1 ∷ 70 ∷ 3 ∷ 73 ∷ 83 ∷ 73 ∷ 4 ∷ 65 ∷ 82 ∷ 80 ∷ 65 ∷ 0 ∷ 0 ∷ 0 ∷ 0 ∷ 0 ∷ 0 ∷ 0 ∷ 0 ∷ 0 ∷ 3 ∷ 70 ∷ 79 ∷ 79 ∷ 192 ∷ 20 ∷ 0 ∷ 0 ∷ 0 ∷ 0 ∷ 0 ∷ 0 ∷ 0 ∷ 0 ∷ 0 ∷ 0 ∷ 0 ∷ 0 ∷ 0 ∷ 0 ∷ 0 ∷ 0 ∷ 0 ∷ 0 ∷ 192 ∷ 26 ∷ 0 ∷ 0 ∷ 0 ∷ 0 ∷ 0 ∷ 0 ∷ 0 ∷ 0 ∷ 0 ∷ 0 ∷ 0 ∷ 0 ∷ 0 ∷ 0 ∷ 0 ∷ 0 ∷ 0 ∷ 0 ∷ 0 ∷ 0 ∷ 0 ∷ 0 ∷ 0 ∷ 0 ∷ 0 ∷ 0 ∷ 0 ∷ []

abbrev arpa : Name
arpa = (65 ∷ 82 ∷ 80 ∷ 65 ∷ []) ∷ []

abbrev f_isi_arpa : Name
f_isi_arpa = (70 ∷ []) ∷ (73 ∷ 83 ∷ 73 ∷ []) ∷ arpa

abbrev names : List ℕ → ℕ → Option Name
names m at = option_map (λ x. x.0) (name_of m at (drop at m))

first : names message 20 ≡ Some f_isi_arpa
unfolding message name_of name_within
first = refl

second : names message 40 ≡ Some ((70 ∷ 79 ∷ 79 ∷ []) ∷ f_isi_arpa)
unfolding message name_of name_within
second = refl

third : names message 64 ≡ Some arpa
unfolding message name_of name_within
third = refl

root : names message 92 ≡ Some []
unfolding message name_of name_within
root = refl

-- a pointer to itself, one that leads on, and one into the header
abbrev header : List ℕ → List ℕ
header body = 0 ∷ 0 ∷ 0 ∷ 0 ∷ 0 ∷ 0 ∷ 0 ∷ 0 ∷ 0 ∷ 0 ∷ 0 ∷ 0 ∷ body

itself : names (header (192 ∷ 12 ∷ [])) 12 ≡ None
unfolding name_of name_within
itself = refl

onward : names (header (192 ∷ 14 ∷ 0 ∷ [])) 12 ≡ None
unfolding name_of name_within
onward = refl

into_header : names (header (192 ∷ 4 ∷ [])) 12 ≡ None
unfolding name_of name_within
into_header = refl

-- one into the labels that it ends, and one to a name before them
own_labels : names (header (1 ∷ 97 ∷ 192 ∷ 12 ∷ [])) 12 ≡ None
unfolding name_of name_within
own_labels = refl

before : names (header (1 ∷ 97 ∷ 0 ∷ 1 ∷ 98 ∷ 192 ∷ 12 ∷ [])) 15 ≡ Some ((98 ∷ []) ∷ (97 ∷ []) ∷ [])
unfolding name_of name_within
before = refl

-- the type map of RFC 4034 section 4.3: A, MX, RRSIG, NSEC and TYPE1234
abbrev type_map : List ℕ
type_map = 0 ∷ 6 ∷ 64 ∷ 1 ∷ 0 ∷ 0 ∷ 0 ∷ 3 ∷ 4 ∷ 27 ∷ 0 ∷ 0 ∷ 0 ∷ 0 ∷ 0 ∷ 0 ∷ 0 ∷ 0 ∷ 0 ∷ 0 ∷ 0 ∷ 0 ∷ 0 ∷ 0 ∷ 0 ∷ 0 ∷ 0 ∷ 0 ∷ 0 ∷ 0 ∷ 0 ∷ 0 ∷ 0 ∷ 0 ∷ 0 ∷ 0 ∷ 32 ∷ []

abbrev types : List ℕ
types = 1 ∷ 15 ∷ 46 ∷ 47 ∷ 1234 ∷ []

map_read : types_within 257 0 type_map ≡ Some types
unfolding types_within
map_read = refl

-- a query for the AAAA of Www.x. with RD, CD, and an OPT record of size 1232 with DO
abbrev query : List ℕ
query = 18 ∷ 52 ∷ 1 ∷ 16 ∷ 0 ∷ 1 ∷ 0 ∷ 0 ∷ 0 ∷ 0 ∷ 0 ∷ 1 ∷ 3 ∷ 87 ∷ 119 ∷ 119 ∷ 1 ∷ 120 ∷ 0 ∷ 0 ∷ 28 ∷ 0 ∷ 1 ∷ 0 ∷ 0 ∷ 41 ∷ 4 ∷ 208 ∷ 0 ∷ 0 ∷ 128 ∷ 0 ∷ 0 ∷ 0 ∷ []

query_read : query_of query ≡ Ok (record {
  header = record {
    id = 4660;
    is_response = false;
    opcode = 0;
    authoritative = false;
    truncated = false;
    recursion_desired = true;
    recursion_available = false;
    reserved = false;
    authentic_data = false;
    checking_disabled = true;
    response_code = 0;
    questions = 1;
    answers = 0;
    authorities = 0;
    additionals = 1;
  };
  question = record {
    name = (87 ∷ 119 ∷ 119 ∷ []) ∷ (120 ∷ []) ∷ [];
    query_type = record { 0 = 28 };
    query_class = record { 0 = 1 };
  };
  extension = Some (record { size = 1232; version = 0; dnssec_ok = true });
})
unfolding query_of body_of behind_question behind_authorities additionals_of record_frame_of behind_owner are_options question_of name_of name_within
query_read = refl
