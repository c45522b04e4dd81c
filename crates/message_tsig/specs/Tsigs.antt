-- A TSIG record (RFC 8945 section 4.2), and what its MAC is made of (section 4.3)
use Rattle.std.specs.Prelude.{ℕ, ◌+◌, ◌*◌, ◌==◌, ◌&&◌, Bool, List, [], ◌∷◌, ◌++◌, drop, Option, Some, None, if◌then◌else◌}
use Rattle.zone_proto.specs.Names.{Name, lower, wire_form}
use Rattle.message_reading.specs.declared.record_frame.RecordFrame.{RecordFrame}
use Rattle.message_reading.specs.MessageNames.{name_of, plain_name_of}
use Rattle.message_reading.specs.Octets.{◌>>=◌, alone, long_of, octets_of, short_of}
use Rattle.message_reading.specs.Unread.{record_frame_of}
use Rattle.message_tsig.specs.declared.tsig.Fields.{Fields}
use Rattle.message_tsig.specs.declared.tsig.Tsig.{Tsig}
use Rattle.message_tsig.specs.Places.{TSIG}
use Rattle.message_tsig.specs.Texts.{counted_text, short_text, time_text}

-- ---- reading

-- a number of 48 bits
abbrev pub time_of : List ℕ → Option (ℕ × List ℕ)
time_of octets = short_of octets >>= λ high. long_of high.1 >>= λ low. Some (high.0 * 4294967296 + low.0, low.1)

-- octets behind a number of 16 bits that counts them
abbrev pub shortly_counted : List ℕ → Option (List ℕ × List ℕ)
shortly_counted octets = short_of octets >>= λ count. octets_of count.0 count.1

-- the fields of a TSIG of these names, behind the name of the algorithm, all of them
unfoldable pub numbers_of : Name → Name → List ℕ → Option Tsig
numbers_of name algorithm octets =
    time_of octets >>= λ time.
    short_of time.1 >>= λ fudge.
    shortly_counted fudge.1 >>= λ mac.
    short_of mac.1 >>= λ id.
    short_of id.1 >>= λ error.
    alone (shortly_counted error.1) >>= λ other.
    Some (record {
      name = name;
      algorithm = algorithm;
      time = time.0;
      fudge = fudge.0;
      mac = mac.0;
      original_id = id.0;
      error = error.0;
      other = other;
    })

-- the same as the program keeps them
abbrev pub tsig_with : Name → Name → Fields → Tsig
tsig_with name algorithm f = record {
  name = name;
  algorithm = algorithm;
  time = f.time;
  fudge = f.fudge;
  mac = f.mac.now;
  original_id = f.original_id;
  error = f.error;
  other = f.other.now;
}

-- the TSIG of an owner and of data; the algorithm is a name without pointers
abbrev pub fields_of : Name → List ℕ → Option Tsig
fields_of name octets = plain_name_of octets >>= λ algorithm. numbers_of name algorithm.0 algorithm.1

-- the type is TSIG, the class ANY and the TTL 0
abbrev pub is_tsig : RecordFrame → Bool
is_tsig f = (f.record_type == TSIG) && (f.class == 255) && (f.ttl == 0)

-- the TSIG that stands at an offset of a message
unfoldable pub tsig_at : ℕ → List ℕ → Option Tsig
tsig_at at message =
    name_of message at (drop at message) >>= λ owner.
    record_frame_of (drop at message) >>= λ r.
    if is_tsig r.0 then fields_of owner.0 r.1 else None

-- ---- what a MAC is made of

-- class ANY and TTL 0
abbrev pub class_and_ttl : List ℕ
class_and_ttl = 0 ∷ 255 ∷ 0 ∷ 0 ∷ 0 ∷ 0 ∷ []

-- the TSIG variables (section 4.3.3): names are in canonical form
unfoldable pub variables : Tsig → List ℕ
variables t =
    wire_form (lower t.name) ++ class_and_ttl ++ wire_form (lower t.algorithm) ++ time_text t.time ++ short_text t.fudge
    ++ short_text t.error ++ counted_text t.other

-- the TSIG timers (section 5.3.1)
unfoldable pub timers : Tsig → List ℕ
timers t = time_text t.time ++ short_text t.fudge

-- a message with the identifier that it had where it was signed (section 4.3.2), behind a prefix and before an end
abbrev pub signed_text : List ℕ → Tsig → List ℕ → List ℕ → List ℕ
signed_text prefix t message end = prefix ++ short_text t.original_id ++ drop 2 message ++ end

-- of a request: the message without the TSIG, and the variables
abbrev pub request_text : Tsig → List ℕ → List ℕ
request_text t message = signed_text [] t message (variables t)

-- of a response: the MAC of the request, the message and the variables (section 4.3.1)
abbrev pub response_text : List ℕ → Tsig → List ℕ → List ℕ
response_text mac t message = signed_text (counted_text mac) t message (variables t)

-- of a message behind another, as on TCP: the MAC of that one, the message and the timers (section 5.3.1)
abbrev pub following_text : List ℕ → Tsig → List ℕ → List ℕ
following_text mac t message = signed_text (counted_text mac) t message (timers t)

-- ---- writing

-- type TSIG, class ANY and TTL 0
abbrev pub type_class_and_ttl : List ℕ
type_class_and_ttl = 0 ∷ 250 ∷ 0 ∷ 255 ∷ 0 ∷ 0 ∷ 0 ∷ 0 ∷ []

unfoldable pub data_text : Tsig → List ℕ
data_text t =
    wire_form (lower t.algorithm) ++ time_text t.time ++ short_text t.fudge ++ counted_text t.mac ++ short_text t.original_id
    ++ short_text t.error ++ counted_text t.other

-- the record: its names are in lower case and without pointers
unfoldable pub record_text : Tsig → List ℕ
record_text t = wire_form (lower t.name) ++ type_class_and_ttl ++ counted_text (data_text t)
