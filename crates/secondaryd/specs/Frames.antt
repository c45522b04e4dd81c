-- Frames of octets: what happened, and what is to be done
use Rattle.std.specs.Prelude.{◌≡◌, ℕ, ◌==◌, if◌then◌else◌, List, [], ◌∷◌, ◌++◌, length, Option, Some, None}
use Rattle.std.specs.Int.{from_be_bytes, to_be_bytes, w32, w64, Width}
use Rattle.std.specs.Io.KnownBytes.{Consumes, IsAtEnd}
use Rattle.secondaryd.specs.declared.frames.Event.{Event}
use Rattle.secondaryd.specs.declared.frames.EventKind.{EventKind}
use Rattle.secondaryd.specs.declared.frames.EventKind.TheVariants.{MayAsk, Message, Failure, Notification, Time}

-- a kind, a length in four octets, and so many octets; numbers have their high octet first
abbrev pub frame_text : ℕ → List ℕ → List ℕ
frame_text kind octets = kind ∷ to_be_bytes w32 (length octets) ++ octets

-- a number of so many octets is read
pub record ReadsNumber (w : Width) (size : ℕ) (before after : Option (List ℕ)) (n : ℕ) : Type 0 where
  pub text : List ℕ
  pub size_is : length text ≡ size
  pub number : from_be_bytes w text ≡ n
  pub consumed : Consumes before after text

-- the kind that an octet says: a, m, f, n or t
abbrev pub kind_of : ℕ → Option EventKind
kind_of octet =
    if octet == 97 then Some MayAsk
    else (if octet == 109 then Some Message
    else (if octet == 102 then Some Failure
    else (if octet == 110 then Some Notification
    else (if octet == 116 then Some Time
    else None))))

-- nothing is read, since the input is at its end
abbrev pub IsOver : Option (List ℕ) → Option (List ℕ) → Type 0
IsOver before after = Consumes before after [] × IsAtEnd after

-- an octet is read, or the input is at its end
abbrev pub ReadsOctet : Option (List ℕ) → Option (List ℕ) → Option ℕ → Type 0
ReadsOctet before after None = IsOver before after
ReadsOctet before after (Some octet) = Consumes before after (octet ∷ [])

-- a kind is read, or the input is at its end
abbrev pub ReadsKind : Option (List ℕ) → Option (List ℕ) → Option EventKind → Type 0
ReadsKind before after None = IsOver before after
ReadsKind before after (Some kind) = (octet : ℕ) × (kind_of octet ≡ Some kind) × Consumes before after (octet ∷ [])

-- a kind, a moment in eight octets, a length in four, and so many octets
pub record IsEventText (text : List ℕ) (e : Event) : Type 0 where
  pub octet : ℕ
  pub moment : List ℕ
  pub count : List ℕ
  pub parts : text ≡ (octet ∷ []) ++ (moment ++ (count ++ e.octets.items))
  pub kind_is : kind_of octet ≡ Some e.kind
  pub moment_size : length moment ≡ 8
  pub count_size : length count ≡ 4
  pub moment_is : from_be_bytes w64 moment ≡ e.moment
  pub count_is : from_be_bytes w32 count ≡ length e.octets.items

-- an event is read, or the input is at its end
abbrev pub ReadsEvent : Option (List ℕ) → Option (List ℕ) → Option Event → Type 0
ReadsEvent before after None = IsOver before after
ReadsEvent before after (Some e) = (text : List ℕ) × IsEventText text e × Consumes before after text
