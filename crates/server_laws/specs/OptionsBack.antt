-- What a response is read as once it has options
use Rattle.std.specs.Prelude.{◌≡◌, ℕ, ◌<◌, List, [], ◌∷◌, ◌++◌, length, Option, Some, IsTrue, refl}
use Rattle.zone_proto.specs.declared.rdata.RData.TheVariants.{Other}
use Rattle.zone_proto.specs.declared.record.Record.{Record}
use Rattle.message_reading.specs.declared.query.Extension.{Extension}
use Rattle.message_reading.specs.Messages.{Parts, message_of}
use Rattle.message_options.specs.Options.{ends_with_opt, with_options}
use Rattle.message_writing.specs.declared.response.Response.{Response}
use Rattle.message_writing.specs.Responses.{IsWritten}

-- an OPT record with these data, which are its options (RFC 6891 section 6.1.2)
abbrev pub opt_with : List ℕ → Record → Record
opt_with options r = record r { rdata = Other (record { record_type = record { 0 = 41 }; octets = options; other = refl }) }

-- a message is another whose last record, OPT, has these options
pub record GetsOptions (options : List ℕ) (before after : Parts) : Type 0 where
  pub others : List Record
  pub opt : Record
  pub last : before.additionals ≡ others ++ opt ∷ []
  pub is : after ≡ record before { additionals = others ++ opt_with options opt ∷ [] }

-- A response to a query with an OPT record reads back with its options as the message that it is without them, but for the options.
abbrev pub OptionsReadBack : Type 0
OptionsReadBack = (limit : ℕ) (r : Response) (e : Extension) (octets options : List ℕ) → IsWritten limit r octets → r.query.now.extension ≡ Some e
    → IsTrue (ends_with_opt octets) → length options < 65536
    → (before after : Parts) × (message_of octets ≡ Some before) × (message_of (with_options options octets) ≡ Some after)
    × GetsOptions options before after
