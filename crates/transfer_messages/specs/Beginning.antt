-- What is answered to a request for a zone
use Rattle.std.specs.Prelude.{◌≡◌, ℕ, false, List, Option, if◌then◌else◌}
use Rattle.zone_proto.specs.Names.{Name}
use Rattle.zone_response.specs.Responses.{bare}
use Rattle.zone_response.specs.Sections.{Sections}
use Rattle.message_tsig.specs.declared.key.Key.{Key}
use Rattle.zone_server.specs.declared.transfer_policy.TransferPolicy.{TransferPolicy}
use Rattle.zone_server.specs.declared.transfer_policy.TransferPolicy.TheVariants.{AllowAll, Deny}
use Rattle.zone_server.specs.declared.transport.Transport.{Transport}
use Rattle.zone_server.specs.Answers.{GoesOut}
use Rattle.zone_server.specs.Limits.{limit_for}
use Rattle.zone_server.specs.Transfers.{Reply, by_code, by_soa, by_zone, soa_sections}
use Rattle.transfer_messages.specs.declared.beginning.Begun.{Begun}
use Rattle.transfer_messages.specs.declared.beginning.Begun.TheVariants as begun
use Rattle.transfer_messages.specs.declared.opening.Request.{Request}
use Rattle.transfer_messages.specs.declared.place.Place.TheVariants as at
use Rattle.transfer_messages.specs.Grants.{is_granted}
use Rattle.transfer_messages.specs.Seals.{goes_out}

-- the policy of a zone for one who asks, under a key or without one: it goes to anybody who asks as he does, or to nobody
abbrev pub granted_to : TransferPolicy → Option Key → Name → TransferPolicy
granted_to policy key origin = if is_granted policy key origin then AllowAll else Deny

-- octets are the response of these sections, within the limit of its way, signed if the request was
pub record IsAnswered (t : Transport) (now : ℕ) (r : Request) (s : Sections) (octets : List ℕ) : Type 0 where
  pub plain : List ℕ
  pub response : GoesOut (limit_for t r.query.extension) r.query s plain
  pub text : octets ≡ goes_out r.sealing now (limit_for t r.query.extension) plain

-- the response is there
abbrev pub HasAnswered : Transport → ℕ → Request → Sections → Begun → List ℕ → Type 0
HasAnswered t now r s begun.Answered octets = IsAnswered t now r s octets
HasAnswered t now r s (begun.Transfer x) octets = ⊥

-- the messages of the zone begin
abbrev pub IsStarted : Request → Begun → Type 0
IsStarted r begun.Answered = ⊥
IsStarted r (begun.Transfer x) = (x.query ≡ r.query) × (x.place ≡ at.Opening 0) × (x.sealing ≡ r.sealing) × (x.is_broken_off ≡ false)

-- a request is answered by a reply: by a code alone, by the SOA alone, or by the messages of the zone
abbrev pub BeginsBy : Transport → ℕ → Request → Reply → Begun → List ℕ → Type 0
BeginsBy t now r (by_code c) b octets = HasAnswered t now r (bare c) b octets
BeginsBy t now r (by_soa soa) b octets = HasAnswered t now r (soa_sections soa) b octets
BeginsBy t now r (by_zone soa m) b octets = IsStarted r b
