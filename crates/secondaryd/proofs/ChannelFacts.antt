-- Questions that are asked, and messages that are taken
use Rattle.std.proofs.Common.{◌≡◌, ℕ, List, [], sym, ap, subst, ◌∙◌}
use Rattle.std.specs.Prelude.{Option, Some}
use Rattle.message_reading.specs.Messages.{message_of}
use Rattle.message_tsig.specs.Requests.{request_mac}
use Rattle.message_tsig.specs.Signing.{fudge, of_request}
use Rattle.message_tsig.specs.declared.key.Key.{Key}
use Rattle.transfer_reading.specs.Transfers.{Course}
use Rattle.transfer_reading.specs.declared.asked.Asked.{Asked}
use Rattle.signed_transfers.specs.SignedTransfers.{took_plain, took_signed, SignedCourse}
use Rattle.signed_transfers.specs.declared.fault.SignedFault.TheVariants as faults
use Rattle.secondaryd.specs.Channels.{begun, behind, octets_of, opened, plainly, signed_with, IsPlainStep, IsSignedStep, IsStep}
use Rattle.secondaryd.specs.declared.channel.Channel.{Channel}
use Rattle.secondaryd.specs.declared.channel.Channel.TheVariants.{Plain, Signed}
use Rattle.secondaryd.specs.declared.channel.Step.{Step}
use Rattle.secondaryd.specs.declared.channel.Step.TheVariants.{Unasked, Reached, Wrong}

-- the answer to a signed question begins with the MAC of the question
pub signed_is_open : (c : Channel) (k : Key) (answer : Option SignedCourse) (s : SignedCourse) (a : Asked) (now : ℕ) (octets text mac of_question : List ℕ)
    → c ≡ Signed k answer → octets ≡ octets_of a → text ≡ octets → mac ≡ request_mac k now fudge text → of_question ≡ mac
    → s ≡ record { course = begun a; checking = record { prior = of_request of_question; since = []; count = 0 } }
    → Signed k (Some s) ≡ opened c a now
signed_is_open c k answer s a now octets text mac of_question is written same made copied begins =
    let mac_is : of_question ≡ request_mac k now fudge (octets_of a) = copied ∙ made ∙ ap (request_mac k now fudge) (same ∙ written) in
    subst (λ (x : Channel). Signed k (Some s) ≡ opened x a now) (sym is)
    (ap (λ (x : SignedCourse). Signed k (Some x)) begins
    ∙ ap (λ (m : List ℕ). Signed k (Some (record { course = begun a; checking = record { prior = of_request m; since = []; count = 0 } }))) mac_is)

pub plain_step : (s : Step) (t next : Course) (now : ℕ) (message : List ℕ) → IsPlainStep s (took_plain t (message_of message)) next
    → IsStep s (Plain (Some t)) (behind (Plain (Some t)) now message) (Plain (Some next))
plain_step Unasked t next now message h = absurd h
plain_step (Reached stage) t next now message h = (ap (λ r. Some (plainly r)) h.0, ap (λ x. Some x) (sym h.1))
plain_step (Wrong faults.Memory) t next now message h = tt
plain_step (Wrong (faults.Wrong e)) t next now message h = ap (λ r. Some (plainly r)) h
plain_step (Wrong (faults.Refused e)) t next now message h = ap (λ r. Some (plainly r)) h
plain_step (Wrong (faults.Answer e)) t next now message h = ap (λ r. Some (plainly r)) h

pub signed_step : (s : Step) (k : Key) (t next : SignedCourse) (now : ℕ) (message : List ℕ) → IsSignedStep s (took_signed k now t message) next
    → IsStep s (Signed k (Some t)) (behind (Signed k (Some t)) now message) (Signed k (Some next))
signed_step Unasked k t next now message h = absurd h
signed_step (Reached stage) k t next now message h = (ap (λ r. Some (signed_with k r)) h.0, ap (λ x. Some x) (sym h.1))
signed_step (Wrong faults.Memory) k t next now message h = tt
signed_step (Wrong (faults.Wrong e)) k t next now message h = ap (λ r. Some (signed_with k r)) h
signed_step (Wrong (faults.Refused e)) k t next now message h = ap (λ r. Some (signed_with k r)) h
signed_step (Wrong (faults.Answer e)) k t next now message h = ap (λ r. Some (signed_with k r)) h
