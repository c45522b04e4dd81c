-- A zone that goes to nobody is answered by a code; and a request under a key is authentic
use Rattle.std.proofs.Common.{◌≡◌, inl, inr, ℕ, Bool, true, false, cond, List, [], ◌∷◌, refl, sym, ap, subst, ◌∙◌, true≢false}
use Rattle.std.specs.Prelude.{◌==◌, Option, Some, None, option_copied, Result, Ok, Err}
use Rattle.std.specs.Bool.{MatchBool}
use Rattle.zone_proto.specs.Names.{Name, lower, name_eq}
use Rattle.zone_proto.specs.Types.{IN}
use Rattle.message_reading.specs.declared.error.ReadError.{ReadError}
use Rattle.message_reading.specs.declared.header.Header.{Header}
use Rattle.message_reading.specs.declared.query.Query.{Query}
use Rattle.message_reading.specs.Headers.{header_of}
use Rattle.message_reading.specs.Queries.{query_of}
use Rattle.message_tsig.specs.declared.checking.Checked.{Checked as Kept}
use Rattle.message_tsig.specs.declared.checking.Checked.TheVariants as kept
use Rattle.message_tsig.specs.declared.key.Key.{Key}
use Rattle.message_tsig.specs.declared.tsig.Tsig.{Tsig}
use Rattle.message_tsig.specs.Checking.{IsAuthentic, IsAuthenticIfSigned, checked_kept}
use Rattle.zone_response.specs.Queries.{Zone}
use Rattle.zone_server.specs.declared.transfer_policy.TransferPolicy.{TransferPolicy}
use Rattle.zone_server.specs.declared.transfer_policy.TransferPolicy.TheVariants.{AllowAll, AllowSigned, Deny}
use Rattle.zone_server.specs.declared.transport.Transport.{Transport}
use Rattle.zone_server.specs.Transfers.{Reply, asks_for_transfer, by_code, by_soa, by_zone, policy_reply, reply_of, reply_to, zone_asked, zone_at}
use Rattle.transfer_messages.specs.declared.beginning.Begun.TheVariants as begun
use Rattle.transfer_messages.specs.declared.open_transfer.OpenTransfer.{OpenTransfer}
use Rattle.transfer_messages.specs.declared.opening.Opened.{Opened}
use Rattle.transfer_messages.specs.declared.opening.Opened.TheVariants as opened
use Rattle.transfer_messages.specs.declared.opening.Request.{Request}
use Rattle.transfer_messages.specs.Beginning.{BeginsBy}
use Rattle.transfer_messages.specs.Grants.{is_granted}
use Rattle.transfer_messages.specs.Opening.{IsAuthenticRequest, IsOther, IsSigned, IsSignedRequest, IsUnsignedRequest, OpensBy, OpensHeader, OpensSigned, OpensUnsigned}
use Rattle.transfer_messages.specs.TransferLaws.{MayBeSent, ZonesGoToTheirKeys}

-- ---- a zone that goes to nobody

abbrev IsDenied : Option (Zone × TransferPolicy) → Type 0
IsDenied None = Unit {0}
IsDenied (Some y) = y.1 ≡ Deny

abbrev IsCode : Reply → Type 0
IsCode (by_code c) = Unit {0}
IsCode (by_soa soa) = ⊥
IsCode (by_zone soa m) = ⊥

none_told : (zs : List Zone) (x : Name) → IsDenied (zone_at zs [] x)
none_told [] x = tt
none_told (z ∷ zs) x = by (name_eq z.origin x) (none_told zs x)
  where
    by : (b : Bool) → IsDenied (zone_at zs [] x) → IsDenied (cond b (Some (z, Deny)) (zone_at zs [] x))
    by true h = refl
    by false h = h

none_may : (zs : List Zone) (x : Name) → IsDenied (zone_at zs (Deny ∷ []) x)
none_may [] x = tt
none_may (z ∷ zs) x = by (name_eq z.origin x)
  where
    by : (b : Bool) → IsDenied (cond b (Some (z, Deny)) (zone_at zs [] x))
    by true = refl
    by false = none_told zs x

asked_in_vain : (zs : List Zone) (q : Query) → IsDenied (zone_asked zs (Deny ∷ []) q)
asked_in_vain zs q = by (q.question.query_class.0 == IN)
  where
    by : (b : Bool) → IsDenied (cond b (zone_at zs (Deny ∷ []) (lower q.question.name)) None)
    by true = none_may zs (lower q.question.name)
    by false = tt

code_alone : (t : Transport) (message : List ℕ) (q : Query) (o : Option (Zone × TransferPolicy)) → IsDenied o → IsCode (reply_of t message q o)
code_alone t message q None h = tt
code_alone t message q (Some y) h = subst (λ (p : TransferPolicy). IsCode (policy_reply t message q y.0 p)) (sym h) tt

not_begun : (t : Transport) (now : ℕ) (r : Request) (reply : Reply) (x : OpenTransfer) (octets : List ℕ) → IsCode reply → BeginsBy t now r reply (begun.Transfer x) octets → ⊥
not_begun t now r (by_code c) x octets c' h = h
not_begun t now r (by_soa soa) x octets c' h = c'
not_begun t now r (by_zone soa m) x octets c' h = c'

may_be_sent : (policy : TransferPolicy) (key : Option Key) (origin : Name) → is_granted policy key origin ≡ true → MayBeSent policy key origin
may_be_sent AllowAll key origin h = inl refl
may_be_sent AllowSigned None origin h = absurd (true≢false (sym h))
may_be_sent AllowSigned (Some k) origin h = inr (refl, k, refl, h)
may_be_sent Deny key origin h = absurd (true≢false (sym h))

pub zones_go_to_their_keys : ZonesGoToTheirKeys
zones_go_to_their_keys t now r zs policy x octets begins =
    by (is_granted policy (option_copied r.key) (lower r.query.question.name)) refl
  where
    origin : Name
    origin = lower r.query.question.name

    key : Option Key
    key = option_copied r.key

    by : (b : Bool) → is_granted policy key origin ≡ b → MayBeSent policy key origin
    by true e = may_be_sent policy key origin e
    by false e =
        absurd (not_begun t now r (reply_to zs (Deny ∷ []) t r.message.items r.query) x octets
        (code_alone t r.message.items r.query (zone_asked zs (Deny ∷ []) r.query) (asked_in_vain zs r.query))
        (subst (λ (c : Bool). BeginsBy t now r (reply_to zs (cond c AllowAll Deny ∷ []) t r.message.items r.query) (begun.Transfer x) octets) e begins))

-- ---- a request under a key

same_key : (k j : Key) → Some k ≡ Some j → k ≡ j
same_key k j e = cc

no_key : (r : Request) (k : Key) → r.key ≡ None → option_copied r.key ≡ Some k → ⊥
no_key r k none e = let no : None ≡ Some k = sym (ap option_copied none) ∙ e in absurd cc

module _ (keys : List Key) (now : ℕ) (t : Transport) (message : List ℕ) (octets : List ℕ) (r : Request) where
  unsigned_has_none : (read : Result Query ReadError) → OpensUnsigned t message read (opened.Transfer r) → (k : Key) → option_copied r.key ≡ Some k → ⊥
  unsigned_has_none (Ok q) h k e = by (asks_for_transfer t q) h
    where
      by : (b : Bool) → MatchBool b (IsUnsignedRequest message q (opened.Transfer r)) (IsOther (opened.Transfer r)) → ⊥
      by true g = no_key r k g.2 e
      by false g = g
  unsigned_has_none (Err x) h k e = h

  signed_is_its : (tsig : Tsig) (j : Key) (m : List ℕ) (read : Result Query ReadError) → IsAuthentic keys now message tsig j m → OpensSigned t tsig j m read (opened.Transfer r)
      → (k : Key) → option_copied r.key ≡ Some k → IsAuthentic keys now message tsig k r.message.items
  signed_is_its tsig j m (Ok q) a h k e = by (asks_for_transfer t q) h
    where
      by : (b : Bool) → MatchBool b (IsSignedRequest tsig j m q (opened.Transfer r)) (IsSigned tsig j m (opened.Transfer r)) → IsAuthentic keys now message tsig k r.message.items
      by true g =
          let same : j ≡ k = same_key j k (sym g.2 ∙ e) in
          subst (λ (x : List ℕ). IsAuthentic keys now message tsig k x) (sym g.0) (subst (λ (x : Key). IsAuthentic keys now message tsig x m) same a)
      by false g = absurd g
  signed_is_its tsig j m (Err x) a h k e = absurd h

  no_header : (o : Option (Header × List ℕ)) → OpensHeader o (opened.Transfer r) octets → ⊥
  no_header None h = h
  no_header (Some x) h = h.0

  transfer_is_authentic : (checked : Kept) → OpensBy now t message (checked_kept checked) (opened.Transfer r) octets → IsAuthenticIfSigned keys now message checked
      → IsAuthenticRequest keys now message (opened.Transfer r)
  transfer_is_authentic kept.Unsigned h a = λ k e. absurd (unsigned_has_none (query_of message) h k e)
  transfer_is_authentic kept.Malformed h a = absurd (no_header (header_of message) h)
  transfer_is_authentic (kept.Refused tsig x k m) h a = absurd h.0
  transfer_is_authentic (kept.Signed tsig j m) h a = λ k e. (tsig, signed_is_its tsig j.now m.items (query_of m.items) a h k e)

pub request_is_authentic : (keys : List Key) (now : ℕ) (t : Transport) (message octets : List ℕ) (checked : Kept) (o : Opened) → OpensBy now t message (checked_kept checked) o octets
    → IsAuthenticIfSigned keys now message checked → IsAuthenticRequest keys now message o
request_is_authentic keys now t message octets checked opened.Other h a = tt
request_is_authentic keys now t message octets checked opened.Refused h a = tt
request_is_authentic keys now t message octets checked (opened.Signed x s) h a = tt
request_is_authentic keys now t message octets checked (opened.Transfer r) h a = transfer_is_authentic keys now t message octets r checked h a
