-- What a message is found to be by what it was read as
use Rattle.std.proofs.Common.{◌≡◌, ℕ, Bool, List, refl, sym, subst}
use Rattle.std.specs.Prelude.{Option, Some, None, Result, Ok, Err}
use Rattle.std.specs.Bool.{MatchBool}
use Rattle.message_reading.specs.declared.error.ReadError.{ReadError}
use Rattle.message_reading.specs.declared.error.ReadError.TheVariants as errors
use Rattle.message_reading.specs.declared.query.Query.{Query}
use Rattle.message_reading.specs.Queries.{RefusesQuery}
use Rattle.message_tsig.specs.declared.key.Key.{Key}
use Rattle.message_tsig.specs.declared.tsig.Tsig.{Tsig}
use Rattle.zone_server.specs.declared.transport.Transport.{Transport}
use Rattle.transfer_messages.specs.declared.opening.Opened.{Opened}
use Rattle.transfer_messages.specs.declared.opening.Opened.TheVariants as opened
use Rattle.transfer_messages.specs.Opening.{IsAsked, IsOther, IsSigned, IsSignedRequest, IsUnsignedRequest, OpensSigned, OpensUnsigned}

module _ (t : Transport) where
  pub asked_read : (read : Result Query ReadError) (q : Query) (asked : Option Query) → read ≡ Ok q → IsAsked t (Ok q) asked → IsAsked t read asked
  asked_read read q asked e h = subst (λ (x : Result Query ReadError). IsAsked t x asked) (sym e) h

  refused : (read : Result Query ReadError) (e : ReadError) → read ≡ Err e → IsAsked t read None
  refused read e is = subst (λ (x : Result Query ReadError). IsAsked t x None) (sym is) tt

  -- what can't be read asks for nothing
  pub none_asked : (read : Result Query ReadError) (e : ReadError) → (e ≡ errors.Memory → ⊥) → RefusesQuery e read → IsAsked t read None
  none_asked read errors.NoHeader n h = refused read errors.NoHeader h
  none_asked read errors.NoQuery n h = refused read errors.NoQuery h
  none_asked read (errors.NotImplemented x) n h = refused read (errors.NotImplemented x) h
  none_asked read (errors.Malformed x) n h = refused read (errors.Malformed x) h
  none_asked read (errors.BadVersion q) n h = refused read (errors.BadVersion q) h
  none_asked read errors.Memory n h = absurd (n refl)

  pub unsigned_request : (message : List ℕ) (read : Result Query ReadError) (q : Query) (o : Opened) → IsAsked t read (Some q) → IsUnsignedRequest message q o → OpensUnsigned t message read o
  unsigned_request message read q o h r =
      subst (λ (x : Result Query ReadError). OpensUnsigned t message x o) (sym h.0)
      (subst (λ (b : Bool). MatchBool b (IsUnsignedRequest message q o) (IsOther o)) (sym h.1) r)

  pub unsigned_other : (message : List ℕ) (read : Result Query ReadError) → IsAsked t read None → OpensUnsigned t message read opened.Other
  unsigned_other message (Ok q) h = subst (λ (b : Bool). MatchBool b (IsUnsignedRequest message q opened.Other) (IsOther opened.Other)) (sym h) tt
  unsigned_other message (Err e) h = tt

  pub signed_request : (tsig : Tsig) (k : Key) (message : List ℕ) (read : Result Query ReadError) (q : Query) (o : Opened) → IsAsked t read (Some q) → IsSignedRequest tsig k message q o
      → OpensSigned t tsig k message read o
  signed_request tsig k message read q o h r =
      subst (λ (x : Result Query ReadError). OpensSigned t tsig k message x o) (sym h.0)
      (subst (λ (b : Bool). MatchBool b (IsSignedRequest tsig k message q o) (IsSigned tsig k message o)) (sym h.1) r)

  pub signed_other : (tsig : Tsig) (k : Key) (message : List ℕ) (read : Result Query ReadError) (o : Opened) → IsAsked t read None → IsSigned tsig k message o → OpensSigned t tsig k message read o
  signed_other tsig k message (Ok q) o h r = subst (λ (b : Bool). MatchBool b (IsSignedRequest tsig k message q o) (IsSigned tsig k message o)) (sym h) r
  signed_other tsig k message (Err e) o h r = r
