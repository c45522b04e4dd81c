-- Commands carried out by the calls of the zone
use Rattle.std.proofs.Common.{◌≡◌, ℕ, Bool, Option, Some, None, Result, Ok, Err, OnOk, OnErr, refl, ap, ◌∙◌, sym, subst, inl, inr, ◌⊎◌, [], codes}
use Rattle.std.specs.Prelude.{is_some, unwrap_or, MatchOption, if◌then◌else◌}
use Rattle.std.specs.Option.{option_map, option_map_or}
use Rattle.std.specs.Fmt.{digits}
use Rattle.zone_handler.specs.declared.key_error.KeyError.{KeyError}
use Rattle.zone_proto.specs.declared.rdata.signing.DNSKEY.{DNSKEY}
use Rattle.zone_proto.specs.declared.record.Record.{Record}
use Rattle.zone_proto.specs.declared.record_type.RecordType.{RecordType}
use Rattle.zone_map.specs.DenialOwners.{denial_owners}
use Rattle.zone_map.specs.Upserts.{upserted}
use Rattle.zone_map.specs.Zones.{Sets}
use Rattle.zone_lookup.specs.declared.zone_error.ZoneError.{ZoneError}
use Rattle.zone_lookup.specs.StartOfAuthority.{serial}
use Rattle.zone_in_memory.specs.Insertions.{IsUpsert}
use Rattle.zone_in_memory.specs.Signing.{with_key, IsKeyAdded}
use Rattle.zonectl_session.specs.declared.session.Served.{Served}
use Rattle.zonectl_session.specs.DemoSigners.{Demo, demo_key}
use Rattle.zonectl_session.specs.Replies.{yes, no, done, refused, failed, listed, memory, reply_text}
use Rattle.zonectl_session.specs.Steps.{DemoZone, circle_owners, denial_type, signer_of, with_sets, with_zone, IsOutOfMemory, IsAdded, IsKeyed}

-- a record that was taken, or wasn't
taken_or_not : (old : Served) (new : DemoZone) (made : Option Sets) (taken : Bool) → taken ≡ is_some made
    → new ≡ record old.zone { inner = record old.zone.inner { records = unwrap_or made old.zone.inner.records } }
    → MatchOption made (((if taken then yes else no) ≡ no) × (with_zone old new ≡ old)) (λ sets. ((if taken then yes else no) ≡ yes) × (with_zone old new ≡ with_sets old sets))
taken_or_not old new None taken is after = (ap (λ b. if b then yes else no) is, ap (with_zone old) after)
taken_or_not old new (Some sets) taken is after = (ap (λ b. if b then yes else no) is, ap (with_zone old) after)

pub add_taken : (old : Served) (new : DemoZone) (r : Record) (n : ℕ) (taken : Bool) → n ≡ serial old.zone.inner.records old.zone.origin
    → IsUpsert old.zone r n (Ok taken) new → IsAdded old r (if taken then yes else no) (with_zone old new)
add_taken old new r n taken is_serial upsert =
    subst (λ (k : ℕ). MatchOption (upserted old.zone.inner.records old.zone.class r k) (((if taken then yes else no) ≡ no) × (with_zone old new ≡ old)) (λ sets. ((if taken then yes else no) ≡ yes) × (with_zone old new ≡ with_sets old sets)) ⊎ IsOutOfMemory failed old (if taken then yes else no) (with_zone old new))
    is_serial (inl (taken_or_not old new (upserted old.zone.inner.records old.zone.class r n) taken upsert.answer upsert.after))

pub add_refused : (old : Served) (new : DemoZone) (r : Record) (n : ℕ) (result : Result Bool ZoneError) (e : ZoneError) → result ≡ Err e → IsUpsert old.zone r n result new → IsAdded old r (failed memory) (with_zone old new)
add_refused old new r n result e is upsert = inr (refl, ap (with_zone old) (subst (λ res. OnErr res (new ≡ old.zone)) is upsert.same))

-- a demonstration signer has its key
the_key : (signer : Demo) (key : DNSKEY) → Some (demo_key signer) ≡ Some key → demo_key signer ≡ key
the_key signer key is = cc

pub key_added : (old : Served) (new : DemoZone) (number : ℕ) (signer : Demo) → signer ≡ signer_of old.zone number
    → (result : Result (Unit {0}) KeyError) (x : Unit {0}) → result ≡ Ok x → IsKeyAdded (λ s. Some (demo_key s)) old.zone signer result new → IsKeyed old number done (with_zone old new)
key_added old new number signer made result x is added =
    let h = subst (λ (res : Result (Unit {0}) KeyError). OnOk res ((key : DNSKEY) × (Some (demo_key signer) ≡ Some key) × (new ≡ with_key old.zone signer key))) is added.ok in
    inl (refl, ap (with_zone old) (h.2 ∙ ap (with_key old.zone signer) (sym (the_key signer h.0 h.1)) ∙ ap (λ (s : Demo). with_key old.zone s (demo_key s)) made))

pub key_refused : (old : Served) (new : DemoZone) (number : ℕ) (signer : Demo) (result : Result (Unit {0}) KeyError) (e : KeyError) → result ≡ Err e
    → IsKeyAdded (λ s. Some (demo_key s)) old.zone signer result new → IsKeyed old number (refused memory) (with_zone old new)
key_refused old new number signer result e is added =
    let same : new ≡ old.zone = subst (λ (res : Result (Unit {0}) KeyError). OnErr res (new ≡ old.zone)) is added.same in
    inr (refl, ap (with_zone old) same)

-- the owners that a zone of a kind lists, where its kind has a type of denial, and where it has none
pub owners_of_type : (zone : DemoZone) (found : Option RecordType) (t : RecordType) → option_map (λ u. u.0) found ≡ denial_type zone.kind → found ≡ Some t
    → circle_owners zone ≡ denial_owners zone.inner.records t.0
owners_of_type zone found t is found_is =
    ap (λ (u : Option ℕ). option_map_or (denial_owners zone.inner.records) u []) (sym is ∙ ap (option_map (λ (u : RecordType). u.0)) found_is)

pub owners_of_none : (zone : DemoZone) (found : Option RecordType) → option_map (λ u. u.0) found ≡ denial_type zone.kind → found ≡ None → circle_owners zone ≡ []
owners_of_none zone found is found_is =
    ap (λ (u : Option ℕ). option_map_or (denial_owners zone.inner.records) u []) (sym is ∙ ap (option_map (λ (u : RecordType). u.0)) found_is)

-- the text of a circle without owners
pub none_listed : codes "circle 0\n" ≡ reply_text (listed [])
unfolding digits
none_listed = refl
