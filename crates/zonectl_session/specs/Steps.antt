-- What each command does to the session, and which reply it has
use Rattle.std.specs.Prelude.{◌≡◌, ◌⊎◌, ℕ, false, if◌then◌else◌, List, [], ◌∷◌, ◌++◌, Option, Some, None, is_some, Result, Ok, Err, MatchOption, unwrap_or}
use Rattle.std.specs.declared.string.String.{String}
use Rattle.std.specs.Option.{option_map_or}
use Rattle.std.specs.String.{string_bytes}
use Rattle.zone_proto.specs.declared.message.Query.{Query}
use Rattle.zone_proto.specs.declared.nx_proof_kind.NxProofKind.{NxProofKind}
use Rattle.zone_proto.specs.declared.nx_proof_kind.NxProofKind.TheVariants as kind
use Rattle.zone_proto.specs.declared.rdata.signing.RRSIG.{RRSIG}
use Rattle.zone_proto.specs.declared.record.Record.{Record}
use Rattle.zone_proto.specs.declared.rr_key.RrKey.{RrKey}
use Rattle.zone_proto.specs.Names.{Name}
use Rattle.zone_proto.specs.Signing.{SignedPart}
use Rattle.zone_proto.specs.Types.{IN, AXFR, NSEC, NSEC3}
use Rattle.zone_handler.specs.declared.auth_lookup.AuthLookup.{AuthLookup}
use Rattle.zone_handler.specs.declared.axfr_policy.AxfrPolicy.TheVariants.{AllowAll}
use Rattle.zone_handler.specs.declared.control_flow.LookupControlFlow.{LookupControlFlow}
use Rattle.zone_handler.specs.declared.control_flow.LookupControlFlow.TheVariants.{Continue, Break, Skip}
use Rattle.lookup_types.specs.declared.lookup_error.LookupError.{LookupError}
use Rattle.lookup_types.specs.declared.lookup_error.LookupError.TheVariants as lookup_error
use Rattle.lookup_types.specs.declared.lookup_options.LookupOptions.{LookupOptions}
use Rattle.lookup_types.specs.declared.nsec3_query_info.Nsec3QueryInfo.{Nsec3QueryInfo}
use Rattle.lookup_types.specs.declared.secure_error.SecureError.{SecureError}
use Rattle.zone_handler.specs.declared.zone_transfer.ZoneTransfer.{ZoneTransfer}
use Rattle.zone_handler.specs.declared.zone_type.ZoneType.TheVariants.{Primary}
use Rattle.zone_handler.specs.AuthLookup.{records_of, additionals_of}
use Rattle.zone_handler.specs.Transfers.{transfer_records}
use Rattle.zone_map.specs.DenialOwners.{denial_owners}
use Rattle.zone_map.specs.Upserts.{upserted}
use Rattle.zone_map.specs.Zones.{Sets, set_at, without}
use Rattle.zone_lookup.specs.StartOfAuthority.{serial}
use Rattle.zone_in_memory.specs.Handlers.{Zone}
use Rattle.zone_in_memory.specs.Lookup.{IsLookup}
use Rattle.zone_in_memory.specs.Nsec3Steps.{IsNsec3Answer}
use Rattle.zone_in_memory.specs.NsecAnswers.{IsNsecAnswer}
use Rattle.zone_in_memory.specs.Signing.{with_key, IsSecuring}
use Rattle.zone_in_memory.specs.Transfers.{plain, IsZoneTransfer}
use Rattle.zonectl_session.specs.declared.session.Served.{Served}
use Rattle.zonectl_commands.specs.declared.command.Command.{Command}
use Rattle.zonectl_commands.specs.declared.command.Command.TheVariants as command
use Rattle.zone_sha1.specs.declared.sha1_hash.Sha1Hash.{Sha1Hash}
use Rattle.zonectl_session.specs.DemoSigners.{Demo, demo_key, demo_signature}
use Rattle.zone_sha1.specs.Digests.{name_digest}
use Rattle.zonectl_session.specs.Replies.{Reply, yes, no, done, secured, refused, failed, broken_off, answered, proved, listed, transferred, reply_text, memory, secure_word, lookup_word}

-- the zone of the program: the demonstration signers sign it, and its names are hashed by SHA-1
abbrev pub DemoZone : Type 0
DemoZone = Zone Demo Sha1Hash

-- a signer's signature of a set, of any class, at a moment; and a digest of a name by algorithm, salt and iterations
abbrev pub signature_of : Demo → SignedPart → ℕ → ℕ → Option RRSIG
signature_of signer part class now = Some (demo_signature signer part now)

abbrev pub digest_of : Sha1Hash → ℕ → List ℕ → Name → ℕ → Option (List ℕ)
digest_of hash = name_digest

-- a zone without records and signers, of which the program is the source, and which anybody may have
abbrev pub empty_zone : Name → Option NxProofKind → DemoZone
empty_zone origin kind = record {
  origin = origin;
  class = IN;
  zone_type = Primary;
  axfr_policy = AllowAll;
  kind = kind;
  inner = record { records = []; signers = [] };
  hash = record {};
}

-- the demonstration signer of a number for a zone
abbrev pub signer_of : DemoZone → ℕ → Demo
signer_of zone number = record { number = number; origin = zone.origin }

-- the session with other sets in its zone, and with another zone
abbrev pub with_sets : Served → Sets → Served
with_sets s sets = record s { zone = record s.zone { inner = record s.zone.inner { records = sets } } }

abbrev pub with_zone : Served → DemoZone → Served
with_zone s zone = record s { zone = zone }

-- there isn't enough memory: the reply says so, and the session is as before
abbrev pub IsOutOfMemory : (List ℕ → Reply) → Served → Reply → Served → Type 0
IsOutOfMemory refusal old reply new = (reply ≡ refusal memory) × (new ≡ old)

module _ (old : Served) where
  -- `add`: the record is taken with the zone's serial, or isn't taken
  abbrev pub IsAdded : Record → Reply → Served → Type 0
  IsAdded r reply new =
      MatchOption (upserted old.zone.inner.records old.zone.class r (serial old.zone.inner.records old.zone.origin))
      ((reply ≡ no) × (new ≡ old)) (λ sets. (reply ≡ yes) × (new ≡ with_sets old sets))
      ⊎ IsOutOfMemory failed old reply new

  -- `drop`: the set that is under the key is taken out; doesn't allocate
  abbrev pub IsDropped : RrKey → Reply → Served → Type 0
  IsDropped key reply new =
      (reply ≡ (if is_some (set_at old.zone.inner.records key.name key.record_type.0) then yes else no))
      × (new ≡ with_sets old (without old.zone.inner.records key.name key.record_type.0))

  -- `kind`: the zone is made anew at its origin; the moment of the last `secure` stays
  abbrev pub IsRenewed : Option NxProofKind → Reply → Served → Type 0
  IsRenewed kind reply new = ((reply ≡ done) × (new ≡ with_zone old (empty_zone old.zone.origin kind))) ⊎ IsOutOfMemory failed old reply new

  -- `key`: the signer and its key are added
  abbrev pub IsKeyed : ℕ → Reply → Served → Type 0
  IsKeyed number reply new =
      let signer = signer_of old.zone number in
      ((reply ≡ done) × (new ≡ with_zone old (with_key old.zone signer (demo_key signer)))) ⊎ IsOutOfMemory refused old reply new

  -- what `secure` tells: the serial that the zone has then, and the moment is kept; or why not, and the session is as before
  abbrev pub RepliesSecured : ℕ → Result (Unit {0}) SecureError → Reply → Served → Type 0
  RepliesSecured now (Ok _) reply new = (reply ≡ secured (serial new.zone.inner.records new.zone.origin)) × (new.moment ≡ now)
  RepliesSecured now (Err e) reply new = (reply ≡ refused (secure_word e)) × (new ≡ old)

  -- `secure`: the zone is secured at the moment, or that is refused
  abbrev pub IsSecuredAt : ℕ → Reply → Served → Type 0
  IsSecuredAt now reply new = (result : Result (Unit {0}) SecureError) × IsSecuring signature_of digest_of old.zone now result new.zone × RepliesSecured now result reply new

-- the additional records of an answer, none if it has no such section
abbrev pub additionals_beside : AuthLookup → List Record
additionals_beside found = unwrap_or (additionals_of found) []

-- an answer, and a step of a lookup, as a reply
abbrev pub found_reply : AuthLookup → Reply
found_reply found = answered (records_of found) (additionals_beside found)

abbrev pub lookup_reply : LookupControlFlow AuthLookup LookupError → Reply
lookup_reply (Continue (Ok found)) = found_reply found
lookup_reply (Break (Ok found)) = found_reply found
lookup_reply (Continue (Err e)) = failed (lookup_word e)
lookup_reply (Break (Err e)) = broken_off (lookup_word e)
lookup_reply Skip = answered [] []

-- the answer to a query for a denial, and to one for a transfer
abbrev pub denial_reply : Result AuthLookup LookupError → Reply
denial_reply (Ok proof) = proved (records_of proof)
denial_reply (Err e) = failed (lookup_word e)

abbrev pub transfer_reply : Result ZoneTransfer LookupError → Reply
transfer_reply (Ok transfer) = transferred (transfer_records transfer)
transfer_reply (Err e) = failed (lookup_word e)

-- what is asked to deny a key by NSEC3: its name and type, which no wildcard answered, with the parameters of the zone's kind
pub record AsksFor (key : RrKey) (algorithm : ℕ) (salt : List ℕ) (iterations : ℕ) (query : Nsec3QueryInfo) : Type 0 where
  pub name : query.qname.now ≡ key.name
  pub record_type : query.qtype ≡ key.record_type
  pub wildcard : query.has_wildcard_match ≡ false
  pub algorithm' : query.algorithm ≡ algorithm
  pub salt' : query.salt.now ≡ salt
  pub iterations' : query.iterations ≡ iterations

-- what a zone of a kind answers to it, without signatures: NSEC3 records if it is of that kind, else NSEC records
abbrev pub IsDenialOf : DemoZone → RrKey → Option NxProofKind → LookupControlFlow AuthLookup LookupError → Type 0
IsDenialOf zone key (Some (kind.Nsec3 algorithm salt iterations opt_out)) step =
    (query : Nsec3QueryInfo) × AsksFor key algorithm salt iterations query × IsNsec3Answer digest_of zone query plain step
IsDenialOf zone key _ step = IsNsecAnswer zone key.name plain step

-- the query for a transfer of a zone (AXFR, RFC 5936 section 2.1)
abbrev pub transfer_query : Name → Query
transfer_query origin = record { name = origin; query_type = record { 0 = AXFR }; query_class = record { 0 = IN } }

-- the type of the sets by which a zone of a kind denies, and their owners
abbrev pub denial_type : Option NxProofKind → Option ℕ
denial_type None = None
denial_type (Some kind.Nsec) = Some NSEC
denial_type (Some (kind.Nsec3 algorithm salt iterations opt_out)) = Some NSEC3

abbrev pub circle_owners : DemoZone → List Name
circle_owners zone = option_map_or (denial_owners zone.inner.records) (denial_type zone.kind) []

module _ (session : Served) where
  -- `lookup`: what the zone answers at the moment of the last `secure`
  abbrev pub IsLookedUp : Name → ℕ → LookupOptions → Reply → Type 0
  IsLookedUp name t options reply =
      (step : LookupControlFlow AuthLookup LookupError) × IsLookup signature_of session.zone name t options session.moment step × (reply ≡ lookup_reply step)

  -- `deny`: the records that deny the name or its type
  abbrev pub IsDenied : RrKey → Reply → Type 0
  IsDenied key reply = (answer : Result AuthLookup LookupError) × IsDenialOf session.zone key session.zone.kind (Continue answer) × (reply ≡ denial_reply answer)

  -- `circle`: the owners, or no memory for their text
  abbrev pub IsCircled : Reply → Type 0
  IsCircled reply = (reply ≡ listed (circle_owners session.zone)) ⊎ (reply ≡ failed memory)

  -- what the zone answers to a query for its transfer at the moment of the last `secure`, unless there isn't enough
  -- memory for the query
  abbrev pub IsTransferAnswer : LookupOptions → Result ZoneTransfer LookupError → Type 0
  IsTransferAnswer options answer =
      IsZoneTransfer signature_of session.zone (transfer_query session.zone.origin ∷ []) options session.moment (Some (answer, None)) ⊎ (answer ≡ Err lookup_error.Memory)

  -- `transfer`: the zone's records, or why there are none
  abbrev pub IsTransferred : LookupOptions → Reply → Type 0
  IsTransferred options reply = (answer : Result ZoneTransfer LookupError) × IsTransferAnswer options answer × (reply ≡ transfer_reply answer)

-- of the session before, a command, the reply to it, and the session after
abbrev pub IsStep : Served → Command → Reply → Served → Type 0
IsStep old (command.Add r) reply new = IsAdded old r reply new
IsStep old (command.Drop key) reply new = IsDropped old key reply new
IsStep old (command.Kind kind) reply new = IsRenewed old kind reply new
IsStep old (command.Key number) reply new = IsKeyed old number reply new
IsStep old (command.Secure now) reply new = IsSecuredAt old now reply new
IsStep old (command.Lookup name record_type options) reply new = IsLookedUp old name record_type.0 options reply × (new ≡ old)
IsStep old (command.Deny key) reply new = IsDenied old key reply × (new ≡ old)
IsStep old command.Circle reply new = IsCircled old reply × (new ≡ old)
IsStep old (command.Transfer options) reply new = IsTransferred old options reply × (new ≡ old)

-- the text of a reply comes after the text before
abbrev pub Adds : (Reply → Type 0) → List ℕ → List ℕ → Type 0
Adds IsReply before after = (reply : Reply) × IsReply reply × (after ≡ before ++ reply_text reply)

-- the same of what a buffer of text holds before and after
abbrev pub AddsTo : {Z : Type 0} → (Reply → Type 0) → String Z → String Z → Type 0
AddsTo IsReply old new = Adds IsReply (string_bytes old) (string_bytes new)

-- a command is carried out: of the session before, the command, the text before, the text after, and the session after
abbrev pub Carries : Served → Command → List ℕ → List ℕ → Served → Type 0
Carries old command before after new = Adds (λ reply. IsStep old command reply new) before after
