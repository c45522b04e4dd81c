-- Texts of replies, computed by their definitions
use Rattle.std.proofs.Common.{◌≡◌, [], ◌∷◌, codes, refl}
use Rattle.std.specs.Fmt.{digits}
use Rattle.zone_proto.specs.declared.rdata.RData.TheVariants as V
use Rattle.zone_proto.specs.declared.record.Record.{Record}
use Rattle.lookup_types.specs.declared.lookup_error.LookupError.TheVariants as lookup_error
use Rattle.lookup_types.specs.declared.secure_error.SecureError.TheVariants as secure_error
use Rattle.zone_proto.specs.declared.response_code.ResponseCode.TheVariants as code
use Rattle.zonectl_session.specs.Replies.{yes, secured, refused, failed, answered, listed, reply_text, secure_word, lookup_word}

-- `add www.example.com. 60 A 192.0.2.1`
taken : reply_text yes ≡ codes "yes\n"
taken = refl

-- the record of this line is asked for
www : Record
www = record { name = codes "www" ∷ codes "example" ∷ codes "com" ∷ []; dns_class = record { 0 = 1 }; ttl = 60; rdata = V.A (192 ∷ 0 ∷ 2 ∷ 1 ∷ []) }

found : reply_text (answered (www ∷ []) []) ≡ codes "answer 1\nwww.example.com. 60 IN A 192.0.2.1\nadditional 0\n"
unfolding digits www
found = refl

no_name : reply_text (failed (lookup_word (lookup_error.ResponseCode code.NXDomain))) ≡ codes "error NXDomain\n"
no_name = refl

second_serial : reply_text (secured 2) ≡ codes "ok 2\n"
unfolding digits
second_serial = refl

too_late : reply_text (refused (secure_word secure_error.TimeOutOfRange)) ≡ codes "refused TimeOutOfRange\n"
too_late = refl

no_owners : reply_text (listed []) ≡ codes "circle 0\n"
unfolding digits
no_owners = refl
