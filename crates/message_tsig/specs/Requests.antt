-- Requests signed (RFC 8945 section 5.1)
use Rattle.std.specs.Prelude.{ℕ, List}
use Rattle.message_tsig.specs.declared.key.Key.{Key}
use Rattle.message_tsig.specs.declared.tsig.Tsig.{Tsig}
use Rattle.message_tsig.specs.Keys.{algorithm_name}
use Rattle.message_tsig.specs.Signing.{stamp, with_tsig}
use Rattle.message_tsig.specs.Texts.{short_at}
use Rattle.message_tsig.specs.Tsigs.{request_text}
use Rattle.message_tsig.specs.Verdicts.{mac_under}

-- the TSIG of a request under a key at a moment, without its MAC: the original identifier is that of the request
abbrev pub request_stamp : Key → ℕ → ℕ → List ℕ → Tsig
request_stamp k now fudge message =
    record (stamp k.name (algorithm_name k.algorithm) (short_at 0 message) now 0) { fudge = fudge }

abbrev pub request_mac : Key → ℕ → ℕ → List ℕ → List ℕ
request_mac k now fudge message = mac_under k (request_text (request_stamp k now fudge message) message)

-- the request with its TSIG
abbrev pub signed_request : Key → ℕ → ℕ → List ℕ → List ℕ
signed_request k now fudge message =
    with_tsig message (record (request_stamp k now fudge message) { mac = request_mac k now fudge message })
