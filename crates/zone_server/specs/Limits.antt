-- How many octets a response may have
use Rattle.std.specs.Prelude.{ℕ, min, Option}
use Rattle.message_reading.specs.declared.query.Extension.{Extension}
use Rattle.message_reading.specs.Queries.{limit_of}
use Rattle.zone_server.specs.declared.transport.Transport.{Transport}
use Rattle.zone_server.specs.declared.transport.Transport.TheVariants as transports

-- How many octets the server sends in one datagram, and says that it takes: the 1,280 that every link of IPv6 takes whole (RFC 8200
-- section 5), without the 48 of the headers of IPv6 and UDP.
abbrev pub datagram_size : ℕ
datagram_size = 1232

-- Over UDP 512 where the query has no OPT record, and else the least of what the client takes, what the way takes and
-- what the server sends, but 512 at least (RFC 1035 section 4.2.1, RFC 6891 sections 6.2.3 to 6.2.5). Over TCP as many
-- as two octets count (RFC 1035 section 4.2.2).
abbrev pub limit_for : Transport → Option Extension → ℕ
limit_for (transports.Udp limit) extension = limit_of extension (min limit datagram_size)
limit_for transports.Tcp extension = 65535
