-- What is said of servers: each law is said of any, so that it can be seen to be false of a wrong one
use Rattle.zone_response.specs.Queries.{Zone, Query}
use Rattle.zone_response.specs.Sections.{Sections}

-- the sections that a server sends to a query of a zone
abbrev pub Server : Type 1
Server = Zone → Query → Sections → Type 0
