-- Records that are gathered for a message
use Rattle.std.specs.Prelude.{◌≡◌, ◌<◌, ◌≤◌, List, [], ◌++◌, length, map}
use Rattle.zone_proto.specs.declared.record.Record.{Record}
use Rattle.message_writing.specs.declared.response.Group.{Group}
use Rattle.message_writing.specs.Responses.{records_of}
use Rattle.zone_server.specs.Transfers.{one_by_one}

-- The first of some records were put behind groups, each by itself, up to where there are 4,096 groups; these are left, behind those that
-- were passed over because there were as many.
pub record Gathers (old new : List Group) (all left : List Record) : Type 0 where
  pub taken : List Record
  pub passed : List Record
  pub parts : all ≡ taken ++ (passed ++ left)
  pub put : map records_of new ≡ map records_of old ++ one_by_one taken
  pub room : length new < 4096 → passed ≡ []
  pub full : 4096 ≤ length old → taken ≡ []
