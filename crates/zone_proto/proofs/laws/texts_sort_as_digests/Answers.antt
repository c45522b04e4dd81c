use Rattle.zone_proto.proofs.Ordering.Base32Order.{texts_sort, owners_sort}
use Rattle.zone_proto.proofs.laws.texts_sort_as_digests.Goals as goal

pub returns : goal.returns
returns c = record { texts = texts_sort; owners = owners_sort }
