-- The pieces that are read make an event.
use Rattle.secondaryd.proofs.FrameFacts.{event_read}
use Rattle.secondaryd.proofs.frames.read_event.Goals as goal

pub returns : goal.returns
returns g c =
    let before = g.R.Read.remaining c.args.input.now in
    let behind_kind = g.R.Read.remaining c.read_kind.new.input in
    event_read before behind_kind (g.R.Read.remaining c.read_moment.new.input) (g.R.Read.remaining c.read_count.new.input)
    (g.R.Read.remaining c.read_octets.new.input) c.in_ok-count.count _ (rw c.in-Some.is at c.in_ok-kind.ensures) c.in_ok-moment.ensures
    c.in_ok-count.ensures c.in_ok-octets.ensures.size c.in_ok-octets.ensures.octets
