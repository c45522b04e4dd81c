use Rattle.message_cookies.proofs.Law.{is_taken}
use Rattle.message_cookies.proofs.making.make_cookie.Goals as goal

pub returns-clause-valid : goal.returns-clause-valid
returns-clause-valid c = rw c.in_ok-cookie.ensures (is_taken c.args.secret c.args.client.now c.args.address.now c.args.now
    c.requires c.ranges.now.fits)
