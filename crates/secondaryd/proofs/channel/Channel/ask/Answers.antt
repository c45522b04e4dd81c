-- The answer to a signed question begins with the MAC of the question.
use Rattle.secondaryd.proofs.ChannelFacts.{signed_is_open}
use Rattle.secondaryd.proofs.channel.Channel.ask.Goals as goal

pub returns-in_ok-transfer-in-Signed-clause-opened : goal.returns-in_ok-transfer-in-Signed-clause-opened
returns-in_ok-transfer-in-Signed-clause-opened c =
    signed_is_open c.args.self.now c.in-Signed.key c.in-Signed.answer c.in_ok-transfer-in-Signed.transfer c.args.asked c.args.now
    c.in_ok-query.query.items c.as_slice.result.now c.in_ok-signed-in-Signed.signed.mac.items c.as_slice-in-Signed.result.now
    c.in-Signed.is c.in_ok-query.ensures c.as_slice.ensures.value c.in_ok-signed-in-Signed.ensures.mac
    c.as_slice-in-Signed.ensures.value c.in_ok-transfer-in-Signed.ensures
