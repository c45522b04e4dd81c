use Rattle.message_tsig.proofs.response_checker.ResponseChecker.check.Goals as goal

pub returns-in_ok-rest-in-Last-clause-next : goal.returns-in_ok-rest-in-Last-clause-next
returns-in_ok-rest-in-Last-clause-next c = c.check_tsig.ensures.next c.args.message.now
