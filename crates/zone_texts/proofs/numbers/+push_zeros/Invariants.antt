use Rattle.zone_texts.proofs.numbers.+push_zeros.Given as goal

abbrev pub decreases-push_zeros : goal.decreases-push_zeros
decreases-push_zeros l = l.count
