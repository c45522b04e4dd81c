use Rattle.zone_file_writer.proofs.moments.+month_within.Given as goal

abbrev pub decreases-month_within : goal.decreases-month_within
decreases-month_within l = l.months
