use Rattle.zone_file_writer.proofs.moments.+days_in_months.Given as goal

abbrev pub decreases-days_in_months : goal.decreases-days_in_months
decreases-days_in_months l = l.months
