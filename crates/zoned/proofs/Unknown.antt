-- Of the files of journals nothing is known
use Rattle.std.proofs.Common.{Bool, true, false}
use Rattle.std.specs.Prelude.{None}
use Rattle.updating_frames.specs.Journals.{Entry, Takes}

pub taken_unknown : (taken : Bool) (e : Entry) → Takes None None taken e
taken_unknown true e = tt
taken_unknown false e = tt
