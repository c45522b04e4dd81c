use Rattle.std.proofs.Common.{◌≡◌, map, take}
use Rattle.std.specs.List.{fold}
use Rattle.zone_texts.specs.FileNames.{begin, entered}
use Rattle.zone_texts.proofs.names.resolved.Given as goal

-- the parts so far were entered
abbrev pub invariant-loop-part : goal.invariant-loop-part
invariant-loop-part l = map (λ part. part.now) l.path.items ≡ fold entered (map (λ part. part.now) l.initial.path.items) (map (λ part. part.now) (take l.part-index l.part-items))
