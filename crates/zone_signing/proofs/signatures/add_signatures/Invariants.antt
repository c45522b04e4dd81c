use Rattle.std.proofs.Common.{◌≡◌, ◌++◌, take}
use Rattle.zone_signing.specs.Signatures.{signatures}
use Rattle.zone_signing.proofs.signatures.add_signatures.Given as goal

-- behind those that were there are the signatures of the signers passed
abbrev pub invariant-loop-signer : goal.invariant-loop-signer
invariant-loop-signer g l = l.made ≡ l.fn.made ++ signatures g.S.Signer.signature_of l.now (take l.signer-index l.signers) l.set
