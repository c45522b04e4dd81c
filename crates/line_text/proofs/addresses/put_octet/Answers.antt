use Rattle.std.proofs.Common.{arith}
use Rattle.std.proofs.lemmas.List.{append_assoc}
use Rattle.line_text.proofs.AddressTexts.{tens, hundreds}
use Rattle.line_text.proofs.addresses.put_octet.Goals as goal

pub returns-then-octet-ge100-clause-text : goal.returns-then-octet-ge100-clause-text
returns-then-octet-ge100-clause-text c =
    rw (
      c.put_digit.ensures.text,
      c.put_digit-end-then-octet-ge100.ensures.text,
      c.put_digit-end.ensures.text,
      append_assoc,
      append_assoc,
      hundreds c.args.octet (omega (arith, c.if-octet-ge100.true)) c.ranges.octet.fits,
    )

pub returns-then-octet-ge10-clause-text : goal.returns-then-octet-ge10-clause-text
returns-then-octet-ge10-clause-text c =
    rw (
      c.put_digit-then-octet-ge10.ensures.text,
      c.put_digit-end-then-octet-ge10.ensures.text,
      append_assoc,
      tens c.args.octet (omega (arith, c.if-octet-ge10.true)) (omega (arith, c.if-octet-ge100.false)),
    )
