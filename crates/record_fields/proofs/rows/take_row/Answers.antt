use Rattle.std.proofs.Common.{rules, ◌≡◌, ◌∷◌, Result, Ok, Err, sym, subst}
use Rattle.std.specs.Prelude.{IsErrAnd}
use Rattle.record_fields.specs.declared.fault.Fault.{Fault}
use Rattle.record_fields.specs.declared.fault.ReadError.{ReadError}
use Rattle.record_fields.specs.Readings.{Fails, Gives}
use Rattle.record_fields.specs.Rows.{fields_of, next_row}
use Rattle.record_fields.proofs.RowFacts.{row_fails}
use Rattle.record_fields.proofs.rows.take_row.Goals as goal

handed_on : {X Y : Type 0} (view : X → Y) (r : Result X ReadError) (read : Result Y Fault) (e : ReadError) → IsErrAnd r (λ k. k ≡ e) → Fails e read → Gives view r read
handed_on view (Ok x) read e h p = absurd h
handed_on view (Err k) read e h p = subst (λ (x : ReadError). Fails x read) (sym h) p

pub returns-in_err-push_field : goal.returns-in_err-push_field
returns-in_err-push_field c =
    let fields : fields_of c.loop-field.left ≡ c.in-Some.field ∷ fields_of c.in-Some.others = search rules in
    let fails : Fails c.in_err-push_field.field-0.0 (next_row c.args.origin.now c.args.row.now c.args.words.now) =
    row_fails c.loop-field.octets.items c.args.origin.now c.in-Some.field (fields_of c.loop-field.left) (fields_of c.in-Some.others) c.args.row.now.2 c.loop-field.words
    (next_row c.args.origin.now c.args.row.now c.args.words.now) c.in_err-push_field.field-0.0 fields c.loop-field.invariant c.in_err-push_field.ensures in
    handed_on _ c.from_residual.result (next_row c.args.origin.now c.args.row.now c.args.words.now) c.in_err-push_field.field-0.0 c.from_residual.ensures.1 fails
