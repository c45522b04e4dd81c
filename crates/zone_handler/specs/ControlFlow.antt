-- What a step of a chain of handlers answers, by case
use Rattle.std.specs.Prelude.{◌≡◌, MatchResult, IsOkAnd, IsErrAnd, Bool, true, false, Option, Some, None, Result, Ok, Err, List, ℕ, codes}
use Rattle.zone_handler.specs.declared.control_flow.LookupControlFlow.{LookupControlFlow}
use Rattle.zone_handler.specs.declared.control_flow.LookupControlFlow.TheVariants.{Continue, Break, Skip}

-- the next handler may be asked
abbrev pub is_continue : {T E : Type 0} → LookupControlFlow T E → Bool
is_continue (Continue r) = true
is_continue (Break r) = false
is_continue Skip = false

-- this answer is final
abbrev pub is_break : {T E : Type 0} → LookupControlFlow T E → Bool
is_break (Continue r) = false
is_break (Break r) = true
is_break Skip = false

-- the result inside, whichever of the two cases holds it; none for Skip
abbrev pub inner_result : {T E : Type 0} → LookupControlFlow T E → Option (Result T E)
inner_result (Continue r) = Some r
inner_result (Break r) = Some r
inner_result Skip = None

-- the answer inside, if there is one
abbrev pub ok_value : {T E : Type 0} → LookupControlFlow T E → Option T
ok_value (Continue (Ok x)) = Some x
ok_value (Break (Ok x)) = Some x
ok_value _ = None

-- the error inside, if there is one
abbrev pub err_value : {T E : Type 0} → LookupControlFlow T E → Option E
err_value (Continue (Err e)) = Some e
err_value (Break (Err e)) = Some e
err_value _ = None

-- the same case, with results inside that are related
abbrev pub KeepsCase : {T E U D : Type 0} → (Result T E → Result U D → Type 0) → LookupControlFlow T E → LookupControlFlow U D → Type 0
KeepsCase {U = U} {D = D} Related (Continue old) flow = (new : Result U D) × Related old new × (flow ≡ Continue new)
KeepsCase {U = U} {D = D} Related (Break old) flow = (new : Result U D) × Related old new × (flow ≡ Break new)
KeepsCase Related Skip flow = flow ≡ Skip

-- an answer becomes one that the closure may give for it, and an error stays
abbrev pub MapsOk : {T E U : Type 0} → (T → U → Type 0) → Result T E → Result U E → Type 0
MapsOk gives old new = MatchResult old (λ x. IsOkAnd new (gives x)) (λ e. new ≡ Err e)

-- an error becomes one that the closure may give for it, and an answer stays
abbrev pub MapsErr : {T E D : Type 0} → (E → D → Type 0) → Result T E → Result T D → Type 0
MapsErr gives old new = MatchResult old (λ x. new ≡ Ok x) (λ e. IsErrAnd new (gives e))

-- the text of a step: its case, and whether it holds an answer or an error
abbrev pub flow_text : {T E : Type 0} → LookupControlFlow T E → List ℕ
flow_text (Continue (Ok x)) = codes "LookupControlFlow::Continue(Ok)"
flow_text (Continue (Err e)) = codes "LookupControlFlow::Continue(Err)"
flow_text (Break (Ok x)) = codes "LookupControlFlow::Break(Ok)"
flow_text (Break (Err e)) = codes "LookupControlFlow::Break(Err)"
flow_text Skip = codes "LookupControlFlow::Skip"
