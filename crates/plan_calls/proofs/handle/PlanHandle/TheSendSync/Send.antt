-- What a handle holds says the same to every thread.
use denote.Param.Send.{IsSend, owning_send, struct_send, sendable}
use denote.Builtin.{RawPtr}
use denote.Struct.Struct.{exits_of}
use denote.Struct.Owning.{shape, fields, to}
use Rattle.std_alloc.proofs.SendSync.{quiet}
use Rattle.std.proofs.alloc.Global.TheSendSync as global
use Rattle.call_handles.proofs.Sending.{held_keyless}
use Rattle.plan_calls.proofs.signing_plan.SigningPlan.TheSendSync.{the_send}
use Rattle.plan_calls.specs.contracts.signing_plan.SigningPlan as signing_plan
use Rattle.plan_calls.specs.contracts.handle.PlanHandle.{the_row, the_type}

pub send : IsSend the_row
send = let ps : IsSend RawPtr = search sendable in
    owning_send the_type (ps, (global.the_field_send, tt)) (λ d. held_keyless signing_plan.the_row the_send d.alloc d.ptr d.held)
    (λ k. quiet (to the_type) (exits_of k (fields the_type)) ((struct_send (shape the_type) (ps, (global.the_field_send, tt))).leaving k))
