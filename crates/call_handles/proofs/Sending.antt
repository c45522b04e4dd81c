-- What a handle holds says the same to every thread, if a value does.
use mir.Raw.{raw}
use base.Shift.{Keyless}
use base.Fraction.{full_share}
use denote.Memory.{lone}
use denote.RattleType.{RattleType}
use denote.RawPtr.{Ptr, block_ptr, null_ptr}
use denote.Param.Send.{IsSend, part_keyless}
use Rattle.std.proofs.Crossing.{frees}
use Rattle.std.specs.Prelude.{Option, Some, None}
use Rattle.std.specs.declared.alloc.Global.{Global}
use Rattle.call_handles.specs.Holding.{owns_held}

pub held_keyless : (R : RattleType) → IsSend R → (a : Global) (p : Ptr) (held : Option R.Denot) → Keyless (owns_held R a p held)
held_keyless R send a null_ptr None = tt
held_keyless R send a null_ptr (Some x) = tt
held_keyless R send a (block_ptr b o) None = tt
held_keyless R send a (block_ptr b o) (Some x) = (part_keyless R send full_share x b o, frees.frees a (raw (lone R.mir)) (block_ptr b o))
