-- What a handle holds
use Rattle.std.specs.Prelude.{Option, Some, None}
use base.Fml.{Fml, ftrue, ffalse}
use denote.RattleType.{RattleType}
use denote.RawPtr.{Ptr, null_ptr, block_ptr}
use Rattle.std.specs.declared.alloc.Global.{Global}
use Rattle.std.specs.contracts.impls.GlobalAllocator.TheImpl.{ghosts}
use Rattle.std_alloc.specs.Box.Ownership.{box_owns}

-- what the owner of a handle may do with the memory at its pointer: nothing at null; else read, write and free the block that the value
-- lies in, and nobody else may
abbrev pub owns_held : (R : RattleType) → Global → Ptr → Option R.Denot → Fml
owns_held R alloc null_ptr None = ftrue
owns_held R alloc null_ptr (Some value) = ffalse
owns_held R alloc (block_ptr b o) None = ffalse
owns_held R alloc (block_ptr b o) (Some value) = box_owns (ghosts.dealloc_token alloc) R (block_ptr b o) value
