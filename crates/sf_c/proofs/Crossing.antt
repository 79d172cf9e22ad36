-- A handle may be moved to another thread if the contents of its box may.
use Rattle.std.proofs.Common.{[], ◌∷◌, Option, Some, None}
use mir.Raw.{raw}
use base.Shift.{Keyless}
use denote.Builtin.{RawPtr}
use denote.Memory.{lone}
use denote.RattleType.{RattleType}
use denote.RawPtr.{Ptr}
use denote.Param.Send.{IsSend, AllSend, sendable}
use Rattle.std.specs.Global.{Global}
use Rattle.std.specs.contracts.alloc.Global as heap
use Rattle.std.specs.contracts.impls.GlobalAllocator.TheImpl.{ghosts}
use Rattle.std.proofs.alloc.Global.TheSendSync as allocator
use Rattle.std.proofs.Crossing.{frees}
use Rattle.std_alloc.proofs.SendSync.{lies}
use Rattle.sf_c.specs.Owned.{box_owned}

pointer : IsSend RawPtr
pointer = search sendable

pub fields_send : AllSend (RawPtr ∷ heap.the_field.row ∷ [])
fields_send = (pointer, (allocator.the_field_send, tt))

pub owned_crosses : (R : RattleType) → IsSend R → (alloc : Global) (at : Ptr) (x : Option R.Denot) → Keyless (box_owned (ghosts.dealloc_token alloc) R at x)
owned_crosses R crosses alloc at None = tt
owned_crosses R crosses alloc at (Some x) = (lies R crosses at x, frees.frees alloc (raw (lone R.mir)) at)
