-- A device that keeps its bytes in memory.
-- For proofs alone: no public contract rests on it.
use Rattle.std.specs.Prelude.{ℕ, ◌-◌, Vec, vec_len, vec_capacity}
use Rattle.std.specs.declared.alloc.Global.{Global}
use Rattle.translog.specs.declared.memory.MemDevice.{MemDevice}

-- how many bytes can be appended without growth
abbrev pub room_in : Vec ℕ Global → ℕ
room_in bytes = vec_capacity bytes - vec_len bytes

abbrev pub spare : MemDevice → ℕ
spare m = room_in m.bytes
