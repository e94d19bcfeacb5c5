-- A new controller, seen as boxes.
use mathlib.Core.Path.{◌≡◌}
use Prim.Native.Nat.{ℕ, ◌%◌, ◌≤◌}
use native.Mathlib.Omega.{arith}
use mathlib.Core.List.{List}
use Rattle.registers.specs.Boxes.{setting_of, new_world}
use Rattle.registers.specs.View.{inside_of, front_of, world_of}
use Rattle.floppy.specs.Calls.{new_floppy}

-- bit 0 of bit 0
twice : (n : ℕ) → n % 2 % 2 ≡ n % 2
twice n = omega arith

-- and it has a meaning
pub setting-few : (n : ℕ) → (new_floppy n).regs.setting ≤ 1
unfolding new_floppy
setting-few n = omega arith

-- every box is as in a new world
pub new-seen : (n : ℕ) (t d x : List ℕ) → world_of (new_floppy n).regs (new_floppy n).held t d x ≡ new_world (setting_of n)
unfolding new_floppy new_world inside_of front_of
new-seen n t d x = rw (twice n)
