-- What a call that writes out answers and leaves.
use mathlib.Core.Path.{◌≡◌}
use Prim.Native.Nat.{ℕ, ◌≤◌, ◌<◌}
use native.Mathlib.Omega.{arith}
use mathlib.Core.List.{List}
use lib.ListN.{length}
use borrow.Author.Tests.{lt-leb, le-leb}
use Rattle.buffer.specs.Over.{over}
use Rattle.fields.specs.declared.refusal.Refusal.TheVariants.{ShortBuffer}
use Rattle.store.specs.Calls.{penned, penned_to}
use Rattle.std.specs.Prelude.{Ok, Err}

module _ (x s : List ℕ) (n : ℕ) (l : n ≡ length x) where
  -- into a buffer that is too short, and into one that is not
  pub penned-short : length s < n → penned (Err ShortBuffer) s ≡ penned_to x s
  unfolding penned_to
  penned-short k = let t = lt-leb (length x) (length s) (omega arith) in rw t

  pub penned-whole : (s' : List ℕ) → n ≤ length s → s' ≡ over s 0 x → penned (Ok n) s' ≡ penned_to x s
  unfolding penned_to
  penned-whole s' k q = let t = le-leb (length x) (length s) (omega arith) in rw t (λ i. penned (Ok (l i)) (q i))
