-- The table of commands, for all 256 first bytes: no two rows overlap, and 187 bytes are "other".
use mathlib.Core.Path.{◌≡◌, refl}
use Prim.Native.Nat.{ℕ, zero, suc, ◌+◌, ◌*◌, ◌/◌, ◌%◌, ◌<◌, ◌≤◌}
use native.Mathlib.Omega.{arith}
use native.Mathlib.Decide.{ℕ_discrete}
use mathlib.Core.Bool.{Bool, true, false, cond}
use mathlib.Core.List.{List, [], ◌∷◌}
use lib.Dec.{leb}
use borrow.Author.Tests.{leb-true, ne_eqb}
use Rattle.fields.proofs.Tests.{never, and-fst, and-snd}
use Rattle.codes.specs.Table.{TableRow, mask_rows, rows, command_by, command_of, bytes_for, passing, one_each, others}
use Rattle.codes.specs.declared.command.Command.{Command}
use Rattle.codes.specs.declared.command.Command.TheVariants.{Specify, SenseDrive, Recalibrate, SenseInterrupt, SeekTo, Version, ReadData, ReadDeleted, WriteData, ReadId, FormatTrack, Unserved, Invalid}

-- ---- the two facts

one_each_lem : one_each 256 ≡ true
unfolding one_each passing rows mask_rows
one_each_lem = refl

pub others-are : others 256 ≡ 187
unfolding others passing rows mask_rows
others-are = refl

below : (n : ℕ) → one_each n ≡ true → (c : ℕ) → c < n → passing rows c ≤ 1
unfolding one_each
below zero e c h = absurd (omega arith)
below (suc n) e c h = go (ℕ_discrete c n) (below n (and-snd (leb (passing rows n) 1) (one_each n) e) c)
  where
    go : Dec (c ≡ n) → (c < n → passing rows c ≤ 1) → passing rows c ≤ 1
    go (yes q) ih = rw q (leb-true (passing rows n) 1 (and-fst (leb (passing rows n) 1) (one_each n) e))
    go (no q) ih = ih (omega arith)

pub no-overlap : (c : ℕ) → c < 256 → passing rows c ≤ 1
no-overlap c h = below 256 one_each_lem c h

-- ---- so the row that takes a byte names its command

-- the row with an index
unfoldable pub table_row : ℕ → List TableRow → TableRow
table_row k [] = record { passes = λ c. false; command = Invalid }
table_row zero (x ∷ xs) = x
table_row (suc k) (x ∷ xs) = table_row k xs

one_passes : (k : ℕ) (xs : List TableRow) (c : ℕ) → (table_row k xs).passes c ≡ true → 1 ≤ passing xs c
unfolding passing table_row
one_passes k [] c e = never (cc)
one_passes zero (x ∷ xs) c e = rw e (omega arith)
one_passes (suc k) (x ∷ xs) c e = omega (arith, one_passes k xs c e)

command-at : (k : ℕ) (xs : List TableRow) (c : ℕ) → passing xs c ≤ 1 → (table_row k xs).passes c ≡ true → (table_row k xs).command ≡ command_by xs c
unfolding passing table_row command_by
command-at k [] c h e = never (cc)
command-at zero (x ∷ xs) c h e = rw e
command-at (suc k) (x ∷ xs) c h e = go (x.passes c) refl (command-at k xs c)
  where
    go : (b : Bool) → x.passes c ≡ b → (passing xs c ≤ 1 → (table_row k xs).passes c ≡ true → (table_row k xs).command ≡ command_by xs c) → (table_row k xs).command ≡ command_by (x ∷ xs) c
    go true q ih = let n : ◌≡◌ {A = ℕ} (cond (x.passes c) 1 0) 1 = rw q in absurd (omega (arith, h, one_passes k xs c e))
    go false q ih = rw q (ih (omega (arith, h)) e)

pub command-is : (k : ℕ) (c : ℕ) → c < 256 → (table_row k rows).passes c ≡ true → (table_row k rows).command ≡ command_of c
unfolding command_of
command-is k c h e = command-at k rows c (no-overlap c h) e

-- the same of the rows that go by a mask
mask-overlap : (c : ℕ) → c < 256 → passing mask_rows c ≤ 1
unfolding passing rows
mask-overlap c h = omega (arith, no-overlap c h)

pub mask_is : (k : ℕ) (c : ℕ) → c < 256 → (table_row k mask_rows).passes c ≡ true → (table_row k mask_rows).command ≡ command_by mask_rows c
mask_is k c h e = command-at k mask_rows c (mask-overlap c h) e

pub command-masked : (c : ℕ) → (c ≡ 0x03 → ⊥) → (c ≡ 0x04 → ⊥) → (c ≡ 0x07 → ⊥) → (c ≡ 0x0F → ⊥) → (c ≡ 0x08 → ⊥) → command_by mask_rows c ≡ command_of c
unfolding command_of command_by rows
command-masked c h1 h2 h3 h4 h5 = rw (ne_eqb c 0x03 h1, ne_eqb c 0x04 h2, ne_eqb c 0x07 h3, ne_eqb c 0x0F h4, ne_eqb c 0x08 h5)

-- a byte that no row takes
abbrev NonePass : List TableRow → ℕ → Type 0
NonePass [] c = Unit {0}
NonePass (x ∷ xs) c = (x.passes c ≡ false) × NonePass xs c

none_pass : (xs : List TableRow) (c : ℕ) → NonePass xs c → Invalid ≡ command_by xs c
unfolding command_by
none_pass [] c h = refl
none_pass (x ∷ xs) c h = rw h.0 (none_pass xs c h.1)

pub mask-none : (c : ℕ)
    → (c % 32 ≡ 0x10 → ⊥)
    → (c % 32 ≡ 0x06 → ⊥)
    → (c % 32 ≡ 0x0C → ⊥)
    → (c % 64 ≡ 0x05 → ⊥)
    → (c / 128 * 128 + c % 64 ≡ 0x0A → ⊥)
    → (c / 128 * 128 + c % 64 ≡ 0x0D → ⊥)
    → (c % 64 ≡ 0x09 → ⊥)
    → (c / 128 * 128 + c % 32 ≡ 0x02 → ⊥)
    → (c % 32 ≡ 0x11 → ⊥)
    → (c % 32 ≡ 0x19 → ⊥)
    → (c % 32 ≡ 0x1D → ⊥)
    → Invalid ≡ command_by mask_rows c
unfolding mask_rows
mask-none c h1 h2 h3 h4 h5 h6 h7 h8 h9 h10 h11 = none_pass mask_rows c (ne_eqb (c % 32) 0x10 h1, (ne_eqb (c % 32) 0x06 h2, (ne_eqb (c % 32) 0x0C h3, (ne_eqb (c % 64) 0x05 h4, (ne_eqb (c / 128 * 128 + c % 64) 0x0A h5, (ne_eqb (c / 128 * 128 + c % 64) 0x0D h6, (ne_eqb (c % 64) 0x09 h7, (ne_eqb (c / 128 * 128 + c % 32) 0x02 h8, (ne_eqb (c % 32) 0x11 h9, (ne_eqb (c % 32) 0x19 h10, (ne_eqb (c % 32) 0x1D h11, tt)))))))))))

-- ---- how many bytes a command can have
pub bytes-range : (k : Command) → (1 ≤ bytes_for k) × (bytes_for k ≤ 9)
bytes-range Specify = (omega arith, omega arith)
bytes-range SenseDrive = (omega arith, omega arith)
bytes-range Recalibrate = (omega arith, omega arith)
bytes-range SenseInterrupt = (omega arith, omega arith)
bytes-range SeekTo = (omega arith, omega arith)
bytes-range Version = (omega arith, omega arith)
bytes-range ReadData = (omega arith, omega arith)
bytes-range ReadDeleted = (omega arith, omega arith)
bytes-range WriteData = (omega arith, omega arith)
bytes-range ReadId = (omega arith, omega arith)
bytes-range FormatTrack = (omega arith, omega arith)
bytes-range Unserved = (omega arith, omega arith)
bytes-range Invalid = (omega arith, omega arith)
