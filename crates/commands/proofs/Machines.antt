-- What differs between the machines, by whether it is the Rust's.
use mathlib.Core.Path.{◌≡◌, refl, sym, ap, ◌∙◌}
use Prim.Native.Nat.{ℕ}
use mathlib.Core.Bool.{Bool, true, false, not}
use mathlib.Core.List.{[], ◌∷◌}
use lib.Dec.{eqb}
use Rattle.fields.proofs.Tests.{never}
use Rattle.registers.specs.Boxes.{Machine, Rust, DataSheet, Stay, Reply}
use Rattle.registers.specs.View.{is_rust}
use Rattle.commands.specs.Commands.{no_seek, invalid, has_phase}

pub rust-is : (m : Machine) → is_rust m ≡ true → m ≡ Rust
rust-is Rust e = refl
rust-is DataSheet e = never (cc)

pub sheet-is : (m : Machine) → is_rust m ≡ false → m ≡ DataSheet
sheet-is Rust e = never (cc)
sheet-is DataSheet e = refl

module _ (m : Machine) where
  -- Sense Interrupt with no Running seek, and an invalid byte
  pub rust-no-seek : (c : ℕ) → is_rust m ≡ true → no_seek m c ≡ 0x80 ∷ c ∷ []
  rust-no-seek c e = ap (λ (x : Machine). no_seek x c) (rust-is m e)

  pub sheet-no-seek : (c : ℕ) → is_rust m ≡ false → no_seek m c ≡ 0x80 ∷ []
  sheet-no-seek c e = ap (λ (x : Machine). no_seek x c) (sheet-is m e)

  pub rust-invalid : is_rust m ≡ true → invalid m ≡ Stay
  rust-invalid e = ap invalid (rust-is m e)

  pub sheet-invalid : is_rust m ≡ false → invalid m ≡ Reply (0x80 ∷ [])
  sheet-invalid e = ap invalid (sheet-is m e)

  -- the execution phase of a Format
  pub rust-phase : (count : ℕ) (f : Bool) → is_rust m ≡ true → false ≡ has_phase m count f
  rust-phase count f e = ap (λ (x : Machine). has_phase x count f) (sym (rust-is m e))

  pub empty-phase : (count : ℕ) (f : Bool) → f ≡ false → false ≡ has_phase m count f
  empty-phase count f e = go m ∙ ap (λ (v : Bool). has_phase m count v) (sym e)
    where
      go : (x : Machine) → false ≡ has_phase x count false
      go Rust = refl
      go DataSheet = refl

  pub sheet-phase : (count : ℕ) (f : Bool) → is_rust m ≡ false → f ≡ true → not (eqb count 0) ≡ has_phase m count f
  sheet-phase count f e g = ap (λ (v : Bool). has_phase DataSheet count v) (sym g) ∙ ap (λ (x : Machine). has_phase x count f) (sym (sheet-is m e))
