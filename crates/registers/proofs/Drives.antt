-- The drive that a command names, as the registers tell of it and as the boxes show it.
use Rattle.std.proofs.Common.{◌≡◌, ℕ, Bool, true, false, List, sym, refl, ◌∙◌}
use Rattle.fields.specs.Model.{Disk}
use Rattle.store.specs.Store.{disk_of}
use Rattle.registers.specs.declared.regs.Regs.{Regs}
use Rattle.registers.specs.declared.regs.Drive.{Drive}
use Rattle.registers.specs.Boxes.{Empty, Holds, fitted, named_if, named}
use Rattle.registers.specs.View.{slot_if, named_in, named_as}
use Rattle.registers.specs.Settle.{drive_if, drive_named}
use Rattle.std.specs.Prelude.{Result}
use Rattle.fields.specs.declared.refusal.Refusal.{Refusal}

shown : (f : Bool) (d : Drive) (disk : Result Disk Refusal)
    → named_if f (record { cylinder = d.cylinder; slot = slot_if d.disk disk }) ≡ named_as f (drive_if f d) (slot_if (drive_if f d).disk disk)
shown true d disk = refl
shown false d disk = refl

module _ (r : Regs) (c1 : ℕ) (t b : List ℕ) where
  pub drive-shown : named_in c1 r t b ≡ named_as (fitted c1) (drive_named c1 r) (slot_if (drive_named c1 r).disk (disk_of t b))
  unfolding named drive_named
  drive-shown = shown (fitted c1) r.drive (disk_of t b)

  -- to a caller that asked for the drive
  module _ (d : Drive) (e : d ≡ drive_named c1 r) where
    pub drive-empty : d.disk ≡ false → named_in c1 r t b ≡ named_as (fitted c1) d Empty
    drive-empty q = drive-shown ∙ simp (sym e, q)

    pub drive-holds : d.disk ≡ true → named_in c1 r t b ≡ named_as (fitted c1) d (Holds (disk_of t b))
    drive-holds q = drive-shown ∙ simp (sym e, q)
