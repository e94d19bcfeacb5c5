-- Refusal 12 is given in each of its five cases and in no other.
use mathlib.Core.Path.{◌≡◌, refl}
use mathlib.Core.Bool.{Bool, true, false, not, ◌||◌, or-true}
use Rattle.fields.specs.Refusals.{need}
use Rattle.fields.specs.Model.{Disk}
use Rattle.fields.specs.declared.refusal.Refusal.TheVariants.{NoImage}
use Rattle.fields.proofs.Tests.{never}
use Rattle.home.specs.Home.{image_for, rising, side_over_1, entries_over_204, sectors_over_29, track_over_65280, unwritable, home_of}
use Rattle.home.specs.Cases.{Twelve, not-rising, side-over, entries_over, sectors-over, track-over}
use Rattle.std.specs.Prelude.{Ok, Err}

-- a refused disk is in one of the cases
pub twelve-only : (d : Disk) → home_of d ≡ Err NoImage → Twelve d
unfolding home_of unwritable
twelve-only d =
    by (rising d) refl (side_over_1 d) refl (entries_over_204 d) refl (sectors_over_29 d) refl (track_over_65280 d) refl
  where
    by : (r : Bool) → rising d ≡ r → (s : Bool) → side_over_1 d ≡ s → (n : Bool) → entries_over_204 d ≡ n
        → (m : Bool) → sectors_over_29 d ≡ m → (l : Bool) → track_over_65280 d ≡ l
        → need (not (not r || (s || (n || (m || l))))) NoImage (Ok (image_for d)) ≡ Err NoImage → Twelve d
    by false er s es n en m em l el e = not-rising er
    by true er true es n en m em l el e = side-over es
    by true er false es true en m em l el e = entries_over en
    by true er false es false en true em l el e = sectors-over em
    by true er false es false en false em true el e = track-over el
    by true er false es false en false em false el e = never (cc)

-- a disk in one of the cases is refused
pub twelve-each : (d : Disk) → Twelve d → home_of d ≡ Err NoImage
unfolding home_of unwritable
twelve-each d (not-rising e) = simp e
twelve-each d (side-over e) = simp (e, or-true)
twelve-each d (entries_over e) = simp (e, or-true)
twelve-each d (sectors-over e) = simp (e, or-true)
twelve-each d (track-over e) = simp (e, or-true)
