-- The exported calls on the bytes of a controller are the calls by value on the controller, whose answers the calls over a lent controller give as well.
use mathlib.Core.Path.{◌≡◌, refl, ap}
use Prim.Native.Nat.{ℕ}
use native.Mathlib.Omega.{arith}
use mathlib.Core.Bool.{Bool, true, false}
use mathlib.Core.List.{List}
use lib.ListN.{length}
use lib.Dec.{leb}
use borrow.Author.Tests.{eq-eqb, le-leb}
use Rattle.fields.specs.Capacities.{most_held}
use Rattle.registers.specs.declared.regs.Regs.{Regs}
use Rattle.registers.specs.declared.regs.Seek.{Seek}
use Rattle.registers.specs.declared.regs.Seek.TheVariants.{Idle, Running, Done}
use Rattle.registers.specs.Boxes.{Sent}
use Rattle.registers.specs.View.{impossible, impossible_in}
use Rattle.registers.specs.Settle.{regs_with_motor, regs_with_drive, regs_of}
use Rattle.registers.specs.Calls.{status_of, after_status_of, told_if, status_read, source_of, byte_from, regs_read, data_read, switched_if, motor_set, disk_set, motor_of, current_track, disk_in, setting_in}
use Rattle.commands.specs.Lent.{left_of}
use Rattle.sending.specs.Calls.{sent_to, data_write}
use Rattle.floppy.specs.declared.Floppy.{Floppy}
use Rattle.floppy.specs.Calls.{shown_as, changed_as, wrote_as, status_call, read_call, write_call}
use Rattle.layout.specs.Layout.{controller_length, flag_byte, seek_byte, numbers_for, floppy_bytes, formed, regs_in, Fitting}
use Rattle.words.specs.Words.{byte_word, flag_word}
use Rattle.host.specs.Calls.{motor_on, track_on, disk_on, setting_on, told_on, switched_on, set_motor_on, set_disk_on, status_on, read_on, posted_on, write_on, shown_word, changed_word, wrote_word}
use Rattle.layout.proofs.Inverse.{regs-back}
use Rattle.std.specs.Prelude.{Result, Ok, Err}
use Rattle.fields.specs.declared.refusal.Refusal.{Refusal}

-- ---- the bytes of a controller are formed

flag-few : (f : Bool) → leb (flag_byte f) 1 ≡ true
flag-few true = refl
flag-few false = refl

seek-few : (s : Seek) → leb (seek_byte s) 2 ≡ true
seek-few Idle = refl
seek-few Running = refl
seek-few Done = refl

module _ (f : Floppy) (fits : Fitting f.regs) (long : length f.held ≡ most_held) where
  pub image-formed : formed (floppy_bytes f) ≡ true
  unfolding formed numbers_for
  image-formed =
      let n : length (numbers_for f.regs f.held) ≡ controller_length = omega (arith, long) in
      rw (eq-eqb _ _ n, flag-few f.regs.motor, flag-few f.regs.write.on, seek-few f.regs.drive.seek, flag-few f.regs.drive.disk, le-leb f.regs.setting 1 fits.setting-fits, flag-few f.regs.write.track)

  image-in : regs_in (floppy_bytes f) ≡ Ok f.regs
  unfolding regs_in
  image-in = rw image-formed (ap Ok (regs-back f.regs f.held fits))

  -- ---- calls that ask

  pub motor-same : motor_on (floppy_bytes f) ≡ flag_word (motor_of f.regs)
  unfolding motor_on
  motor-same = rw image-in

  pub track-same : track_on (floppy_bytes f) ≡ byte_word (current_track f.regs)
  unfolding track_on
  track-same = rw image-in

  pub setting_same : setting_on (floppy_bytes f) ≡ byte_word (setting_in f.regs)
  unfolding setting_on
  setting_same = rw image-in

  pub disk-same : disk_on (floppy_bytes f) ≡ flag_word (disk_in f.regs)
  unfolding disk_on
  disk-same = rw image-in

  -- ---- port reads, motor and disk

  told_same : (v : Bool) (b : ℕ) (r : Regs) → told_on (floppy_bytes f) (told_if v b r f.regs) ≡ shown_word (shown_as (told_if v b r f.regs) f.held)
  unfolding numbers_for
  told_same true b r = refl
  told_same false b r = refl

  changed-same : (v : Bool) (r : Regs) → switched_on (floppy_bytes f) (switched_if v r f.regs) ≡ changed_word (changed_as (switched_if v r f.regs) f.held)
  unfolding numbers_for
  changed-same true r = refl
  changed-same false r = refl

  pub status-same : status_on (floppy_bytes f) ≡ shown_word (status_call f)
  unfolding status_on status_read
  status-same = rw image-in (told_same (impossible f.regs) (status_of f.regs) (after_status_of f.regs))

  pub read_same : (x : List ℕ) → read_on (floppy_bytes f) x ≡ shown_word (read_call f x)
  unfolding read_on data_read
  read_same x = rw image-in (told_same (impossible_in x f.regs) (byte_from (source_of f.regs) f.regs x) (regs_read (source_of f.regs) f.regs))

  pub set-motor-same : (on : Bool) → set_motor_on on (floppy_bytes f) ≡ changed_word (changed_as (motor_set on f.regs) f.held)
  unfolding set_motor_on motor_set
  set-motor-same on = rw image-in (changed-same (impossible f.regs) (regs_with_motor on f.regs))

  pub set-disk-same : (present : Bool) → set_disk_on present (floppy_bytes f) ≡ changed_word (changed_as (disk_set present f.regs) f.held)
  unfolding set_disk_on disk_set
  set-disk-same present =
      rw image-in
      (changed-same (impossible f.regs) (regs_with_drive (record { cylinder = f.regs.drive.cylinder; seek = f.regs.drive.seek; disk = present }) f.regs))

  -- ---- a byte sent

  left-same : (y : Result Sent Refusal) (t d x : List ℕ) → posted_on (floppy_bytes f) (left_of y f.regs f.held t d x) ≡ wrote_word (wrote_as (left_of y f.regs f.held t d x))
  unfolding left_of regs_of
  left-same (Err why) t d x = refl
  left-same (Ok s) t d x = refl

  pub write_same : (t d x : List ℕ) (b : ℕ) → write_on (floppy_bytes f) t d x b ≡ wrote_word (write_call f b t d x)
  unfolding write_on data_write numbers_for
  write_same t d x b = rw image-in (left-same (sent_to f.regs b f.held t d x) t d x)
