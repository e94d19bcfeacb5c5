-- What the promise of each exported call settles: any two outcomes that it allows have the same word, and the same bytes in every slice that is lent to be changed.
use mathlib.Core.Path.{◌≡◌}
use Prim.Native.Nat.{ℕ}
use mathlib.Core.Bool.{not}
use mathlib.Core.List.{List}
use lib.Dec.{eqb}
use Rattle.fields.specs.declared.id.SectorId.{SectorId}
use Rattle.fields.proofs.Tests.{one-outcome}
use Rattle.store.specs.Store.{table_length, disk_of}
use Rattle.store.specs.Calls.{Outcome, outcome, load_of, fresh_of, geometry_of, has_of}
use Rattle.layout.specs.Layout.{controller_length}
use Rattle.sheet.specs.Calls.{longest_sheet}
use Rattle.words.specs.Words.{geometry_word, has_word}
use Rattle.host.specs.Calls.{motor_on, track_on, disk_on, setting_on, Answered, answered, new_on, set_motor_on, set_disk_on, status_on, read_on, Sending, sending, write_on, worded, part_on}
use Rattle.host.specs.Calls.{write_sheet_on, TakenUp, taken_up, read_sheet_on, image_length_on, write_image_on}

-- ---- by what a promise names

-- a word and a controller's bytes
answered-settled : (a : Answered) (r r' : ℕ) (m m' : List ℕ) → answered r m ≡ a → answered r' m' ≡ a → (r ≡ r') × (m ≡ m')
answered-settled a r r' m m' e f = let g = one-outcome (answered r m) (answered r' m') a e f in (cc, cc)

-- a word and the bytes of a table and a data buffer
outcome-settled : (o : Outcome ℕ) (r r' : ℕ) (t t' b b' : List ℕ) → outcome r t b ≡ o → outcome r' t' b' ≡ o → (r ≡ r') × ((t ≡ t') × (b ≡ b'))
outcome-settled o r r' t t' b b' e f = let g = one-outcome (outcome r t b) (outcome r' t' b') o e f in (cc, (cc, cc))

-- a word and the bytes of a controller, a table, a data buffer and a transfer buffer
sending-settled : (s : Sending) (r r' : ℕ) (l l' t t' d d' x x' : List ℕ) → sending r l t d x ≡ s → sending r' l' t' d' x' ≡ s
    → (r ≡ r') × ((l ≡ l') × ((t ≡ t') × ((d ≡ d') × (x ≡ x'))))
sending-settled s r r' l l' t t' d d' x x' e f =
    let g = one-outcome (sending r l t d x) (sending r' l' t' d' x') s e f in (cc, (cc, (cc, (cc, cc))))

-- a word and the bytes of a controller and a transfer buffer
taken-settled : (u : TakenUp) (r r' : ℕ) (m m' y y' : List ℕ) → taken_up r m y ≡ u → taken_up r' m' y' ≡ u → (r ≡ r') × ((m ≡ m') × (y ≡ y'))
taken-settled u r r' m m' y y' e f = let g = one-outcome (taken_up r m y) (taken_up r' m' y') u e f in (cc, (cc, cc))

-- ---- two words of each call

module _ (r r' : ℕ) where
  pub controller-length-settled : r ≡ controller_length → r' ≡ controller_length → r ≡ r'
  controller-length-settled = one-outcome r r' controller_length

  pub table-length-settled : r ≡ table_length → r' ≡ table_length → r ≡ r'
  table-length-settled = one-outcome r r' table_length

  pub sheet-length-settled : r ≡ longest_sheet → r' ≡ longest_sheet → r ≡ r'
  sheet-length-settled = one-outcome r r' longest_sheet

  -- calls that ask a controller
  pub motor-settled : (l : List ℕ) → r ≡ motor_on l → r' ≡ motor_on l → r ≡ r'
  motor-settled l = one-outcome r r' (motor_on l)

  pub current-track-settled : (l : List ℕ) → r ≡ track_on l → r' ≡ track_on l → r ≡ r'
  current-track-settled l = one-outcome r r' (track_on l)

  pub disk-settled : (l : List ℕ) → r ≡ disk_on l → r' ≡ disk_on l → r ≡ r'
  disk-settled l = one-outcome r r' (disk_on l)

  pub setting-settled : (l : List ℕ) → r ≡ setting_on l → r' ≡ setting_on l → r ≡ r'
  setting-settled l = one-outcome r r' (setting_on l)

  -- calls that change one, whose bytes they leave as m
  module _ (l m m' : List ℕ) where
    -- `floppy_new` is setting 0
    pub new-settled : (n : ℕ) → answered r m ≡ new_on n l → answered r' m' ≡ new_on n l → (r ≡ r') × (m ≡ m')
    new-settled n = answered-settled (new_on n l) r r' m m'

    pub set-motor-settled : (on : ℕ) → answered r m ≡ set_motor_on (not (eqb on 0)) l → answered r' m' ≡ set_motor_on (not (eqb on 0)) l → (r ≡ r') × (m ≡ m')
    set-motor-settled on = answered-settled (set_motor_on (not (eqb on 0)) l) r r' m m'

    pub set-disk-settled : (present : ℕ) → answered r m ≡ set_disk_on (not (eqb present 0)) l → answered r' m' ≡ set_disk_on (not (eqb present 0)) l
        → (r ≡ r') × (m ≡ m')
    set-disk-settled present = answered-settled (set_disk_on (not (eqb present 0)) l) r r' m m'

    pub read-status-settled : answered r m ≡ status_on l → answered r' m' ≡ status_on l → (r ≡ r') × (m ≡ m')
    read-status-settled = answered-settled (status_on l) r r' m m'

    pub read-cmd-settled : (x : List ℕ) → answered r m ≡ read_on l x → answered r' m' ≡ read_on l x → (r ≡ r') × (m ≡ m')
    read-cmd-settled x = answered-settled (read_on l x) r r' m m'

  -- a byte sent
  pub write-cmd-settled : (l t d x : List ℕ) (b : ℕ) (m m' u u' v v' y y' : List ℕ) → sending r m u v y ≡ write_on l t d x b → sending r' m' u' v' y' ≡ write_on l t d x b
      → (r ≡ r') × ((m ≡ m') × ((u ≡ u') × ((v ≡ v') × (y ≡ y'))))
  write-cmd-settled l t d x b = sending-settled (write_on l t d x b) r r'

  -- sheets, written to s and read from it
  pub write-sheet-settled : (l x s m m' : List ℕ) → answered r m ≡ write_sheet_on l x s → answered r' m' ≡ write_sheet_on l x s → (r ≡ r') × (m ≡ m')
  write-sheet-settled l x s = answered-settled (write_sheet_on l x s) r r'

  pub read-sheet-settled : (l x s m m' y y' : List ℕ) → taken_up r m y ≡ read_sheet_on l x s → taken_up r' m' y' ≡ read_sheet_on l x s
      → (r ≡ r') × ((m ≡ m') × (y ≡ y'))
  read-sheet-settled l x s = taken-settled (read_sheet_on l x s) r r'

  -- calls on a store
  module _ (t b : List ℕ) where
    module _ (u u' v v' : List ℕ) where
      pub disk-new-settled : (image : List ℕ) → outcome r u v ≡ worded (load_of image t b) → outcome r' u' v' ≡ worded (load_of image t b)
          → (r ≡ r') × ((u ≡ u') × (v ≡ v'))
      disk-new-settled image = outcome-settled (worded (load_of image t b)) r r' u u' v v'

      pub disk-new-formatted-settled : outcome r u v ≡ worded (fresh_of t b) → outcome r' u' v' ≡ worded (fresh_of t b) → (r ≡ r') × ((u ≡ u') × (v ≡ v'))
      disk-new-formatted-settled = outcome-settled (worded (fresh_of t b)) r r' u u' v v'

    pub image-length-settled : r ≡ image_length_on t b → r' ≡ image_length_on t b → r ≡ r'
    image-length-settled = one-outcome r r' (image_length_on t b)

    pub write-image-settled : (s m m' : List ℕ) → answered r m ≡ write_image_on t b s → answered r' m' ≡ write_image_on t b s → (r ≡ r') × (m ≡ m')
    write-image-settled s = answered-settled (write_image_on t b s) r r'

    pub geometry-settled : r ≡ geometry_word (geometry_of (disk_of t b)) → r' ≡ geometry_word (geometry_of (disk_of t b)) → r ≡ r'
    geometry-settled = one-outcome r r' (geometry_word (geometry_of (disk_of t b)))

    module _ (side cylinder : ℕ) (id : SectorId) where
      pub has-sector-settled : r ≡ has_word (has_of (disk_of t b) side cylinder id) → r' ≡ has_word (has_of (disk_of t b) side cylinder id) → r ≡ r'
      has-sector-settled = one-outcome r r' (has_word (has_of (disk_of t b) side cylinder id))

      pub sector-settled : r ≡ part_on t b side cylinder id → r' ≡ part_on t b side cylinder id → r ≡ r'
      sector-settled = one-outcome r r' (part_on t b side cylinder id)
