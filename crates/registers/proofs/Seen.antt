-- Seen as boxes, a call on the registers is what `Ports` says of the boxes seen.
use Rattle.std.proofs.Common.{◌≡◌, ℕ, zero, suc, ◌+◌, ◌<◌, ◌≤◌, Bool, true, false, eqb, ltb, List, [], ◌∷◌, length, get_or, take, drop, sym, refl, ap, ◌∙◌, ap₂, add-one, arith, drop_of_length-le, length-take-le, ltb-false, ltb-true, lt-ltb}
use lib.Seq.{slice, slice-cons}
use Rattle.fields.proofs.Tests.{never}
use Rattle.store.specs.Store.{disk_of}
use Rattle.registers.specs.declared.regs.Regs.{Regs}
use Rattle.registers.specs.declared.regs.Pending.{Pending}
use Rattle.registers.specs.Boxes.{Slot, World}
use Rattle.registers.specs.Ports.{settled, some?, on?, status, Poll, Stays, Counts, Drops, poll_by, polled, settled_in, after_status, Source, Bytes, Replies, Neither, source_by, given, read_from, port_byte, after_read, set_motor, change_disk}
use Rattle.registers.specs.View.{slot_if, slot_of, writing_if, inside_of, front_of, world_of, impossible_in, Shows, Leaves}
use Rattle.registers.specs.Settle.{sought}
use Rattle.registers.specs.Calls.{status_of, regs_polled, after_status_of, status_read, source_of, byte_from, regs_read, data_read, motor_set, disk_set, motor_of, current_track}
use Rattle.registers.proofs.Numbers.{possible, possible-in, until-long, count-few}
use Rattle.std.specs.Prelude.{Ok}

-- ---- whether a box is empty

some-slice : (f t : ℕ) (l : List ℕ) → t ≤ length l → some? (slice f t l) ≡ ltb f t
some-slice f t l h = go (ltb f t) refl
  where
    go : (v : Bool) → ltb f t ≡ v → some? (slice f t l) ≡ v
    go true e = rw (slice-cons f t l 0 (ltb-true f t e) h)
    go false e = ap some? (drop_of_length-le (take t l) {i = f} (omega (arith, length-take-le t l h, ltb-false f t e)))

some-take : (n : ℕ) (l : List ℕ) → n < length l → some? (take n l) ≡ ltb 0 n
some-take n [] h = absurd (omega arith)
some-take zero (x ∷ l) h = refl
some-take (suc n) (x ∷ l) h = sym (lt-ltb 0 (suc n) (omega arith))

on-writing : (f : Bool) (p : Pending) (h : List ℕ) → on? (writing_if f p h) ≡ f
on-writing true p h = refl
on-writing false p h = refl

first-slice : (f t : ℕ) (l : List ℕ) → f < t → t ≤ length l → get_or (slice f t l) 0 0 ≡ get_or l f 0
first-slice f t l g h = rw (slice-cons f t l 0 g h)

rest-slice : (f t : ℕ) (l : List ℕ) → f < t → t ≤ length l → drop 1 (slice f t l) ≡ slice (f + 1) t l
rest-slice f t l g h = rw (slice-cons f t l 0 g h, add-one)

module _ (r : Regs) (h t b x : List ℕ) (ok : impossible_in x r ≡ false) (long : length r.command ≡ 9) (seven : length r.reply ≡ 7) where
  abbrev pub W : World
  W = world_of r h t b x

  has-unread : some? (slice r.from r.until x) ≡ ltb r.from r.until
  has-unread = some-slice r.from r.until x (until-long x r ok)

  has-reply : some? (slice r.place r.fill r.reply) ≡ ltb r.place r.fill
  has-reply = some-slice r.place r.fill r.reply (omega (arith, (possible r (possible-in x r ok)).fill-in))

  has-command : some? (take r.count r.command) ≡ ltb 0 r.count
  has-command = some-take r.count r.command (omega (arith, count-few r (possible-in x r ok)))

  has-write : on? (writing_if r.write.on r.write h) ≡ r.write.on
  has-write = on-writing r.write.on r.write h

  -- ---- Status read

  status-is : status_of r ≡ status W
  unfolding status_of status inside_of front_of
  status-is = rw (has-unread, has-reply, has-command, has-write)

  polled-front : (q : Poll) → ((q ≡ Drops) → r.from < r.until) → front_of (regs_polled q (sought (settled r.drive.seek) r)) x ≡ settled_in (polled q (front_of r x))
  unfolding regs_polled polled front_of
  polled-front Stays g = refl
  polled-front Counts g = refl
  polled-front Drops g =
      let z : slice (r.from + 1) r.until x ≡ drop 1 (slice r.from r.until x) = sym (rest-slice r.from r.until x (g refl) (until-long x r ok)) in
      ap (λ (l : List ℕ). record { seek = settled r.drive.seek; reply = slice r.place r.fill r.reply; unread = l; lost = 0 }) z

  polled-inside : (q : Poll) (s : Slot) → inside_of (regs_polled q (sought (settled r.drive.seek) r)) h s ≡ inside_of r h s
  unfolding regs_polled inside_of
  polled-inside Stays s = refl
  polled-inside Counts s = refl
  polled-inside Drops s = refl

  polled-slot : (q : Poll) → slot_of (regs_polled q (sought (settled r.drive.seek) r)) t b ≡ slot_of r t b
  unfolding regs_polled
  polled-slot Stays = refl
  polled-slot Counts = refl
  polled-slot Drops = refl

  drops-unread : (w u v : Bool) → poll_by w u v ≡ Drops → u ≡ true
  drops-unread true u v e = never (cc)
  drops-unread false true v e = refl
  drops-unread false false v e = never (cc)

  status-after : world_of (after_status_of r) h t b x ≡ after_status W
  unfolding after_status_of after_status
  status-after =
      let q : Poll = poll_by r.write.on (ltb r.from r.until) (eqb r.lost 2) in
      let q' : Poll = poll_by (on? (inside_of r h (slot_of r t b)).write) (some? (front_of r x).unread) (eqb (front_of r x).lost 2) in
      let same : q ≡ q' = unfold inside_of front_of in ap₂ (λ (w u : Bool). poll_by w u (eqb r.lost 2)) (sym has-write) (sym has-unread) in
      let i = polled-inside q (slot_of r t b) in
      let s = polled-slot q in
      let f = polled-front q (λ e. ltb-true _ _ (drops-unread r.write.on (ltb r.from r.until) (eqb r.lost 2) e)) ∙ ap (λ (p : Poll). settled_in (polled p (front_of r x))) same in
      λ k. record {
        inside = (ap (inside_of (regs_polled q (sought (settled r.drive.seek) r)) h) s ∙ i) k;
        front = f k;
      }

  -- a status read answers the status and leaves the boxes after it
  pub status-seen : Shows h t b x (status_read r) (status W) (after_status W)
  unfolding status_read
  status-seen = rw (possible-in x r ok) (ap Ok status-is, status-after)

  -- ---- Data-port read

  source_is : source_of r ≡ source_by (some? (front_of r x).unread) (some? (front_of r x).reply)
  unfolding front_of
  source_is = ap₂ source_by (sym has-unread) (sym has-reply)

  -- where a byte comes from, there is one
  abbrev Due : Source → Type 0
  Due Bytes = r.from < r.until
  Due Replies = r.place < r.fill
  Due Neither = Unit {0}

  due : (u v : Bool) → ltb r.from r.until ≡ u → ltb r.place r.fill ≡ v → Due (source_by u v)
  due true v e f = ltb-true _ _ e
  due false true e f = ltb-true _ _ f
  due false false e f = tt

  given_is : (q : Source) → Due q → byte_from q r x ≡ given q (front_of r x)
  unfolding byte_from given front_of
  given_is Bytes g = sym (first-slice r.from r.until x g (until-long x r ok))
  given_is Replies g = sym (first-slice r.place r.fill r.reply g (omega (arith, (possible r (possible-in x r ok)).fill-in)))
  given_is Neither g = refl

  read-front : (q : Source) → Due q → front_of (regs_read q r) x ≡ read_from q (front_of r x)
  unfolding regs_read read_from front_of
  read-front Bytes g =
      ap (λ (l : List ℕ). record { seek = r.drive.seek; reply = slice r.place r.fill r.reply; unread = l; lost = 0 }) (sym (rest-slice r.from r.until x g (until-long x r ok)))
  read-front Replies g =
      ap (λ (l : List ℕ). record { seek = r.drive.seek; reply = l; unread = slice r.from r.until x; lost = 0 })
      (sym (rest-slice r.place r.fill r.reply g (omega (arith, (possible r (possible-in x r ok)).fill-in))))
  read-front Neither g = refl

  read-inside : (q : Source) → inside_of (regs_read q r) h (slot_of (regs_read q r) t b) ≡ inside_of r h (slot_of r t b)
  unfolding regs_read inside_of
  read-inside Bytes = refl
  read-inside Replies = refl
  read-inside Neither = refl

  -- a read of the data port answers the byte that is due and leaves the boxes after it
  pub read-seen : Shows h t b x (data_read r x) (port_byte W) (after_read W)
  unfolding data_read port_byte after_read
  read-seen =
      let d : Due (source_of r) = due (ltb r.from r.until) (ltb r.place r.fill) refl refl in
      let n = given_is (source_of r) d ∙ ap (λ (q : Source). given q (front_of r x)) source_is in
      let f = read-front (source_of r) d ∙ ap (λ (q : Source). read_from q (front_of r x)) source_is in
      rw ok (ap Ok n, λ k. record { inside = read-inside (source_of r) k; front = f k })

  -- ---- Motor, track and disk

  pub motor-seen : (on : Bool) → Leaves h t b x (motor_set on r) (set_motor on W)
  unfolding motor_set set_motor inside_of front_of
  motor-seen on = rw (possible-in x r ok) (refl, refl)

  -- another disk is that of the store which is lent from then on
  pub disk-seen : (present : Bool) (t' b' : List ℕ) → Leaves h t' b' x (disk_set present r) (change_disk (slot_if present (disk_of t' b')) W)
  unfolding disk_set change_disk inside_of front_of
  disk-seen present t' b' = rw (possible-in x r ok) (refl, refl)

  pub motor-told : motor_of r ≡ Ok W.inside.motor
  unfolding motor_of inside_of
  motor-told = rw (possible-in x r ok)

  pub track-told : current_track r ≡ Ok W.inside.drives.first.cylinder
  unfolding current_track inside_of
  track-told = rw (possible-in x r ok)
