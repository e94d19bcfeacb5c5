-- One call on a controller that is one, seen as boxes, is the machine's, refusals included; and the controller is one then.
use mathlib.Core.Path.{◌≡◌, refl, sym, ap, ap₂, subst, ◌∙◌}
use Prim.Native.Nat.{ℕ, ◌+◌, ◌≤◌, ◌<◌, min}
use native.Mathlib.Omega.{arith}
use mathlib.Core.Bool.{Bool, true, false}
use mathlib.Core.List.{List, [], ◌∷◌, ◌++◌}
use lib.ListN.{length, get_or, set, take, drop, length-append, length-take, length-set}
use lib.Seq.{slice, take-append-le}
use borrow.Author.Tests.{eqb-false}
use Rattle.fields.specs.Capacities.{most_held, most_transfer}
use Rattle.fields.specs.Refusals.{after}
use Rattle.fields.specs.Model.{Disk}
use Rattle.fields.specs.declared.refusal.Refusal.{Refusal}
use Rattle.fields.specs.declared.refusal.Refusal.TheVariants.{BadController, BadStore}
use Rattle.fields.proofs.Tests.{never}
use Rattle.store.specs.Store.{room_of, transfer_room}
use Rattle.store.proofs.Checks.{transfer-in}
use Rattle.codes.specs.declared.command.Command.{Command}
use Rattle.codes.specs.Table.{command_of, bytes_for}
use Rattle.registers.specs.declared.regs.Regs.{Regs}
use Rattle.registers.specs.Boxes.{setting_of, Setting, Rooms, whole_of, Inside, World, Add, Hold, Change, Clear, Finish, Effect, Sent, named, silent, Holds}
use Rattle.registers.specs.View.{slot_if, rooms_of, slot_of, drives_of, goal_of, writing_of, inside_of, front_of, impossible_in}
use Rattle.registers.specs.Settle.{regs_taken, held_taken, regs_changed, regs_all, regs_responded, regs_of}
use Rattle.registers.specs.Calls.{status_read, data_read, motor_set, disk_set}
use Rattle.registers.proofs.Numbers.{possible-in, whole-most, taken-few, count-few}
use Rattle.registers.proofs.Kept.{lawful-so, so-lawful, lawful-wider, kept-status, kept_read, kept-motor, kept-disk, kept-part, kept-last, kept-held, kept-ended, kept-changes, kept-response}
use Rattle.registers.proofs.Seen.{status-seen, read-seen, motor-seen, disk-seen, motor-told, track-told}
use Rattle.commands.specs.Commands.{obeyed, written}
use Rattle.commands.specs.Lent.{table_with, data_with, transfer_with, Left, left_of, Sees}
use Rattle.sending.specs.Machine.{sends, clearing, command_if, command_byte, data_if, data_byte, sent, done, write_port, report_of}
use Rattle.sending.specs.Calls.{data_write}
use Rattle.sending.proofs.Sends.{all_first, all-length, sent-right, sent-data, sent-command}
use Rattle.sending.proofs.Seen.{write-seen, disk-told}
use Rattle.floppy.specs.Calls.{wrote_as}
use Rattle.saves.specs.Events.{Question, motor_on?, which_track?, disk_in?, Event, poll, read, send, ask, switch, swap, widen, Answer, showed, gave, took, stood, denied, Next}
use Rattle.saves.specs.Stages.{Stage, answer_to, acted, Unbroken, PutsUnbroken}
use Rattle.saves.specs.Words.{in_drive}
use Rattle.saves.proofs.Feeding.{byte_on}
use Rattle.saves.proofs.Unbrokens.{acted-unbroken}
use Rattle.runs.specs.Hosts.{Host, with_floppy, with_store, with_more, byte_said, flag_said, done_said, if_swapped, after_wrote, asked_in, called, seen, lent, stage_of, Sound, Agrees}
use Rattle.runs.proofs.Effects.{MayRefuse, Clean, Breaks, store-clean, Fits, Proper, obeyed-proper, Ends, written-ends, transfer-kept, room-kept}
use Rattle.registers.specs.Possible.{Small, Lawful, Short}
use Rattle.std.specs.Prelude.{Result, Ok, Err}

-- what is in a drive is the disk that the store holds
pub held-is : (f : Bool) (disk : Result Disk Refusal) (d : Disk) → slot_if f disk ≡ Holds (Ok d) → disk ≡ Ok d
held-is true disk d e = cc
held-is false disk d e = never (cc)

-- ---- what a byte sent keeps

module _ (r : Regs) (b : ℕ) (h t d x : List ℕ) (ok : impossible_in x r ≡ false) (nine : length r.command ≡ 9) (seven : length r.reply ≡ 7)
    (small : Small r.index r.write.taken r.setting) (long : length h ≡ most_held) where
  abbrev S : Rooms
  S = rooms_of d x

  abbrev X : Setting
  X = setting_of r.setting

  abbrev Room : ℕ
  Room = transfer_room x

  abbrev Bad : Type 0
  Bad = Breaks (slot_of r t d)

  w : Lawful r Room
  w = so-lawful x r nine seven small ok

  -- the registers then
  abbrev pub Regs' : Sent → Regs
  Regs' y = regs_responded y.effect.response (regs_all y.effect.changes (regs_taken y.taking r))

  -- possible numbers, held bytes as many as they were, and what was laid fits the rooms; a refusal is not 1, and 2 only where the store breaks the layout
  abbrev pub Keeps : Result Sent Refusal → Type 0
  Keeps (Err why) = MayRefuse Bad why
  Keeps (Ok y) =
      Lawful (Regs' y) Room × ((length (held_taken y.taking r h) ≡ most_held) × (Short Room y.effect.response × Fits S y.effect.put))

  few : r.count < 9
  few = count-few r (possible-in x r ok)

  clean : Clean Bad (drives_of r t d).first.slot
  clean = store-clean r.drive.disk t d

  command-keeps : (v : Bool) (k : Command) (l : List ℕ) → (v ≡ false → r.count + 1 ≡ bytes_for (command_of (get_or (set r.command r.count b) 0 0)) → ⊥)
      → Keeps (sends (Add b) (command_if v X S k l (drives_of r t d) r.index))
  unfolding command_if
  command-keeps false k l q = unfold regs_all regs_responded in (kept-part r Room w b (q refl), (long, (tt, tt)))
  command-keeps true k l q = go (obeyed X S k l (drives_of r t d) r.index) (obeyed-proper X Bad S k l (drives_of r t d) r.index clean)
    where
      go : (e : Result Effect Refusal) → Proper X Bad S e → Keeps (sends (Add b) (clearing e))
      go (Err why) p = p
      go (Ok e) p =
          let l = kept-changes Room e.changes (regs_changed Clear (regs_taken (Add b) r)) p.0 (kept-last r Room w b) in
          (kept-response Room e.response _ p.1.0 (unfold regs_all in l), (long, p.1))

  data-keeps : r.write.on ≡ true → (v : Bool) (l : List ℕ) → (v ≡ false → r.write.taken + 1 ≡ whole_of (goal_of r.write) → ⊥)
      → Keeps (sends (Hold b) (data_if v S (writing_of r.write l) (drives_of r t d)))
  unfolding data_if regs_all regs_responded
  data-keeps on false l q =
      let z : r.write.taken + 1 < whole_of (goal_of r.write) = omega (arith, taken-few X r.write w.write on, q refl) in
      (kept-held r Room w b on z, (length-set h r.write.taken b ∙ long, (tt, tt)))
  data-keeps on true l q =
      go (written S (writing_of r.write l) (named r.write.c1 (drives_of r t d))) (written-ends Bad S (writing_of r.write l) (drives_of r t d) clean)
    where
      go : (e : Result Effect Refusal) → Ends Bad S e → Keeps (sends (Hold b) e)
      go (Err why) p = p
      go (Ok e) p =
          let l : Lawful (regs_all (Finish ∷ []) (regs_taken (Hold b) r)) Room = kept-ended r Room w b in (
            kept-response Room e.response _ p.1.0 (subst (λ (cs : List Change). Lawful (regs_all cs (regs_taken (Hold b) r)) Room) (sym p.0) l),
            (length-set h r.write.taken b ∙ long, p.1),
          )

  held-long : r.write.on ≡ true → length (take r.write.taken h ++ (b ∷ [])) ≡ r.write.taken + 1
  held-long on = simp (length-append, length-take) (omega (arith, taken-few X r.write w.write on, whole-most (goal_of r.write), long))

  here-keeps : (f : Bool) → r.write.on ≡ f → Keeps (sent S (inside_of r h (slot_of r t d)) b)
  here-keeps false e =
      subst Keeps (sent-command r b h t d x e)
      (unfold command_byte in command-keeps _ _ _
      (λ v z. eqb-false _ _ v (all-length r b h t d x few nine ∙ z ∙ ap (λ (n : ℕ). bytes_for (command_of n)) (sym (all_first r b h t d x few nine)))))
  here-keeps true e =
      subst Keeps (sent-data r b h t d x e)
      (unfold data_byte in data-keeps e _ _ (λ v z. eqb-false _ _ v (held-long e ∙ z)))

  pub sent-keeps : Keeps (sent S (inside_of r h (slot_of r t d)) b)
  sent-keeps = here-keeps r.write.on refl

-- ---- one call

module _ (k : Host) (s : Sound k) where
  abbrev R : Regs
  R = k.floppy.regs

  abbrev H : List ℕ
  H = k.floppy.held

  abbrev N : ℕ
  N = transfer_room k.transfer

  small : Small R.index R.write.taken R.setting
  small = record { index-fits = s.index-fits; taken-fits = s.taken-fits; setting-fits = s.setting-fits }

  lawful : Lawful R N
  lawful = so-lawful k.transfer R s.nine s.seven small s.possible

  -- a host with lawful registers and as many held bytes as there are is sound
  sound-of : (j : Host) → length j.floppy.held ≡ most_held → Lawful j.floppy.regs (transfer_room j.transfer) → Sound j
  sound-of j h w = record {
    nine = w.command.nine;
    seven = w.reply.seven;
    held = h;
    index-fits = w.small.index-fits;
    taken-fits = w.small.taken-fits;
    setting-fits = w.small.setting-fits;
    possible = lawful-so j.transfer j.floppy.regs w;
  }

  -- the host with other registers, which are lawful, is sound
  abbrev With : Regs → Host
  With r = with_floppy (record { regs = r; held = H }) k

  sound-with : (r : Regs) → Lawful r N → Sound (With r)
  sound-with r w = sound-of (With r) s.held w

  -- ---- port reads

  status-lawful : Lawful (status_read R).regs N
  unfolding status_read
  status-lawful = rw (possible-in k.transfer R s.possible) (kept-status R N lawful)

  status-agrees : Agrees k poll
  unfolding acted called
  status-agrees =
      let t = status-seen R H k.table k.bytes k.transfer s.possible s.nine s.seven in
      (λ i. record { answer = byte_said showed (sym t.0 i); then = record { rooms = lent k; world = sym t.1 i } }, sound-with (status_read R).regs status-lawful)

  read-lawful : Lawful (data_read R k.transfer).regs N
  unfolding data_read
  read-lawful = rw s.possible (kept_read R N lawful)

  read-agrees : Agrees k read
  unfolding acted called
  read-agrees =
      let t = read-seen R H k.table k.bytes k.transfer s.possible s.nine s.seven in
      (λ i. record { answer = byte_said gave (sym t.0 i); then = record { rooms = lent k; world = sym t.1 i } }, sound-with (data_read R k.transfer).regs read-lawful)

  -- ---- questions

  asked : (q : Question) → answer_to q (seen k) ≡ asked_in q R
  unfolding answer_to asked_in
  asked motor_on? = sym (ap flag_said (motor-told R H k.table k.bytes k.transfer s.possible s.nine s.seven))
  asked which_track? = sym (ap (byte_said stood) (track-told R H k.table k.bytes k.transfer s.possible s.nine s.seven))
  asked disk_in? = sym (ap flag_said (disk-told R H k.table k.bytes k.transfer (possible-in k.transfer R s.possible)))

  ask-agrees : (q : Question) → Agrees k (ask q)
  unfolding acted called
  ask-agrees q = (λ i. record { answer = asked q i; then = stage_of k }, s)

  -- ---- motor and disk

  motor-lawful : (on : Bool) → Lawful (motor_set on R).regs N
  unfolding motor_set
  motor-lawful on = rw (possible-in k.transfer R s.possible) (kept-motor R N lawful on)

  switch-agrees : (on : Bool) → Agrees k (switch on)
  unfolding acted called
  switch-agrees on =
      let t = motor-seen R H k.table k.bytes k.transfer s.possible s.nine s.seven on in
      (λ i. record { answer = done_said (sym t.0 i); then = record { rooms = lent k; world = sym t.1 i } }, sound-with (motor_set on R).regs (motor-lawful on))

  disk-lawful : (present : Bool) → Lawful (disk_set present R).regs N
  unfolding disk_set
  disk-lawful present = rw (possible-in k.transfer R s.possible) (kept-disk R N lawful present)

  -- a change that was done lends the other store
  swapped : (present : Bool) (t b : List ℕ) → Result (Unit {0}) Refusal → Host
  swapped present t b a = if_swapped a t b (With (disk_set present R).regs)

  swap-agrees : (present : Bool) (t b : List ℕ) → Agrees k (swap present t b)
  unfolding acted called swapped
  swap-agrees present t b =
      let d = disk-seen R H k.table k.bytes k.transfer s.possible s.nine s.seven present t b in
      let w = sound-of (with_store t b (With (disk_set present R).regs)) s.held (disk-lawful present) in (
        (λ i. record { answer = took silent; then = record { rooms = rooms_of b k.transfer; world = sym d.1 i } })
            ∙ (λ i. record { answer = done_said (sym d.0 i); then = stage_of (swapped present t b (sym d.0 i)) }),
        subst (λ (a : Result (Unit {0}) Refusal). Sound (swapped present t b a)) (sym d.0) w,
      )

  -- ---- a longer transfer buffer

  wider : (y : List ℕ) → transfer_room (k.transfer ++ y) ≡ min (N + length y) most_transfer
  unfolding transfer_room
  wider y = simp length-append (omega arith)

  pub no-smaller : (y : List ℕ) → N ≤ transfer_room (k.transfer ++ y)
  unfolding transfer_room
  no-smaller y = simp length-append (omega arith)

  same-front : (y : List ℕ) → front_of R k.transfer ≡ front_of R (k.transfer ++ y)
  unfolding front_of
  same-front y =
      let h : R.until ≤ length k.transfer = omega (arith, lawful.unread.inside, transfer-in k.transfer) in
      ap (λ (l : List ℕ). record { seek = R.drive.seek; reply = slice R.place R.fill R.reply; unread = drop R.from l; lost = R.lost })
      (sym (take-append-le R.until k.transfer y h))

  widen-agrees : (y : List ℕ) → Agrees k (widen y)
  unfolding acted called
  widen-agrees y = (
    λ i. record {
      answer = took silent;
      then = record { rooms = record { room = room_of k.bytes; transfer = sym (wider y) i }; world = record { inside = (seen k).inside; front = same-front y i } };
    },
    sound-of (with_more y k) s.held (lawful-wider R N (transfer_room (k.transfer ++ y)) (no-smaller y) lawful),
  )

  -- ---- a byte sent

  abbrev I : Inside
  I = inside_of R H (slot_of R k.table k.bytes)

  -- what it may be refused with
  abbrev May : Refusal → Type 0
  May = MayRefuse (Breaks (slot_of R k.table k.bytes))

  abbrev LeftAs : Result Sent Refusal → Left
  LeftAs y = left_of y R H k.table k.bytes k.transfer

  -- the host after a byte that was taken
  abbrev Then : Sent → Host
  Then y = record {
    floppy = record { regs = regs_responded y.effect.response (regs_all y.effect.changes (regs_taken y.taking R)); held = held_taken y.taking R H };
    table = table_with y.effect.put k.table;
    bytes = data_with y.effect.put k.bytes;
    transfer = transfer_with y.effect.response k.transfer;
  }

  module _ (b : ℕ) where
    pub write_as : (y : Result Sent Refusal) → sent (lent k) I b ≡ y → data_write R b H k.table k.bytes k.transfer ≡ LeftAs y
    unfolding data_write
    write_as y e = ap LeftAs (sym (sent-right R b H k.table k.bytes k.transfer s.possible s.held) ∙ e)

    port-as : (y : Result Sent Refusal) → sent (lent k) I b ≡ y → write_port (lent k) (seen k) b ≡ after y (λ v. Ok (done (seen k) v))
    unfolding write_port
    port-as y e = ap (λ (z : Result Sent Refusal). after z (λ v. Ok (done (seen k) v))) e

    abbrev SeesAs : Left → Result World Refusal → Type 0
    SeesAs l v = Sees R H k.table k.bytes k.transfer l (report_of (lent k) (seen k) b) v

    then-seen : (y : Sent) → sent (lent k) I b ≡ Ok y → seen (Then y) ≡ done (seen k) y
    unfolding left_of regs_of
    then-seen y e =
        let z : SeesAs (LeftAs (Ok y)) (Ok (done (seen k) y))
        = subst (SeesAs (LeftAs (Ok y))) (port-as (Ok y) e)
        (subst (λ (l : Left). SeesAs l (write_port (lent k) (seen k) b)) (write_as (Ok y) e)
        (write-seen R b H k.table k.bytes k.transfer s.possible s.nine s.seven s.held)) in
        z.1

    abbrev KeepsAs : Result Sent Refusal → Type 0
    KeepsAs = Keeps R b H k.table k.bytes k.transfer s.possible s.nine s.seven small s.held

    -- the rooms are those that were lent
    then-lent : (y : Sent) → KeepsAs (Ok y) → lent (Then y) ≡ lent k
    then-lent y q =
        ap₂ {C = Rooms} (λ (n m : ℕ). record { room = n; transfer = m })
        (room-kept k.bytes k.transfer y.effect.put q.1.1.1) (transfer-kept k.transfer y.effect.response q.1.1.0)

    then-sound : (y : Sent) → KeepsAs (Ok y) → Sound (Then y)
    then-sound y q =
        sound-of (Then y) q.1.0
        (subst (λ (n : ℕ). Lawful (Then y).floppy.regs n) (sym (transfer-kept k.transfer y.effect.response q.1.1.0)) q.0)

    -- what the call and the machine leave, by what the byte does
    abbrev CalledAs : Left → Next Answer Host
    CalledAs l = after_wrote (wrote_as l)

    send-go : (y : Result Sent Refusal) → sent (lent k) I b ≡ y → KeepsAs y
        → (byte_on (stage_of k) y ≡ record { answer = (CalledAs (LeftAs y)).answer; then = stage_of (CalledAs (LeftAs y)).then }) × Sound (CalledAs (LeftAs y)).then
    unfolding left_of regs_of
    send-go (Err why) e q = (refl, s)
    send-go (Ok y) e q = (λ i. record { answer = took y.effect.report; then = record { rooms = sym (then-lent y q) i; world = sym (then-seen y e) i } }, then-sound y q)

    send-agrees : Agrees k (send b)
    unfolding acted called write_port report_of
    send-agrees =
        let y : Result Sent Refusal = sent (lent k) I b in
        let z = send-go y refl (sent-keeps R b H k.table k.bytes k.transfer s.possible s.nine s.seven small s.held) in (
          z.0 ∙ ap (λ (l : Left). record { answer = (CalledAs l).answer; then = stage_of (CalledAs l).then }) (sym (write_as y refl)),
          subst (λ (l : Left). Sound (CalledAs l).then) (sym (write_as y refl)) z.1,
        )

    -- a byte that is refused is refused with nothing else
    sent-refused : (y : Result Sent Refusal) → KeepsAs y → (why : Refusal) → (byte_on (stage_of k) y).answer ≡ denied why → May why
    sent-refused (Err z) q why e = let p : z ≡ why = cc in subst May p q
    sent-refused (Ok y) q why e = never (cc)

    send-refused : (why : Refusal) → (acted (send b) (stage_of k)).answer ≡ denied why → May why
    unfolding acted write_port report_of
    send-refused why e =
        let y : Result Sent Refusal = sent (lent k) I b in
        sent-refused y (sent-keeps R b H k.table k.bytes k.transfer s.possible s.nine s.seven small s.held) why e

  acted-refused : (e : Event) (why : Refusal) → (acted e (stage_of k)).answer ≡ denied why → May why
  unfolding acted answer_to
  acted-refused poll why q = never (cc)
  acted-refused read why q = never (cc)
  acted-refused (send b) why q = send-refused b why q
  acted-refused (ask motor_on?) why q = never (cc)
  acted-refused (ask which_track?) why q = never (cc)
  acted-refused (ask disk_in?) why q = never (cc)
  acted-refused (switch on) why q = never (cc)
  acted-refused (swap present t b) why q = never (cc)
  acted-refused (widen y) why q = never (cc)

  -- A call on a controller that is one is the machine's, and leaves a controller that is one.
  pub agrees : (e : Event) → Agrees k e
  agrees poll = status-agrees
  agrees read = read-agrees
  agrees (send b) = send-agrees b
  agrees (ask q) = ask-agrees q
  agrees (switch on) = switch-agrees on
  agrees (swap present t b) = swap-agrees present t b
  agrees (widen y) = widen-agrees y

  called-refused : (e : Event) (why : Refusal) → (called e k).answer ≡ denied why → May why
  called-refused e why q = acted-refused e why (ap (λ (y : Next Answer Stage). y.answer) (agrees e).0 ∙ q)

  -- and it is not refused with 1, nor with 2 where no store that breaks the layout is in the drive
  pub tame : (e : Event) → (called e k).answer ≡ denied BadController → ⊥
  tame e q = called-refused e BadController q

  pub never-2 : Unbroken (in_drive (seen k)) → (e : Event) → (called e k).answer ≡ denied BadStore → ⊥
  unfolding inside_of
  never-2 h e q = called-refused e BadStore q h

  -- so is none there then
  pub call-unbroken : (e : Event) → PutsUnbroken e → Unbroken (in_drive (seen k)) → Unbroken (in_drive (seen (called e k).then))
  call-unbroken e q h = subst (λ (y : Next Answer Stage). Unbroken (in_drive y.then.world)) (agrees e).0 (acted-unbroken e (stage_of k) q h)
