-- A Read Data after a save hands out its bytes, and then the reply.
use mathlib.Core.Path.{◌≡◌, refl, sym, ap, subst, ◌∙◌}
use Prim.Native.Nat.{ℕ, suc, ◌+◌, ◌-◌, ◌≤◌}
use native.Mathlib.Omega.{arith}
use mathlib.Core.Bool.{Bool, true, false}
use mathlib.Core.List.{List, [], ◌∷◌, ◌++◌, append-nil}
use lib.ListN.{length, take}
use lib.Dec.{leb}
use borrow.Author.Tests.{eq-eqb}
use Rattle.fields.specs.Bytes.{with_bit}
use Rattle.fields.specs.Refusals.{need}
use Rattle.fields.specs.Model.{size_of, total, Sector, Track, Disk}
use Rattle.fields.specs.declared.id.SectorId.{SectorId}
use Rattle.fields.specs.declared.refusal.Refusal.TheVariants.{NoTransferRoom}
use Rattle.fields.proofs.Tests.{never}
use Rattle.store.specs.Find.{Found, nothing, found, find}
use Rattle.store.specs.Search.{is_track, in_track, sector_at, match_at, joined, run_from, read_in, read_at}
use Rattle.store.specs.Store.{contents}
use Rattle.disk.specs.Change.{with_content}
use Rattle.disk.specs.Calls.{end_of}
use Rattle.codes.specs.declared.command.Command.TheVariants.{ReadData}
use Rattle.registers.specs.Boxes.{Setting}
use Rattle.registers.specs.Boxes.{Rooms, Inside, Front, World, Add, Serve, Sent, serves, responded}
use Rattle.registers.specs.declared.regs.Report.{Report}
use Rattle.codes.specs.Table.{command_of}
use Rattle.registers.specs.Ports.{polled, Poll, Stays, Counts, Drops, after_status, given, read_from, port_byte, after_read}
use Rattle.codes.specs.Second.{u, drive_of, head_of}
use Rattle.commands.specs.Commands.{tells, mark_of, sizes_of, read_reply, served_as, read_data, obeyed}
use Rattle.sending.specs.Machine.{sends, clearing, command_if, command_byte, byte_for, sent, done, write_port, report_of}
use Rattle.saves.specs.Events.{Question, motor_on?, which_track?, disk_in?, Event, poll, read, send, ask, switch, swap, widen, Answer, Next, run, granted}
use Rattle.saves.specs.Stages.{Stage, answer_to, acted}
use Rattle.saves.specs.Words.{Ready, Save, bytes_of, address_of, IsSave, saved_by, Sends, ReadsBack, read_bytes, reply_to, LosesNone, data_reads, given_in}
use Rattle.saves.proofs.Finds.{map_found}
use Rattle.saves.proofs.Places.{save-found, save-only}
use Rattle.saves.proofs.Feeding.{fed, byte_on, run-fed, partly, part-fed}
use Rattle.saves.proofs.Demand.{drive-0, saved-inside}
use Rattle.std.specs.Prelude.{Result, Ok}
use Rattle.fields.specs.declared.refusal.Refusal.{Refusal}

-- ---- what is handed out

-- a status read leaves the reply
polled-reply : (q : Poll) (f : Front) → (polled q f).reply ≡ f.reply
unfolding polled
polled-reply Stays f = refl
polled-reply Counts f = refl
polled-reply Drops f = refl

status-reply : (w : World) → (after_status w).front.reply ≡ w.front.reply
unfolding after_status
status-reply w = polled-reply _ w.front

-- a data-port read gives the first unread byte, and then the first of the reply
data-first : (w : World) (x : ℕ) (xs : List ℕ) → w.front.unread ≡ x ∷ xs → (port_byte w ≡ x) × (((after_read w).front.unread ≡ xs) × ((after_read w).front.reply ≡ w.front.reply))
unfolding port_byte given after_read read_from
data-first w x xs e = rw e (refl, (refl, refl))

reply-first : (w : World) (y : ℕ) (ys : List ℕ) → w.front.unread ≡ [] → w.front.reply ≡ y ∷ ys → (port_byte w ≡ y) × (((after_read w).front.unread ≡ []) × ((after_read w).front.reply ≡ ys))
unfolding port_byte given after_read read_from
reply-first w y ys e f = rw (e, f) (refl, (refl, refl))

-- nor is an answer to a question a byte that the data port gave
asked-gives : (q : Question) (w : World) (l : List Answer) → given_in (answer_to q w ∷ l) ≡ given_in l
unfolding answer_to given_in
asked-gives motor_on? w l = refl
asked-gives which_track? w l = refl
asked-gives disk_in? w l = refl

-- what is handed out to port reads of which no status read loses a byte: the data, and then the reply, as far as they are read
pub handed : (es : List Event) (g : Stage) (xs ys : List ℕ) → g.world.front.unread ≡ xs → g.world.front.reply ≡ ys → LosesNone es g.world
    → data_reads es ≤ length xs + length ys → given_in (run acted es g).answers ≡ take (data_reads es) (xs ++ ys)
unfolding run acted LosesNone data_reads given_in
handed [] g xs ys e f h n = refl
handed (poll ∷ es) g xs ys e f h n = handed es (acted poll g).then xs ys (h.0 ∙ e) (status-reply g.world ∙ f) h.1 n
handed (ask q ∷ es) g xs ys e f h n = asked-gives q g.world (run acted es g).answers ∙ handed es g xs ys e f h n
handed (read ∷ es) g (x ∷ xs) ys e f h n =
    let d = data-first g.world x xs e in
    (λ i. d.0 i ∷ handed es (acted read g).then xs ys d.1.0 (d.1.1 ∙ f) h (omega arith) i)
handed (read ∷ es) g [] (y ∷ ys) e f h n =
    let d = reply-first g.world y ys e f in
    (λ i. d.0 i ∷ handed es (acted read g).then [] ys d.1.0 d.1.1 h (omega arith) i)
handed (read ∷ es) g [] [] e f h n = absurd (omega arith)
handed (send b ∷ es) g xs ys e f h n = absurd h
handed (switch on ∷ es) g xs ys e f h n = absurd h
handed (swap present t b ∷ es) g xs ys e f h n = absurd h
handed (widen y ∷ es) g xs ys e f h n = absurd h

-- ---- the Read Data

-- of a sector that is found, with eot at most its number, it alone is read
read_one : (o : Found Track) (id : SectorId) (eot k : ℕ) (z : Sector) → in_track id o ≡ found k z → eot ≤ id.r → read_in id eot o ≡ z ∷ []
read_one nothing id eot k z e h = never (cc)
read_one (found n t) id eot k z e h =
    let y : eot - id.r ≡ 0 = omega arith in
    ap (λ (m : ℕ). run_from id t.sectors id.r (suc m)) y ∙ (unfold run_from in ap (λ (v : Found Sector). joined v []) e)

-- the effect of the last byte, if it is not refused
module _ (room : ℕ) (told : Report) (bytes reply : List ℕ) where
  served : (v : Bool) (g : Stage) (b : ℕ)
      → let y : Next Answer Stage = byte_on g (sends (Add b) (clearing (need v NoTransferRoom (tells told [] (Serve bytes reply))))) in
      granted (y.answer ∷ []) ≡ true → (y.then.world.front.unread ≡ bytes) × (y.then.world.front.reply ≡ reply)
  unfolding done responded granted
  served true g b e = (refl, refl)
  served false g b e = never (cc)

  serves-them : (v : Bool) (g : Stage) (b : ℕ)
      → sent g.rooms g.world.inside b ≡ sends (Add b) (clearing (need v NoTransferRoom (tells told [] (Serve bytes reply))))
      → granted (run acted (send b ∷ []) g).answers ≡ true
      → ((run acted (send b ∷ []) g).end.world.front.unread ≡ bytes) × ((run acted (send b ∷ []) g).end.world.front.reply ≡ reply)
  unfolding run acted write_port report_of
  serves-them v g b e ok =
      subst (λ (x : Result Sent Refusal). let y : Next Answer Stage = byte_on g x in
      granted (y.answer ∷ []) ≡ true → (y.then.world.front.unread ≡ bytes) × (y.then.world.front.reply ≡ reply))
      (sym e) (served v g b) ok

-- the last byte of a Read Data that finds one sector
module _ (s : Rooms) (σ : Setting) (m : Bool) (c x : ℕ) (new : Disk) (code c1 : ℕ) (id : SectorId) (eot gap dtl : ℕ) (z : Sector) where
  abbrev Nine : List ℕ
  Nine = code ∷ c1 ∷ id.c ∷ id.h ∷ id.r ∷ id.n ∷ eot ∷ gap ∷ dtl ∷ []

  abbrev Reply : List ℕ
  Reply = read_reply false Nine (length (contents (z ∷ []))) (sizes_of (z ∷ [])) z.st1.bits z.st2.bits

  last-sent : command_of code ≡ ReadData → drive_of c1 ≡ 0 → read_at new (head_of c1) c id eot ≡ z ∷ []
      → sent s (partly σ m c x new (code ∷ c1 ∷ id.c ∷ id.h ∷ id.r ∷ id.n ∷ eot ∷ gap ∷ [])) dtl
      ≡ sends (Add dtl) (clearing (need (leb (length (contents (z ∷ []))) s.transfer) NoTransferRoom (tells (serves (match_at new (head_of c1) c id)) [] (Serve (contents (z ∷ [])) Reply))))
  unfolding sent byte_for command_byte command_if obeyed read_data served_as
  last-sent e f g = rw (e, drive-0 c1 c new f, g)

  -- the reply, where the bytes are as many as n calls for
  last-reply : length (contents (z ∷ [])) ≡ sizes_of (z ∷ []) → Reply ≡ (u c1 + 0x40) ∷ with_bit 0x80 z.st1.bits ∷ z.st2.bits ∷ id.c ∷ id.h ∷ eot ∷ id.n ∷ []
  unfolding read_reply end_of mark_of
  last-reply e = rw (eq-eqb (length (contents (z ∷ []))) (sizes_of (z ∷ [])) e)

module _ (a : Save) (d : Disk) (c1 eot : ℕ) (save : IsSave a d) where
  -- the sector as it then is
  abbrev Kept : Sector
  Kept = with_content a.content save.sector

  kept_there : head_of c1 ≡ head_of a.c1 → sector_at (saved_by a d) (head_of c1) a.cylinder a.id ≡ found save.place Kept
  unfolding address_of
  kept_there e =
      ap (λ (h : ℕ). sector_at (saved_by a d) h a.cylinder a.id) e
      ∙ save-found (address_of a) a.content d
      ∙ ap (map_found (with_content a.content)) save.there

  kept_read : head_of c1 ≡ head_of a.c1 → eot ≤ a.id.r → read_at (saved_by a d) (head_of c1) a.cylinder a.id eot ≡ Kept ∷ []
  unfolding read_at sector_at
  kept_read e h = read_one (find (is_track (head_of c1) a.cylinder) (saved_by a d)) a.id eot save.place Kept (kept_there e) h

  kept-bytes : contents (Kept ∷ []) ≡ a.content
  unfolding contents
  kept-bytes = append-nil a.content

  kept-long : length (contents (Kept ∷ [])) ≡ sizes_of (Kept ∷ [])
  unfolding total address_of
  kept-long =
      let n : save.sector.id ≡ a.id = (save-only (address_of a) a.content save.place save.sector d save.there).named-so in
      let e : size_of save.sector.id.n ≡ size_of a.id.n = ap (λ (i : SectorId). size_of i.n) n in
      ap length kept-bytes ∙ omega (arith, save.as_many, e)

-- A Read Data of the saved sector alone, sent next with port reads and questions wherever they fall, hands out the save's bytes in order and then the
-- reply, to any number of data-port reads up to both, of which no status read loses a byte.
pub read_back : (a : Save) (d : Disk) (code c1 eot gap dtl : ℕ) (g : Stage) (es fs gs : List Event)
    → Ready g.world d → (save : IsSave a d) → Sends es (bytes_of a) (run acted es g).answers
    → let p : Stage = (run acted es g).end in
    ReadsBack a code c1 eot → Sends fs (read_bytes a code c1 eot gap) (run acted fs p).answers
    → let q : Stage = (run acted fs p).end in
    Sends (send dtl ∷ []) (dtl ∷ []) (run acted (send dtl ∷ []) q).answers
    → let r : Stage = (run acted (send dtl ∷ []) q).end in
    LosesNone gs r.world → data_reads gs ≤ length a.content + 7
    → given_in (run acted gs r).answers ≡ take (data_reads gs) (a.content ++ reply_to a c1 eot save.sector)
unfolding read_bytes reply_to
read_back a d code c1 eot gap dtl g es fs gs ready save made back began last none-lost few =
    let σ : Setting = g.world.inside.setting in
    let m : Bool = g.world.inside.motor in
    let x : ℕ = g.world.inside.index in
    let p : Stage = (run acted es g).end in
    let q : Stage = (run acted fs p).end in
    let eight : List ℕ = code ∷ c1 ∷ a.id.c ∷ a.id.h ∷ a.id.r ∷ a.id.n ∷ eot ∷ gap ∷ [] in
    let i : Inside = partly σ m a.cylinder x (saved_by a d) eight in
    let f = run-fed fs p eight began.sends began.grants in
    let e : Ok q.world.inside ≡ Ok i
    = sym f.inside ∙ ap (fed p.rooms eight) (saved-inside a d g es ready save made)
    ∙ part-fed p.rooms σ m a.cylinder x (saved_by a d) code ReadData back.reads (c1 ∷ a.id.c ∷ a.id.h ∷ a.id.r ∷ a.id.n ∷ eot ∷ gap ∷ []) (omega arith) in
    let inside_is : q.world.inside ≡ i = cc in
    let z : Sector = with_content a.content save.sector in
    let sent_is = ap (λ (j : Inside). sent q.rooms j dtl) inside_is
    ∙ last-sent q.rooms σ m a.cylinder x (saved_by a d) code c1 a.id eot gap dtl z back.reads back.drive-0 (kept_read a d c1 eot save back.same_head back.alone) in
    let front = serves-them q.rooms.transfer _ (contents (z ∷ [])) _ (leb (length (contents (z ∷ []))) q.rooms.transfer) q dtl sent_is last.grants in
    handed gs (run acted (send dtl ∷ []) q).end a.content (reply_to a c1 eot save.sector)
    (front.0 ∙ kept-bytes a d c1 eot save)
    (front.1 ∙ last-reply q.rooms σ m a.cylinder x (saved_by a d) code c1 a.id eot gap dtl z (kept-long a d c1 eot save))
    none-lost (unfold reply_to in few)
