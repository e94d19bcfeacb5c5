-- A controller whose numbers are possible keeps possible ones: one case for each thing that a call can do to its registers.
use Rattle.std.proofs.Common.{◌≡◌, ℕ, zero, suc, ◌+◌, ◌-◌, ◌%◌, ◌<◌, ◌≤◌, Bool, true, false, eqb, ltb, List, [], ◌∷◌, ◌++◌, length, get_or, set, replicate, sym, refl, ◌∙◌, subst, mod-lt, arith, length-append, length-set, ltb-true, le-ltb}
use lib.ListN.{length-replicate}
use borrow.Author.Tests.{eqb-false, lt-leb}
use Rattle.fields.proofs.Tests.{never}
use Rattle.store.specs.Store.{transfer_room}
use Rattle.codes.specs.Table.{command_of, bytes_for}
use Rattle.codes.proofs.Rows.{bytes-range}
use Rattle.registers.specs.declared.regs.Regs.{Regs}
use Rattle.registers.specs.declared.regs.Goal.{Goal}
use Rattle.registers.specs.declared.regs.Pending.{Pending}
use Rattle.registers.specs.declared.regs.Seek.{Seek}
use Rattle.registers.specs.declared.regs.Seek.TheVariants.{Idle, Running, Done}
use Rattle.registers.specs.Boxes.{setting_of, whole_of, Add, Hold, Change, Clear, MoveTo, Turn, Start, Finish}
use Rattle.registers.specs.Boxes.{Response, Stay, Reply, ReplyIfNone, Seeking, Interrupt, Serve}
use Rattle.registers.specs.Ports.{settled, Poll, Stays, Counts, Drops, poll_by, source_by}
use Rattle.registers.specs.View.{goal_of, wrong_work, wrong_write, impossible, impossible_in}
use Rattle.registers.specs.Settle.{regs_with_motor, regs_with_drive, sought, replied, pending_with, regs_taken, regs_changed, regs_all, if_unread, interrupted_by, regs_responded}
use Rattle.registers.specs.Calls.{regs_polled, after_status_of, source_of, regs_read}
use Rattle.registers.proofs.Numbers.{possible, possible-in, until-in, goal-kept, whole-most, work-more, write-right}
use Rattle.registers.specs.Possible.{Replying, Unread, Small, Lawful, Fair, AllFair, Short}

-- ---- possible numbers, box by box

-- they are those that refusal 1 does not name
pub lawful-so : (x : List ℕ) (r : Regs) → Lawful r (transfer_room x) → impossible_in x r ≡ false
unfolding impossible impossible_in
lawful-so x r w =
    let a = lt-leb (bytes_for (command_of (get_or r.command 0 0))) r.count w.command.below in
    let b = le-ltb (transfer_room x) r.until w.unread.inside in
    let c = le-ltb r.until r.from w.unread.read in
    rw (le-ltb r.fill r.place w.reply.read, c, le-ltb 7 r.fill w.reply.few, a, le-ltb 2 r.lost w.unread.few, w.write, b)

pub so-lawful : (x : List ℕ) (r : Regs) → length r.command ≡ 9 → length r.reply ≡ 7 → Small r.index r.write.taken r.setting → impossible_in x r ≡ false
    → Lawful r (transfer_room x)
so-lawful x r nine seven small e =
    let p = possible r (possible-in x r e) in
    record {
      command = record { nine = nine; below = p.count-in };
      reply = record { seven = seven; read = p.place_in; few = p.fill-in };
      unread = record { read = p.from_in; inside = until-in x r e; few = p.lost-in };
      write = p.write-in;
      small = small;
    }

-- and no smaller room is lent
pub lawful-wider : (r : Regs) (n m : ℕ) → n ≤ m → Lawful r n → Lawful r m
lawful-wider r n m h w =
    let u : Unread r.from r.until r.lost m = record { read = w.unread.read; inside = omega (arith, h, w.unread.inside); few = w.unread.few } in
    record { command = w.command; reply = w.reply; unread = u; write = w.write; small = w.small }

module _ (r : Regs) (room : ℕ) (w : Lawful r room) where
  -- ---- a status read: it stays, counts or drops

  kept-poll : (q : Poll) → (q ≡ Counts → r.lost < 2) → (q ≡ Drops → r.from < r.until) → Lawful (regs_polled q (sought (settled r.drive.seek) r)) room
  unfolding regs_polled
  kept-poll Stays c d = record { command = w.command; reply = w.reply; unread = w.unread; write = w.write; small = w.small }
  kept-poll Counts c d =
      record { command = w.command; reply = w.reply; unread = record { read = w.unread.read; inside = w.unread.inside; few = omega (arith, c refl) }; write = w.write; small = w.small }
  kept-poll Drops c d =
      record { command = w.command; reply = w.reply; unread = record { read = omega (arith, d refl); inside = w.unread.inside; few = omega arith }; write = w.write; small = w.small }

  counts-below : (on unread two : Bool) → eqb r.lost 2 ≡ two → poll_by on unread two ≡ Counts → r.lost < 2
  counts-below true unread two e q = never (cc)
  counts-below false false two e q = never (cc)
  counts-below false true true e q = never (cc)
  counts-below false true false e q = let d : r.lost ≡ 2 → ⊥ = eqb-false r.lost 2 e in omega (arith, w.unread.few, d)

  drops-some : (on unread two : Bool) → ltb r.from r.until ≡ unread → poll_by on unread two ≡ Drops → r.from < r.until
  drops-some true unread two e q = never (cc)
  drops-some false false two e q = never (cc)
  drops-some false true two e q = ltb-true r.from r.until e

  pub kept-status : Lawful (after_status_of r) room
  unfolding after_status_of
  kept-status =
      let two : Bool = eqb r.lost 2 in
      let unread : Bool = ltb r.from r.until in
      kept-poll (poll_by r.write.on unread two) (counts-below r.write.on unread two refl) (drops-some r.write.on unread two refl)

  -- ---- a read of the data port: of data, of a reply, of neither

  kept-source : (u v : Bool) → ltb r.from r.until ≡ u → ltb r.place r.fill ≡ v → Lawful (regs_read (source_by u v) r) room
  unfolding regs_read
  kept-source true v e f =
      let g = ltb-true r.from r.until e in
      record { command = w.command; reply = w.reply; unread = record { read = omega (arith, g); inside = w.unread.inside; few = omega arith }; write = w.write; small = w.small }
  kept-source false true e f = record {
    command = w.command;
    reply = record { seven = w.reply.seven; read = omega (arith, ltb-true r.place r.fill f); few = w.reply.few };
    unread = record { read = w.unread.read; inside = w.unread.inside; few = omega arith };
    write = w.write;
    small = w.small;
  }
  kept-source false false e f =
      record { command = w.command; reply = w.reply; unread = record { read = w.unread.read; inside = w.unread.inside; few = omega arith }; write = w.write; small = w.small }

  pub kept_read : Lawful (regs_read (source_of r) r) room
  kept_read = kept-source (ltb r.from r.until) (ltb r.place r.fill) refl refl

  -- ---- motor and disk

  pub kept-motor : (on : Bool) → Lawful (regs_with_motor on r) room
  kept-motor on = record { command = w.command; reply = w.reply; unread = w.unread; write = w.write; small = w.small }

  pub kept-disk : (present : Bool) → Lawful (regs_with_drive (record { cylinder = r.drive.cylinder; seek = r.drive.seek; disk = present }) r) room
  kept-disk present = record { command = w.command; reply = w.reply; unread = w.unread; write = w.write; small = w.small }

  -- ---- a byte of a command: part of it, or the last, with which its bytes are done with

  first-set : (l : List ℕ) (n b : ℕ) → 1 ≤ n → get_or (set l n b) 0 0 ≡ get_or l 0 0
  first-set [] n b h = refl
  first-set (x ∷ l) zero b h = absurd (omega (arith, h))
  first-set (x ∷ l) (suc n) b h = refl

  -- a byte that is not the last leaves the count below the length, whether it is the first or not
  still-below : (b n : ℕ) → r.count ≡ n → let k : ℕ = bytes_for (command_of (get_or (set r.command n b) 0 0)) in (n + 1 ≡ k → ⊥) → n + 1 < k
  still-below b zero e q = let g = (bytes-range (command_of (get_or (set r.command 0 b) 0 0))).0 in omega (arith, g, q)
  still-below b (suc n) e q =
      let f : get_or (set r.command (suc n) b) 0 0 ≡ get_or r.command 0 0 = first-set r.command (suc n) b (omega arith) in
      let g : suc n < bytes_for (command_of (get_or r.command 0 0)) = subst (λ (k : ℕ). k < bytes_for (command_of (get_or r.command 0 0))) e w.command.below in
      let h : suc n < bytes_for (command_of (get_or (set r.command (suc n) b) 0 0)) = subst (λ (k : ℕ). suc n < bytes_for (command_of k)) (sym f) g in
      omega (arith, h, q)

  pub kept-part : (b : ℕ) → (r.count + 1 ≡ bytes_for (command_of (get_or (set r.command r.count b) 0 0)) → ⊥) → Lawful (regs_taken (Add b) r) room
  kept-part b q = record {
    command = record { nine = length-set r.command r.count b ∙ w.command.nine; below = still-below b r.count refl q };
    reply = w.reply;
    unread = w.unread;
    write = w.write;
    small = w.small;
  }

  pub kept-last : (b : ℕ) → Lawful (regs_changed Clear (regs_taken (Add b) r)) room
  kept-last b = record {
    command = record {
      nine = length-set r.command r.count b ∙ w.command.nine;
      below = omega (arith, (bytes-range (command_of (get_or (set r.command r.count b) 0 0))).0);
    };
    reply = w.reply;
    unread = w.unread;
    write = w.write;
    small = w.small;
  }

  -- ---- a byte of a write: one that is held, or the last, with which the write is done with

  held-right : (f : Bool) (p : Pending) → wrong_work (setting_of r.setting) p.c1 (goal_of p) p.taken ≡ false → p.taken + 1 < whole_of (goal_of p)
      → wrong_write (setting_of r.setting) (pending_with f (p.taken + 1) p) ≡ false
  held-right true p e h = work-more (setting_of r.setting) p.c1 (goal_of p) p.taken (p.taken + 1) h e
  held-right false p e h = refl

  pub kept-held : (b : ℕ) → r.write.on ≡ true → r.write.taken + 1 < whole_of (goal_of r.write) → Lawful (regs_taken (Hold b) r) room
  kept-held b on h =
      let right = held-right r.write.on r.write (write-right (setting_of r.setting) r.write w.write on) h in
      let most = whole-most (goal_of r.write) in
      let fits : Small r.index (r.write.taken + 1) r.setting =
      record { index-fits = w.small.index-fits; taken-fits = omega (arith, h, most); setting-fits = w.small.setting-fits } in
      record { command = w.command; reply = w.reply; unread = w.unread; write = right; small = fits }

  pub kept-ended : (b : ℕ) → Lawful (regs_changed Finish (regs_taken (Hold b) r)) room
  kept-ended b =
      let fits : Small r.index 0 r.setting = record { index-fits = w.small.index-fits; taken-fits = omega arith; setting-fits = w.small.setting-fits } in
      record { command = w.command; reply = w.reply; unread = w.unread; write = refl; small = fits }

-- ---- changes that a command brings

module _ (room : ℕ) where
  kept-change : (x : Change) (r : Regs) → Fair (setting_of r.setting) x → Lawful r room → Lawful (regs_changed x r) room
  kept-change Clear r f w = record {
    command = record { nine = w.command.nine; below = omega (arith, (bytes-range (command_of (get_or r.command 0 0))).0) };
    reply = w.reply;
    unread = w.unread;
    write = w.write;
    small = w.small;
  }
  kept-change (MoveTo c) r f w = record { command = w.command; reply = w.reply; unread = w.unread; write = w.write; small = w.small }
  kept-change Turn r f w =
      let fits : Small ((r.index + 1) % 65536) r.write.taken r.setting = record { index-fits = mod-lt (r.index + 1) (omega arith); taken-fits = w.small.taken-fits; setting-fits = w.small.setting-fits } in
      record { command = w.command; reply = w.reply; unread = w.unread; write = w.write; small = fits }
  kept-change (Start c1 g) r f w =
      let back = sym (goal-kept g) in
      let fits : Small r.index 0 r.setting = record { index-fits = w.small.index-fits; taken-fits = omega arith; setting-fits = w.small.setting-fits } in
      let right = subst (λ (x : Goal). wrong_work (setting_of r.setting) c1 x 0 ≡ false) back f in
      record { command = w.command; reply = w.reply; unread = w.unread; write = right; small = fits }
  kept-change Finish r f w =
      let fits : Small r.index 0 r.setting = record { index-fits = w.small.index-fits; taken-fits = omega arith; setting-fits = w.small.setting-fits } in
      record { command = w.command; reply = w.reply; unread = w.unread; write = refl; small = fits }

  -- none of them changes what the controller was made with
  pub setting_kept : (x : Change) (r : Regs) → (regs_changed x r).setting ≡ r.setting
  setting_kept Clear r = refl
  setting_kept (MoveTo c) r = refl
  setting_kept Turn r = refl
  setting_kept (Start c1 g) r = refl
  setting_kept Finish r = refl

  pub kept-changes : (xs : List Change) (r : Regs) → AllFair (setting_of r.setting) xs → Lawful r room → Lawful (regs_all xs r) room
  unfolding regs_all
  kept-changes [] r f w = w
  kept-changes (x ∷ xs) r f w =
      kept-changes xs (regs_changed x r) (subst (λ (n : ℕ). AllFair (setting_of n) xs) (sym (setting_kept x r)) f.1) (kept-change x r f.0 w)

  -- ---- responses

  padded : (bytes : List ℕ) → length bytes ≤ 7 → Replying (bytes ++ replicate (7 - length bytes) 0) 0 (length bytes)
  padded bytes e = record { seven = simp (length-append, length-replicate) (omega arith); read = omega arith; few = e }

  kept-reply : (bytes : List ℕ) (r : Regs) → length bytes ≤ 7 → Lawful r room → Lawful (replied bytes r) room
  kept-reply bytes r e w = record { command = w.command; reply = padded bytes e; unread = w.unread; write = w.write; small = w.small }

  kept-sought : (s : Seek) (r : Regs) → Lawful r room → Lawful (sought s r) room
  kept-sought s r w = record { command = w.command; reply = w.reply; unread = w.unread; write = w.write; small = w.small }

  pub kept-response : (x : Response) (r : Regs) → Short room x → Lawful r room → Lawful (regs_responded x r) room
  unfolding regs_responded
  kept-response Stay r q w = w
  kept-response (Reply bytes) r q w = kept-reply bytes r q w
  kept-response (ReplyIfNone bytes) r q w = go (ltb r.place r.fill)
    where
      go : (v : Bool) → Lawful (if_unread v bytes r) room
      go true = unfold if_unread in w
      go false = unfold if_unread in kept-reply bytes r q w
  kept-response Seeking r q w = kept-reply [] (sought Running r) (omega arith) (kept-sought Running r w)
  kept-response (Interrupt c y) r q w = go r.drive.seek
    where
      go : (k : Seek) → Lawful (interrupted_by c y r k) room
      go Idle = unfold interrupted_by in kept-reply y r q w
      go Running = unfold interrupted_by in kept-reply (0x20 ∷ c ∷ []) (sought Done r) (omega arith) (kept-sought Done r w)
      go Done = unfold interrupted_by in kept-reply y r q w
  kept-response (Serve bytes reply) r q w =
      record { command = w.command; reply = padded reply q.1; unread = record { read = omega arith; inside = q.0; few = w.unread.few }; write = w.write; small = w.small }
