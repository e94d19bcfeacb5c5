-- A byte sent: from the parts that the functions promise to what the call promises.
use mathlib.Core.Path.{◌≡◌, refl, sym, ap, subst, ◌∙◌}
use Prim.Native.Nat.{ℕ, ◌+◌, ◌≤◌, ◌<◌}
use native.Mathlib.Omega.{arith}
use native.Mathlib.Numerals.{add-one}
use mathlib.Core.Bool.{Bool, true, false, not, ◌||◌}
use mathlib.Core.List.{List, [], ◌∷◌, ◌++◌}
use lib.ListN.{length, get_or, set, take, length-append, length-take, length-set}
use lib.Seq.{get_or-take, take-suc-set, set-set, set-get_or, take_all}
use lib.Dec.{eqb}
use borrow.Author.Tests.{eq-eqb, ne_eqb}
use Rattle.fields.specs.declared.refusal.Refusal.{Refusal}
use Rattle.fields.specs.declared.refusal.Refusal.TheVariants.{BadController}
use Rattle.fields.proofs.Tests.{never}
use Rattle.codes.specs.declared.command.Command.{Command}
use Rattle.codes.specs.declared.command.Command.TheVariants.{Specify, SenseDrive, Recalibrate, SenseInterrupt, SeekTo, Version, ReadData, ReadDeleted, WriteData, ReadId, FormatTrack, Unserved, Invalid}
use Rattle.registers.specs.declared.regs.Goal.{Goal}
use Rattle.registers.specs.declared.regs.Regs.{Regs}
use Rattle.registers.specs.declared.regs.Pending.{Pending}
use Rattle.registers.specs.declared.regs.Report.{Report}
use Rattle.registers.specs.Boxes.{setting_of, Setting, silent, Rooms, Drives, Named, named, whole_of, Inside, Add, Hold, Clear, Effect, Sent}
use Rattle.codes.specs.Table.{command_of, bytes_for}
use Rattle.commands.specs.Commands.{byte, ready, format_at_once, has_phase, format_if, format_track, obeyed}
use Rattle.sending.specs.Machine.{sends, clearing, command_if, command_byte, data_if, data_byte, byte_for, sent}
use Rattle.registers.specs.View.{rooms_of, slot_of, drives_of, named_in, goal_of, writing_of, writing_if, inside_of, impossible_in}
use Rattle.registers.specs.Settle.{accepted, declined, regs_taken, regs_changed, regs_all, regs_responded, regs_of, kept_if, kept}
use Rattle.commands.specs.Lent.{table_with, data_with, table_after, data_after, Stores, Ran, ran, ran_of, into_here, written_here, ran_here, Left, left, left_of}
use Rattle.sending.specs.Calls.{command_here, data_here, impossible_with, sent_to, data_write}
use Rattle.commands.proofs.Runs.{still-response, Still, still-written}
use Rattle.fields.specs.Capacities.{most_held}
use Rattle.registers.proofs.Numbers.{whole-most}
use Rattle.std.specs.Prelude.{Result, Ok, Err}
use Rattle.registers.specs.declared.regs.Answered.{Answered}

-- ---- a byte of a command

-- of the array only the command's bytes count
format-same : (y : Setting) (s : Rooms) (l : List ℕ) (n : Named) → length l ≡ 9 → format_track y s l n ≡ format_track y s (take 6 l) n
unfolding format_track format_at_once
format-same y s l n h =
    let three : byte l 3 ≡ byte (take 6 l) 3 = sym (get_or-take 6 l 3 0 (omega arith)) in
    ap (λ (k : ℕ). format_if (has_phase y.machine k (ready n.slot)) s l n) three ∙ by (has_phase y.machine (byte (take 6 l) 3) (ready n.slot))
  where
    by : (v : Bool) → format_if v s l n ≡ format_if v s (take 6 l) n
    by true =
        rw (get_or-take 6 l 1 0 (omega arith), get_or-take 6 l 2 0 (omega arith), get_or-take 6 l 3 0 (omega arith), get_or-take 6 l 4 0 (omega arith), get_or-take 6 l 5 0 (omega arith))
    by false =
        rw (get_or-take 6 l 1 0 (omega arith), get_or-take 6 l 2 0 (omega arith), get_or-take 6 l 3 0 (omega arith), get_or-take 6 l 4 0 (omega arith), get_or-take 6 l 5 0 (omega arith))

front_same : (y : Setting) (s : Rooms) (k : Command) (l : List ℕ) (d : Drives) (index : ℕ) → length l ≡ 9
    → obeyed y s k l d index ≡ obeyed y s k (take (bytes_for k) l) d index
unfolding obeyed
front_same y s Specify l d i h = refl
front_same y s SenseDrive l d i h = rw (get_or-take 2 l 1 0 (omega arith))
front_same y s Recalibrate l d i h = rw (get_or-take 2 l 1 0 (omega arith))
front_same y s SenseInterrupt l d i h = refl
front_same y s SeekTo l d i h = rw (get_or-take 3 l 1 0 (omega arith), get_or-take 3 l 2 0 (omega arith))
front_same y s Version l d i h = refl
front_same y s ReadData l d i h = rw (take_all 9 l (omega arith))
front_same y s ReadDeleted l d i h = rw (take_all 9 l (omega arith))
front_same y s WriteData l d i h = rw (take_all 9 l (omega arith))
front_same y s ReadId l d i h = rw (get_or-take 2 l 1 0 (omega arith))
front_same y s FormatTrack l d i h =
    format-same y s l (named (byte l 1) d) h ∙ ap (λ (k : ℕ). format_track y s (take 6 l) (named k d)) (sym (get_or-take 6 l 1 0 (omega arith)))
front_same y s Unserved l d i h = refl
front_same y s Invalid l d i h = refl

module _ (r : Regs) (b : ℕ) (h t d x : List ℕ) where
  -- a command that is obeyed, and where it refuses the registers as they came
  to_left : Ran → Left
  to_left (ran a t' d' x') = left (kept r a) h t' d' x'

  keep-sent : (e : Result Effect Refusal) → to_left (ran_of e (regs_changed Clear (regs_taken (Add b) r)) t d x) ≡ left_of (sends (Add b) (clearing e)) r h t d x
  unfolding to_left left_of regs_of regs_all
  keep-sent (Err why) = refl
  keep-sent (Ok e) = refl

  module _ (few : r.count < 9) (long : length r.command ≡ 9) where
    abbrev Array : List ℕ
    Array = set r.command r.count b

    abbrev All : List ℕ
    All = take r.count r.command ++ (b ∷ [])

    all_list : All ≡ take (r.count + 1) Array
    all_list = rw (add-one, take-suc-set r.command r.count b (omega arith))

    pub all_first : byte All 0 ≡ get_or Array 0 0
    all_first = ap (λ (l : List ℕ). get_or l 0 0) all_list ∙ get_or-take (r.count + 1) Array 0 0 (omega arith)

    pub all-length : length All ≡ r.count + 1
    all-length = simp (length-append, length-take) (omega arith)

    array_long : length Array ≡ 9
    array_long = length-set r.command r.count b ∙ long

    module _ (k : Command) (n : ℕ) (ek : k ≡ command_of (get_or Array 0 0)) (en : n ≡ bytes_for k) where
      command-is : command_of (byte All 0) ≡ k
      command-is = ap command_of all_first ∙ sym ek

      pub command-part : (r.count + 1 ≡ n → ⊥) → left (accepted silent (regs_taken (Add b) r)) h t d x ≡ left_of (command_here r b t d x) r h t d x
      unfolding command_byte command_if left_of regs_of regs_all regs_responded
      command-part q =
          let e : eqb (length All) (bytes_for k) ≡ false = ne_eqb _ _ (λ z. q (sym all-length ∙ z ∙ sym en)) in
          rw (command-is, e)

      abbrev Obeyed : List ℕ → Result Effect Refusal
      Obeyed l = obeyed (setting_of r.setting) (rooms_of d x) k l (drives_of r t d) r.index

      command-whole : r.count + 1 ≡ n → (a : Answered Report) (t' d' x' : List ℕ)
          → ran a t' d' x' ≡ ran_of (Obeyed Array) (regs_changed Clear (regs_taken (Add b) r)) t d x
          → left (kept r a) h t' d' x' ≡ left_of (command_here r b t d x) r h t d x
      unfolding command_byte command_if to_left
      command-whole q a t' d' x' e =
          let m : r.count + 1 ≡ bytes_for k = q ∙ en in
          let f : eqb (length All) (bytes_for k) ≡ true = eq-eqb _ _ (all-length ∙ m) in
          let g : Obeyed Array ≡ Obeyed All =
          front_same (setting_of r.setting) (rooms_of d x) k Array (drives_of r t d) r.index array_long
          ∙ ap (λ (j : ℕ). Obeyed (take j Array)) (sym m)
          ∙ ap Obeyed (sym all_list) in
          rw (command-is, f)
          (ap to_left (e ∙ ap (λ (y : Result Effect Refusal). ran_of y (regs_changed Clear (regs_taken (Add b) r)) t d x) g)
          ∙ keep-sent (Obeyed All))

      -- the same, from the registers that the functions answered
      pub command-from : (added cleared : Regs) (a a' : Answered Report) (t' d' x' : List ℕ)
          → a' ≡ kept r a → added ≡ regs_taken (Add b) r → cleared ≡ regs_changed Clear added → added.count ≡ n
          → ran a t' d' x' ≡ ran_here k added.command cleared t d x → left a' h t' d' x' ≡ left_of (command_here r b t d x) r h t d x
      command-from added cleared a a' t' d' x' ek ea ec q e =
          ap (λ (y : Answered Report). left y h t' d' x') ek
          ∙ command-whole (sym (ap (λ (y : Regs). y.count) ea) ∙ q) a t' d' x'
          (e
          ∙ ap (λ (y : Regs). ran_here k added.command y t d x) ec
          ∙ ap (λ (y : Regs). ran_here k y.command (regs_changed Clear y) t d x) ea)

-- ---- a byte of a write

module _ (r : Regs) (b : ℕ) (h t d x : List ℕ) (room : r.write.taken < length h) where
  abbrev Held : List ℕ
  Held = set h r.write.taken b

  abbrev Whole : List ℕ
  Whole = take r.write.taken h ++ (b ∷ [])

  whole_length : length Whole ≡ r.write.taken + 1
  whole_length = simp (length-append, length-take) (omega arith)

  whole_is : take (r.write.taken + 1) Held ≡ Whole
  whole_is = rw add-one (take-suc-set h r.write.taken b room)

  pub data-part : (n : ℕ) (a : Answered Report) → n ≡ whole_of (goal_of r.write) → (r.write.taken + 1 ≡ n → ⊥) → a ≡ accepted silent (regs_taken (Hold b) r)
      → left a Held t d x ≡ left_of (data_here r b h t d x) r h t d x
  unfolding data_byte data_if left_of regs_of regs_all regs_responded
  data-part n a en ne ea =
      let e : eqb (length Whole) (whole_of (goal_of r.write)) ≡ false = ne_eqb _ _ (λ q. ne (sym whole_length ∙ q ∙ sym en)) in
      rw (e, ea)

  -- the end of a write, and where it is refused the held byte that was there
  held_back : Result Report Refusal → List ℕ
  held_back (Ok y) = Held
  held_back (Err why) = set Held r.write.taken (get_or h r.write.taken 0)

  back_is : (e : Result Effect Refusal) → Still e → let a : (Answered Report) = regs_of e (regs_taken (Hold b) r) in
      left (kept r a) (held_back a.answer) (table_after e t) (data_after e d) x ≡ left_of (sends (Hold b) e) r h t d x
  unfolding held_back left_of regs_of
  back_is (Err why) q =
      ap (λ (l : List ℕ). left (declined why r) l t d x) (set-set h r.write.taken b (get_or h r.write.taken 0) ∙ set-get_or h r.write.taken 0)
  back_is (Ok e) q =
      ap (λ (y : List ℕ). left (regs_of (Ok e) (regs_taken (Hold b) r)) Held (table_with e.put t) (data_with e.put d) y) (still-response e.response x q)

  module _ (n : ℕ) (a : Answered Report) (t' d' : List ℕ) (en : n ≡ whole_of (goal_of r.write)) (eq : r.write.taken + 1 ≡ n) where
    -- what the end of a write promises of some registers
    abbrev Ended : List ℕ → Regs → Type 0
    Ended l y = Stores (written_here l y t d x) y t d a t' d'

    data-end : (l : List ℕ) → l ≡ Whole → Ended l (regs_taken (Hold b) r)
        → left (kept r a) (held_back a.answer) t' d' x ≡ left_of (data_here r b h t d x) r h t d x
    unfolding data_byte data_if
    data-end l el p =
        let f : eqb (length Whole) (whole_of (goal_of r.write)) ≡ true = eq-eqb _ _ (whole_length ∙ eq ∙ en) in
        let q = subst (λ (z : List ℕ). Ended z (regs_taken (Hold b) r)) el p in
        let e : Result Effect Refusal = written_here Whole r t d x in
        rw f
        ((λ i. left (kept r (q.0 i)) (held_back (q.0 i).answer) (q.1.0 i) (q.1.1 i) x)
        ∙ back_is e (still-written (goal_of r.write) (rooms_of d x) r.write.c1 Whole (named_in r.write.c1 r t d)))

    module _ (taken : Regs) (l : List ℕ) (et : taken ≡ regs_taken (Hold b) r) (el : l ≡ take (r.write.taken + 1) Held) where
      pub data-good : (told : Report) → a.answer ≡ Ok told → Ended l taken → left a Held t' d' x ≡ left_of (data_here r b h t d x) r h t d x
      unfolding held_back
      data-good told f q = sym (ap (λ (y : Result Report Refusal). left (kept_if y a r) (held_back y) t' d' x) f) ∙ data-end l (el ∙ whole_is) (subst (Ended l) et q)

      pub data-refused : (why : Refusal) (a' : Answered Report) → a.answer ≡ Err why → a' ≡ declined why r → Ended l taken
          → left a' (set Held r.write.taken (get_or h r.write.taken 0)) t' d' x ≡ left_of (data_here r b h t d x) r h t d x
      unfolding held_back
      data-refused why a' f g q =
          ap (λ (y : Answered Report). left y (set Held r.write.taken (get_or h r.write.taken 0)) t' d' x) g
          ∙ sym (ap (λ (y : Result Report Refusal). left (kept_if y a r) (held_back y) t' d' x) f)
          ∙ data-end l (el ∙ whole_is) (subst (Ended l) et q)

-- ---- the end of a write, by what is written

pub ended-into : (r : Regs) (held t d x : List ℕ) (g : Goal) → goal_of r.write ≡ g → (a : Answered Report) (t' d' : List ℕ)
    → Stores (into_here g held r t d x) r t d a t' d' → Stores (written_here held r t d x) r t d a t' d'
ended-into r held t d x g e a t' d' p = subst (λ (y : Goal). Stores (into_here y held r t d x) r t d a t' d') (sym e) p

-- ---- the call

-- what is refused as no controller's: held bytes of another length, and impossible numbers; and nothing else
module _ (r : Regs) (h x : List ℕ) where
  pub wrong-length : (length h ≡ most_held → ⊥) → impossible_with h x r ≡ true
  unfolding impossible_with
  wrong-length n = rw (ne_eqb _ _ n)

  pub wrong-numbers : impossible_in x r ≡ true → impossible_with h x r ≡ true
  unfolding impossible_with
  wrong-numbers e = go (eqb (length h) most_held)
    where
      go : (v : Bool) → (not v || impossible_in x r) ≡ true
      go true = e
      go false = refl

  right-with : impossible_in x r ≡ false → length h ≡ most_held → impossible_with h x r ≡ false
  unfolding impossible_with
  right-with e l = rw (eq-eqb _ _ l, e)

module _ (r : Regs) (b : ℕ) (h t d x : List ℕ) where
  -- then every lent byte is as it came
  pub write-wrong : (a : Answered Report) → impossible_with h x r ≡ true → a ≡ declined BadController r → left a h t d x ≡ data_write r b h t d x
  unfolding data_write sent_to left_of
  write-wrong a e f = rw (e, f)

  for-write : (f : Bool) (p : Pending) (s : Rooms) (i : Inside) → f ≡ true
      → data_byte s b (writing_of p (take p.taken h ++ (b ∷ []))) i.drives ≡ byte_for s i b (writing_if f p h)
  unfolding byte_for
  for-write true p s i q = refl
  for-write false p s i q = never (cc)

  for-command : (f : Bool) (p : Pending) (s : Rooms) (i : Inside) → f ≡ false
      → command_byte i.setting s b (i.command ++ (b ∷ [])) i.drives i.index ≡ byte_for s i b (writing_if f p h)
  unfolding byte_for
  for-command false p s i q = refl
  for-command true p s i q = never (cc)

  -- else the machine is asked
  pub sent-right : impossible_in x r ≡ false → length h ≡ most_held → sent (rooms_of d x) (inside_of r h (slot_of r t d)) b ≡ sent_to r b h t d x
  unfolding sent_to
  sent-right e l = rw (right-with r h x e l)

  pub sent-data : r.write.on ≡ true → data_here r b h t d x ≡ sent (rooms_of d x) (inside_of r h (slot_of r t d)) b
  unfolding sent inside_of
  sent-data q = for-write r.write.on r.write (rooms_of d x) (inside_of r h (slot_of r t d)) q

  pub sent-command : r.write.on ≡ false → command_here r b t d x ≡ sent (rooms_of d x) (inside_of r h (slot_of r t d)) b
  unfolding sent inside_of
  sent-command q = for-command r.write.on r.write (rooms_of d x) (inside_of r h (slot_of r t d)) q

  -- what is left of a byte, where the numbers are possible
  pub left-data : (y : Left) → impossible_in x r ≡ false → length h ≡ most_held → r.write.on ≡ true → y ≡ left_of (data_here r b h t d x) r h t d x → y ≡ data_write r b h t d x
  unfolding data_write
  left-data y e l q f = f ∙ ap (λ (z : Result Sent Refusal). left_of z r h t d x) (sent-data q ∙ sent-right e l)

  pub left-command : (y : Left) → impossible_in x r ≡ false → length h ≡ most_held → r.write.on ≡ false → y ≡ left_of (command_here r b t d x) r h t d x → y ≡ data_write r b h t d x
  unfolding data_write
  left-command y e l q f = f ∙ ap (λ (z : Result Sent Refusal). left_of z r h t d x) (sent-command q ∙ sent-right e l)

-- ---- places after a byte is stored

module _ (h : List ℕ) (i b : ℕ) (g : i < length h) where
  pub set_room : i + 1 ≤ length (set h i b)
  set_room = simp length-set (omega arith)

  pub set_count : i + 1 ≡ length (take (i + 1) (set h i b))
  set_count = simp (length-take, length-set) (omega arith)

  pub set_few : i < most_held → length (take (i + 1) (set h i b)) ≤ most_held
  set_few few = simp (length-take, length-set) (omega arith)

  pub set_in : i < length (set h i b)
  set_in = simp length-set (omega arith)

-- a write of which a byte is to come has a place for it
pub in_held : (h : List ℕ) (p : Pending) → (length h ≡ most_held) × (p.taken < whole_of (goal_of p)) → (p.taken < length h) × (p.taken < most_held)
in_held h p e = let w = whole-most (goal_of p) in (omega arith, omega arith)
