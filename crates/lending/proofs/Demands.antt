-- Demands 2 and 3 on the bytes that a host lends.
use mathlib.Core.Path.{◌≡◌, refl, sym, ap, subst, ◌∙◌}
use mathlib.Core.Logic.{◌↔◌}
use Prim.Native.Nat.{ℕ, ◌+◌, ◌*◌, ◌-◌, ◌≤◌}
use mathlib.Core.Bool.{Bool, true, false, cond}
use mathlib.Core.List.{List, [], ◌∷◌, ◌++◌, map}
use mathlib.Core.Option.{none}
use lib.ListN.{length, take, replicate}
use Rattle.fields.specs.declared.refusal.Refusal.TheVariants.{BadController, BadStore}
use Rattle.fields.specs.Model.{Disk, Each}
use Rattle.fields.proofs.Tests.{never}
use Rattle.registers.specs.Boxes.{World, setting_of}
use Rattle.registers.specs.Ports.{port_byte}
use Rattle.registers.specs.View.{rooms_of, impossible_in}
use Rattle.layout.specs.Layout.{regs_at, formed}
use Rattle.words.specs.Words.{bool_word, report_word}
use Rattle.host.proofs.Same.{image-formed}
use Rattle.saves.specs.Events.{Question, motor_on?, which_track?, disk_in?, Event, poll, read, send, ask, switch, swap, widen}
use Rattle.saves.specs.Events.{Answer, showed, gave, took, said, stood, denied, Run, run, granted}
use Rattle.saves.specs.Stages.{Stage, new_stage, answer_to, acted, Unbroken, PutsUnbroken}
use Rattle.saves.proofs.Unbrokens.{run-unbroken}
use Rattle.saves.specs.Words.{in_drive, Ready, Save, bytes_of, address_of, IsSave, saved_by, Sends, Only, ReadsBack, read_bytes, reply_to, LosesNone, data_reads, given_in}
use Rattle.runs.specs.Hosts.{Host, called, seen, stage_of, new_host, Sound}
use Rattle.runs.proofs.Any.{calls-run, calls-sound, calls-tame, new-sound, new-run, polls-calls, calls-never-2}
use Rattle.runs.specs.Before.{acted_before, answer_before}
use Rattle.runs.proofs.Before.{before-run}
use Rattle.runs.proofs.Gets.{save-calls, second-calls, order-calls, back-calls}
use Rattle.lending.specs.Lendings.{Lending, is_answer, exported, word_of, host_at, lending_of, seen_in, stage_in, store_in, Formed, all_pass, Posts, words_read, new_lending}
use Rattle.lending.proofs.Exports.{sound-fitting, refusal-fails, host-run, host-back, host-formed}
use Rattle.std.specs.Prelude.{Ok}

-- ---- words of which none is a refusal

pass_on : (v w : Bool) → cond v w false ≡ true → w ≡ true
pass_on true w e = e
pass_on false w e = never (cc)

pass-granted : (l : List Answer) → all_pass (map word_of l) ≡ true → granted l ≡ true
unfolding all_pass granted word_of
pass-granted [] e = refl
pass-granted (showed n ∷ l) e = pass-granted l (pass_on (is_answer n) (all_pass (map word_of l)) e)
pass-granted (gave n ∷ l) e = pass-granted l (pass_on (is_answer n) (all_pass (map word_of l)) e)
pass-granted (took x ∷ l) e = pass-granted l (pass_on (is_answer (report_word x)) (all_pass (map word_of l)) e)
pass-granted (said f ∷ l) e = pass-granted l (pass_on (is_answer (bool_word f)) (all_pass (map word_of l)) e)
pass-granted (stood c ∷ l) e = pass-granted l (pass_on (is_answer c) (all_pass (map word_of l)) e)
pass-granted (denied why ∷ l) e = let z : cond false (all_pass (map word_of l)) false ≡ true = ap (λ (v : Bool). cond v (all_pass (map word_of l)) false) (sym (refusal-fails why)) ∙ e in never (cc)

-- ---- bytes that are those of a controller

-- the bytes are those of this controller, which is one
pub record Stands (l : Lending) (k : Host) : Type 0 where
  pub sound : Sound k
  pub are : l ≡ lending_of k

module _ (es : List Event) (l : Lending) (k : Host) (s : Stands l k) where
  run_is : run exported es l ≡ record { answers = map word_of (run called es k).answers; end = lending_of (run called es k).end }
  run_is = ap (run exported es) s.are ∙ host-run es k s.sound

  -- they are those of one after any calls
  pub stands : Stands (run exported es l).end (run called es k).end
  stands = record { sound = calls-sound es k s.sound; are = ap (λ (r : Run ℕ Lending). r.end) run_is }

  words_are : (run exported es l).answers ≡ map word_of (run called es k).answers
  words_are = ap (λ (r : Run ℕ Lending). r.answers) run_is

  sends : (bytes : List ℕ) → Posts es bytes (run exported es l).answers → Sends es bytes (run called es k).answers
  sends bytes p = record { sends = p.sends; grants = pass-granted (run called es k).answers (sym (ap all_pass words_are) ∙ p.none-refused) }

  store_is : store_in (run exported es l).end ≡ store_in (lending_of (run called es k).end)
  store_is = ap store_in stands.are

host-is : (l : Lending) (k : Host) → Stands l k → host_at l ≡ k
host-is l k s = ap host_at s.are ∙ host-back k s.sound

here : (l : Lending) → Formed l → Stands l (host_at l)
here l f = record { sound = f.sound; are = sym f.same }

-- and bytes that are those of a controller that is one are formed
stands-formed : (l : Lending) (k : Host) → Stands l k → Formed l
stands-formed l k s = subst Formed (sym s.are) (host-formed k s.sound)

-- ---- demand 2: the exported calls are the machine's

pub machine-words : (es : List Event) (l : Lending) (k : Host) → Stands l k → (run exported es l).answers ≡ map word_of (run acted es (stage_of k)).answers
machine-words es l k s = words_are es l k s ∙ ap (λ (r : Run Answer Stage). map word_of r.answers) (sym (calls-run es k s.sound))

pub machine-end : (es : List Event) (l : Lending) (k : Host) → Stands l k → stage_in (run exported es l).end ≡ (run acted es (stage_of k)).end
machine-end es l k s =
    ap stage_of (host-is (run exported es l).end (run called es k).end (stands es l k s)) ∙ ap (λ (r : Run Answer Stage). r.end) (sym (calls-run es k s.sound))

module _ (es : List Event) (l : Lending) (f : Formed l) where
  -- Exported calls answer the words of what the machine answers, refusals included, and leave what it leaves, seen.
  pub bytes-words : (run exported es l).answers ≡ map word_of (run acted es (stage_in l)).answers
  bytes-words = machine-words es l (host_at l) (here l f)

  pub bytes-end : stage_in (run exported es l).end ≡ (run acted es (stage_in l)).end
  bytes-end = machine-end es l (host_at l) (here l f)

  -- Port bytes stay (2026-05): the same calls on the machine of before leave the same; and it answers, with nothing told, what these words are of.
  pub bytes-before : ((run acted_before es (stage_in l)).end ≡ stage_in (run exported es l).end)
      × (((run acted_before es (stage_in l)).answers ≡ map answer_before (run acted es (stage_in l)).answers)
      × ((run exported es l).answers ≡ map word_of (run acted es (stage_in l)).answers))
  bytes-before =
      let b = before-run es (stage_in l) in
      (ap (λ (r : Run Answer Stage). r.end) b ∙ sym bytes-end, (ap (λ (r : Run Answer Stage). r.answers) b, bytes-words))

  -- They leave bytes of a controller that is one.
  pub bytes-formed : Formed (run exported es l).end
  bytes-formed = stands-formed (run exported es l).end (run called es (host_at l)).end (stands es l (host_at l) (here l f))

  -- No answer is refusal 1: the words are those of answers among which there is none.
  pub bytes-tame : ((run exported es l).answers ≡ map word_of (run called es (host_at l)).answers)
      × Each (λ (a : Answer). a ≡ denied BadController → ⊥) (run called es (host_at l)).answers
  bytes-tame = (words_are es l (host_at l) (here l f), calls-tame es (host_at l) f.sound)

-- If no store that breaks the layout is in the drive, and no disk change puts one in, none is there after any calls, and no answer is refusal 2.
pub bytes-unbroken : (es : List Event) (l : Lending) → Formed l → Each PutsUnbroken es → Unbroken (in_drive (seen_in l)) → Unbroken (in_drive (seen_in (run exported es l).end))
bytes-unbroken es l f q h = subst (λ (g : Stage). Unbroken (in_drive g.world)) (sym (bytes-end es l f)) (run-unbroken es (stage_in l) q h)

pub bytes-never-2 : (es : List Event) (l : Lending) → Formed l → Each PutsUnbroken es → Unbroken (in_drive (seen_in l))
    → ((run exported es l).answers ≡ map word_of (run called es (host_at l)).answers)
    × Each (λ (a : Answer). a ≡ denied BadStore → ⊥) (run called es (host_at l)).answers
bytes-never-2 es l f q h = (words_are es l (host_at l) (here l f), calls-never-2 es (host_at l) f.sound q h)

-- They have the form that a controller has, and no call refuses them with 1.
pub formed-read : (l : Lending) → Formed l → (formed l.controller ≡ true) × (impossible_in l.transfer (regs_at l.controller) ≡ false)
formed-read l f =
    let k : Host = host_at l in
    (ap (λ (y : Lending). formed y.controller) (sym f.same) ∙ image-formed k.floppy (sound-fitting k f.sound) f.sound.held, f.sound.possible)

-- The bytes that `floppy_new_with` leaves are those of a controller that is one.
pub new-formed : (n : ℕ) (t b x : List ℕ) → Formed (new_lending n t b x)
new-formed n t b x = host-formed (new_host n t b x) (new-sound n t b x)

module _ (n : ℕ) (t b x : List ℕ) (es : List Event) where
  new-stands : Stands (new_lending n t b x) (new_host n t b x)
  new-stands = record { sound = new-sound n t b x; are = refl }

  new_is : run acted es (new_stage (setting_of n) (rooms_of b x)) ≡ run acted es (stage_of (new_host n t b x))
  new_is = new-run n t b x es ∙ sym (calls-run es (new_host n t b x) (new-sound n t b x))

  -- The same from the bytes that `floppy_new_with` leaves, and a new machine.
  pub new-words : (run exported es (new_lending n t b x)).answers ≡ map word_of (run acted es (new_stage (setting_of n) (rooms_of b x))).answers
  new-words = machine-words es (new_lending n t b x) (new_host n t b x) new-stands ∙ ap (λ (r : Run Answer Stage). map word_of r.answers) (sym new_is)

  pub new-end : stage_in (run exported es (new_lending n t b x)).end ≡ (run acted es (new_stage (setting_of n) (rooms_of b x))).end
  new-end = machine-end es (new_lending n t b x) (new_host n t b x) new-stands ∙ ap (λ (r : Run Answer Stage). r.end) (sym new_is)

-- With unread data, no write in progress and lost count L, n status reads leave no data exactly where 3k - L is at most n.
pub polls-bytes : (n : ℕ) (l : Lending) → Formed l → (seen_in l).inside.write ≡ none → 1 ≤ length (seen_in l).front.unread
    → (length (seen_in (run exported (replicate n poll) l).end).front.unread ≡ 0) ↔ (3 * length (seen_in l).front.unread - (seen_in l).front.lost ≤ n)
polls-bytes n l f idle some =
    let s = stands (replicate n poll) l (host_at l) (here l f) in
    let e : seen_in (run exported (replicate n poll) l).end ≡ seen (run called (replicate n poll) (host_at l)).end
    = ap seen (host-is (run exported (replicate n poll) l).end (run called (replicate n poll) (host_at l)).end s) in
    let both = polls-calls n (host_at l) f.sound idle some in
    (λ z. both.0 (ap (λ (w : World). length w.front.unread) (sym e) ∙ z), λ z. ap (λ (w : World). length w.front.unread) e ∙ both.1 z)

-- ---- demand 3

-- A save by exported calls, with any port reads and questions before, between and after its bytes: table and data then hold the disk on which the
-- content of the sector at the address is the bytes sent, and nothing else is changed.
pub save-bytes : (a : Save) (d : Disk) (l : Lending) (es : List Event)
    → Formed l → Ready (seen_in l) d → (save : IsSave a d) → Posts es (bytes_of a) (run exported es l).answers
    → (store_in (run exported es l).end ≡ Ok (saved_by a d)) × Only (address_of a) a.content save.sector d (saved_by a d)
save-bytes a d l es f ready save p =
    let s = here l f in
    let q = save-calls a d (host_at l) es s.sound ready save (sends es l (host_at l) s (bytes_of a) p) in
    (store_is es l (host_at l) s ∙ q.0, q.1)

-- Two saves to one address leave the disk that the second alone leaves.
pub second-bytes : (a b : Save) (d : Disk) (l : Lending) (es fs gs : List Event)
    → Formed l → Ready (seen_in l) d → IsSave a d → IsSave b d → address_of a ≡ address_of b
    → Posts es (bytes_of a) (run exported es l).answers
    → Posts fs (bytes_of b) (run exported fs (run exported es l).end).answers
    → Posts gs (bytes_of b) (run exported gs l).answers
    → store_in (run exported fs (run exported es l).end).end ≡ store_in (run exported gs l).end
second-bytes a b d l es fs gs f ready sa sb same pa pb pc =
    let k : Host = host_at l in
    let s = here l f in
    let j : Host = (run called es k).end in
    let m : Lending = (run exported es l).end in
    let t = stands es l k s in
    store_is fs m j t
    ∙ second-calls a b d k es fs gs s.sound ready sa sb same (sends es l k s (bytes_of a) pa) (sends fs m j t (bytes_of b) pb) (sends gs l k s (bytes_of b) pc)
    ∙ sym (store_is gs l k s)

-- Saves to two addresses leave the same disk in either order, if neither order is refused.
pub order-bytes : (a b : Save) (d : Disk) (l : Lending) (es fs fs' es' : List Event)
    → Formed l → Ready (seen_in l) d → IsSave a d → IsSave b d → (address_of a ≡ address_of b → ⊥)
    → Posts es (bytes_of a) (run exported es l).answers → Posts fs (bytes_of b) (run exported fs (run exported es l).end).answers
    → Posts fs' (bytes_of b) (run exported fs' l).answers → Posts es' (bytes_of a) (run exported es' (run exported fs' l).end).answers
    → store_in (run exported fs (run exported es l).end).end ≡ store_in (run exported es' (run exported fs' l).end).end
order-bytes a b d l es fs fs' es' f ready sa sb differ pa pb pb' pa' =
    let k : Host = host_at l in
    let s = here l f in
    let j : Host = (run called es k).end in
    let m : Lending = (run exported es l).end in
    let t = stands es l k s in
    let j' : Host = (run called fs' k).end in
    let m' : Lending = (run exported fs' l).end in
    let t' = stands fs' l k s in
    store_is fs m j t
    ∙ order-calls a b d k es fs fs' es' s.sound ready sa sb differ (sends es l k s (bytes_of a) pa) (sends fs m j t (bytes_of b) pb)
    (sends fs' l k s (bytes_of b) pb') (sends es' m' j' t' (bytes_of a) pa')
    ∙ sym (store_is es' m' j' t')

-- what the reads of the data port gave, among the words
asked-reads : (q : Question) (es : List Event) (g : Stage) → words_read es (map word_of (run acted es g).answers) ≡ given_in (run acted es g).answers
    → words_read (ask q ∷ es) (map word_of (answer_to q g.world ∷ (run acted es g).answers)) ≡ given_in (answer_to q g.world ∷ (run acted es g).answers)
unfolding answer_to words_read given_in word_of
asked-reads motor_on? es g h = h
asked-reads which_track? es g h = h
asked-reads disk_in? es g h = h

reads-given : (es : List Event) (g : Stage) → LosesNone es g.world → words_read es (map word_of (run acted es g).answers) ≡ given_in (run acted es g).answers
unfolding run acted words_read given_in word_of LosesNone
reads-given [] g h = refl
reads-given (poll ∷ es) g h = reads-given es (acted poll g).then h.1
reads-given (read ∷ es) g h = ap (λ (y : List ℕ). port_byte g.world ∷ y) (reads-given es (acted read g).then h)
reads-given (ask q ∷ es) g h = asked-reads q es g (reads-given es g h)
reads-given (send b ∷ es) g h = absurd h
reads-given (switch on ∷ es) g h = absurd h
reads-given (swap present t b ∷ es) g h = absurd h
reads-given (widen y ∷ es) g h = absurd h

-- A Read Data of the saved sector alone, sent next, hands out the save's bytes in order and then the reply, to any number of data-port reads up to both, of
-- which no status read loses a byte.
pub back-bytes : (a : Save) (d : Disk) (code c1 eot gap dtl : ℕ) (l : Lending) (es fs gs : List Event)
    → Formed l → Ready (seen_in l) d → (save : IsSave a d) → Posts es (bytes_of a) (run exported es l).answers
    → let p : Lending = (run exported es l).end in
    ReadsBack a code c1 eot → Posts fs (read_bytes a code c1 eot gap) (run exported fs p).answers
    → let q : Lending = (run exported fs p).end in
    Posts (send dtl ∷ []) (dtl ∷ []) (run exported (send dtl ∷ []) q).answers
    → let r : Lending = (run exported (send dtl ∷ []) q).end in
    LosesNone gs (seen_in r) → data_reads gs ≤ length a.content + 7
    → words_read gs (run exported gs r).answers ≡ take (data_reads gs) (a.content ++ reply_to a c1 eot save.sector)
back-bytes a d code c1 eot gap dtl l es fs gs f ready save pa back pb pl none-lost few =
    let k : Host = host_at l in
    let s = here l f in
    let p : Lending = (run exported es l).end in
    let kp : Host = (run called es k).end in
    let sp = stands es l k s in
    let q : Lending = (run exported fs p).end in
    let kq : Host = (run called fs kp).end in
    let sq = stands fs p kp sp in
    let last : List Event = send dtl ∷ [] in
    let r : Lending = (run exported last q).end in
    let kr : Host = (run called last kq).end in
    let sr = stands last q kq sq in
    let lost : LosesNone gs (seen kr) = subst (λ (y : Host). LosesNone gs (seen y)) (host-is r kr sr) none-lost in
    ap (words_read gs) (machine-words gs r kr sr) ∙ reads-given gs (stage_of kr) lost
    ∙ ap (λ (y : Run Answer Stage). given_in y.answers) (calls-run gs kr sr.sound)
    ∙ back-calls a d code c1 eot gap dtl k es fs gs s.sound ready save (sends es l k s (bytes_of a) pa) back (sends fs p kp sp (read_bytes a code c1 eot gap) pb)
    (sends last q kq sq (dtl ∷ []) pl) lost few
