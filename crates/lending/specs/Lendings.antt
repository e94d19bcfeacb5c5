-- The calls as a host makes them on bytes: the exported functions, each by its promise (`crates/host/src/lib.rt`).
use Rattle.std.specs.Prelude.{◌≡◌, ℕ, ◌/◌, ◌%◌, ◌<◌, Bool, true, false, cond, List, [], ◌∷◌, ◌++◌, eqb, Result}
use Rattle.std.proofs.Math.Option.{some}
use Rattle.fields.specs.Bytes.{byte_at}
use Rattle.fields.specs.Model.{Disk}
use Rattle.store.specs.Store.{disk_of}
use Rattle.registers.specs.Boxes.{World}
use Rattle.registers.specs.View.{impossible_in}
use Rattle.floppy.specs.Calls.{new_floppy}
use Rattle.layout.specs.Layout.{floppy_bytes, regs_at, held_at, formed}
use Rattle.words.specs.Words.{refusal_word, bool_word, report_word}
use Rattle.host.specs.Calls.{motor_on, track_on, disk_on, Answered, answered, set_motor_on, set_disk_on, status_on, read_on, Sending, sending, write_on}
use Rattle.saves.specs.Events.{Question, motor_on?, which_track?, disk_in?, Event, poll, read, send, ask, switch, swap, widen}
use Rattle.saves.specs.Events.{Answer, showed, gave, took, said, stood, denied, Next}
use Rattle.saves.specs.Words.{sent_in}
use Rattle.saves.specs.Stages.{Stage}
use Rattle.runs.specs.Hosts.{Host, seen, stage_of, Sound}
use Rattle.fields.specs.declared.refusal.Refusal.{Refusal}

-- what a host lends: the bytes of the controller, of table, data and transfer buffer
pub record Lending : Type 0 where
  pub controller : List ℕ
  pub table : List ℕ
  pub bytes : List ℕ
  pub transfer : List ℕ

-- ---- One call

-- the bytes with those of another controller
abbrev pub with_controller : List ℕ → Lending → Lending
with_controller c l = record { controller = c; table = l.table; bytes = l.bytes; transfer = l.transfer }

-- what a call that changes the controller leaves, and what a byte sent leaves
abbrev pub after_answered : Answered → Lending → Next ℕ Lending
after_answered (answered w c) l = record { answer = w; then = with_controller c l }

abbrev pub after_sending : Sending → Next ℕ Lending
after_sending (sending w c t b x) = record { answer = w; then = record { controller = c; table = t; bytes = b; transfer = x } }

-- whether a word is an answer: a refusal's number stands in bits 8 to 15
abbrev pub is_answer : ℕ → Bool
is_answer w = eqb (w / 256 % 256) 0

-- the store that is lent from then on, unless the change was refused
abbrev pub swapped_on : Answered → List ℕ → List ℕ → Lending → Next ℕ Lending
swapped_on (answered w c) t b l = record {
  answer = w;
  then = cond (is_answer w) (record { controller = c; table = t; bytes = b; transfer = l.transfer }) (with_controller c l);
}

-- the word that answers a question
unfoldable pub asked_on : Question → List ℕ → ℕ
asked_on motor_on? c = motor_on c
asked_on which_track? c = track_on c
asked_on disk_in? c = disk_on c

-- one exported call; a longer transfer buffer is none, and its word is 0
unfoldable pub exported : Event → Lending → Next ℕ Lending
exported poll l = after_answered (status_on l.controller) l
exported read l = after_answered (read_on l.controller l.transfer) l
exported (send b) l = after_sending (write_on l.controller l.table l.bytes l.transfer b)
exported (ask q) l = record { answer = asked_on q l.controller; then = l }
exported (switch on) l = after_answered (set_motor_on on l.controller) l
exported (swap present t b) l = swapped_on (set_disk_on present l.controller) t b l
exported (widen y) l =
    record { answer = 0; then = record { controller = l.controller; table = l.table; bytes = l.bytes; transfer = l.transfer ++ y } }

-- ---- What the bytes are

-- the word that an answer is
unfoldable pub word_of : Answer → ℕ
word_of (showed n) = n
word_of (gave n) = n
word_of (took x) = report_word x
word_of (said f) = bool_word f
word_of (stood c) = c
word_of (denied why) = refusal_word why

-- the controller that is in the bytes, with the buffers; and the bytes of one
abbrev pub host_at : Lending → Host
host_at l =
    record { floppy = record { regs = regs_at l.controller; held = held_at l.controller }; table = l.table; bytes = l.bytes; transfer = l.transfer }

abbrev pub lending_of : Host → Lending
lending_of k = record { controller = floppy_bytes k.floppy; table = k.table; bytes = k.bytes; transfer = k.transfer }

-- the boxes and the disk that are seen, with the rooms that are lent; and the disk that the store holds
abbrev pub seen_in : Lending → World
seen_in l = seen (host_at l)

abbrev pub stage_in : Lending → Stage
stage_in l = stage_of (host_at l)

abbrev pub store_in : Lending → Result Disk Refusal
store_in l = disk_of l.table l.bytes

-- bytes of a controller that is one: the one that is in them is, and they are its bytes
pub record Formed (l : Lending) : Type 0 where
  pub sound : Sound (host_at l)
  pub same : lending_of (host_at l) ≡ l

-- what a host can see of its bytes: they are bytes, of the form that a controller has, and no call refuses them with 1
pub record Readable (l : Lending) : Type 0 where
  pub are-bytes : (k : ℕ) → byte_at l.controller k < 256
  pub form : formed l.controller ≡ true
  pub possible : impossible_in l.transfer (regs_at l.controller) ≡ false

-- the bytes that `floppy_new_with` leaves, with buffers lent
abbrev pub new_lending : ℕ → List ℕ → List ℕ → List ℕ → Lending
new_lending n t b x = record { controller = floppy_bytes (new_floppy n); table = t; bytes = b; transfer = x }

-- ---- Words of demand 3

-- whether nothing was refused
unfoldable pub all_pass : List ℕ → Bool
all_pass [] = true
all_pass (w ∷ ws) = cond (is_answer w) (all_pass ws) false

-- a sequence in which these bytes are sent, and its words, of which none is a refusal
pub record Posts (es : List Event) (bytes : List ℕ) (words : List ℕ) : Type 0 where
  pub sends : sent_in es ≡ some bytes
  pub none-refused : all_pass words ≡ true

-- the words that the reads of the data port answered
unfoldable pub words_read : List Event → List ℕ → List ℕ
words_read [] ws = []
words_read (e ∷ es) [] = []
words_read (poll ∷ es) (w ∷ ws) = words_read es ws
words_read (read ∷ es) (w ∷ ws) = w ∷ words_read es ws
words_read (send b ∷ es) (w ∷ ws) = words_read es ws
words_read (ask q ∷ es) (w ∷ ws) = words_read es ws
words_read (switch on ∷ es) (w ∷ ws) = words_read es ws
words_read (swap present t b ∷ es) (w ∷ ws) = words_read es ws
words_read (widen y ∷ es) (w ∷ ws) = words_read es ws
