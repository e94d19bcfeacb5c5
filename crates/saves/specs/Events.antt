-- The calls that a host has, what they answer, and sequences of them.
use Rattle.std.specs.Prelude.{ℕ, Bool, true, false, List, [], ◌∷◌}
use Rattle.fields.specs.declared.refusal.Refusal.{Refusal}
use Rattle.registers.specs.declared.regs.Report.{Report}

-- ---- One call

-- what a host may ask: whether the motor is on, the cylinder that the head is over, whether a disk is in
pub data Question : Type 0 where
  motor_on? : Question
  which_track? : Question
  disk_in? : Question

-- a status read, a data-port read, a byte sent to the data port; a question; the motor switched off or on; the disk out, or the one in that the
-- store holds which is lent from then on; the transfer buffer lent with more bytes behind it
pub data Event : Type 0 where
  poll : Event
  read : Event
  send : ℕ → Event
  ask : Question → Event
  switch : Bool → Event
  swap : Bool → List ℕ → List ℕ → Event
  widen : List ℕ → Event

-- what a call answers: the status, the byte, that it was done and what the host is told beside that, yes or no, the cylinder, or a refusal
pub data Answer : Type 0 where
  showed : ℕ → Answer
  gave : ℕ → Answer
  took : Report → Answer
  said : Bool → Answer
  stood : ℕ → Answer
  denied : Refusal → Answer

-- what one call answers, and what is there then
pub record Next (A S : Type 0) : Type 0 where
  pub answer : A
  pub then : S

-- ---- Sequences of calls

-- what they answer, one by one, and what is there at the end
pub record Run (A S : Type 0) : Type 0 where
  pub answers : List A
  pub end : S

module _ {A S : Type 0} (step : Event → S → Next A S) where
  -- call after call; where one is refused, the next goes on from what it left
  unfoldable pub run : List Event → S → Run A S
  run [] s = record { answers = []; end = s }
  run (e ∷ es) s =
      let x : Next A S = step e s in
      let rest : Run A S = run es x.then in
      record { answers = x.answer ∷ rest.answers; end = rest.end }

-- whether nothing was refused
unfoldable pub granted : List Answer → Bool
granted [] = true
granted (showed n ∷ l) = granted l
granted (gave n ∷ l) = granted l
granted (took x ∷ l) = granted l
granted (said f ∷ l) = granted l
granted (stood c ∷ l) = granted l
granted (denied why ∷ l) = false
