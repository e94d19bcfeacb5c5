-- The machine of before (2026-05), whose bytes sent tell nothing.
use Rattle.fields.specs.Refusals.{after}
use Rattle.registers.specs.Boxes.{Sent, silent}
use Rattle.sending.specs.Machine.{sent, done}
use Rattle.saves.specs.Events.{Event, poll, read, send, ask, switch, swap, widen, Answer, showed, gave, took, said, stood, denied, Next}
use Rattle.saves.specs.Stages.{Stage, sent_on, acted}
use Rattle.std.specs.Prelude.{Result, Ok, Err}
use Rattle.fields.specs.declared.refusal.Refusal.{Refusal}

-- all that a byte does, with nothing told
abbrev pub untold : Result Sent Refusal → Result Sent Refusal
untold (Err why) = Err why
untold (Ok x) = Ok record {
  taking = x.taking;
  effect = record { changes = x.effect.changes; response = x.effect.response; put = x.effect.put; report = silent };
}

-- one call: a byte sent does what is left then; all else is as it is
unfoldable pub acted_before : Event → Stage → Next Answer Stage
acted_before poll g = acted poll g
acted_before read g = acted read g
acted_before (send b) g = sent_on g silent (after (untold (sent g.rooms g.world.inside b)) (λ x. Ok (done g.world x)))
acted_before (ask q) g = acted (ask q) g
acted_before (switch on) g = acted (switch on) g
acted_before (swap present t b) g = acted (swap present t b) g
acted_before (widen y) g = acted (widen y) g

-- an answer, with nothing told
unfoldable pub answer_before : Answer → Answer
answer_before (showed n) = showed n
answer_before (gave n) = gave n
answer_before (took x) = took silent
answer_before (said f) = said f
answer_before (stood c) = stood c
answer_before (denied why) = denied why
