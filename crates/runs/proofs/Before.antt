-- Port bytes stay (2026-05): what the host is told is a part of an effect that nothing else reads. The machine of before is the machine whose effects
-- tell nothing: any calls on it leave the same boxes and disk, and answer the same but for what is told.
use mathlib.Core.Path.{◌≡◌, refl, sym, ap, ◌∙◌}
use mathlib.Core.List.{List, map}
use Rattle.fields.specs.Refusals.{after}
use Rattle.registers.specs.Boxes.{World, Sent, silent}
use Rattle.sending.specs.Machine.{sent, done, write_port, report_of}
use Rattle.saves.specs.Events.{Question, motor_on?, which_track?, disk_in?, Event, poll, read, send, ask, switch, swap, widen, Answer, Next, Run, run}
use Rattle.saves.specs.Stages.{Stage, sent_on, answer_to, acted}
use Rattle.saves.proofs.Feeding.{byte_on}
use Rattle.runs.specs.Before.{untold, acted_before, answer_before}
use Rattle.runs.specs.Hosts.{Host, stage_of, called, Sound}
use Rattle.runs.proofs.Follows.{follows}
use Rattle.runs.proofs.Any.{calls-run}
use Rattle.std.specs.Prelude.{Result, Ok, Err}
use Rattle.fields.specs.declared.refusal.Refusal.{Refusal}

-- ---- one call

-- what was answered and left before
abbrev Before : Next Answer Stage → Next Answer Stage
Before x = record { answer = answer_before x.answer; then = x.then }

byte-before : (g : Stage) (x : Result Sent Refusal) → sent_on g silent (after (untold x) (λ y. Ok (done g.world y))) ≡ Before (byte_on g x)
unfolding answer_before done
byte-before g (Err why) = refl
byte-before g (Ok x) = refl

asked-before : (q : Question) (w : World) → answer_before (answer_to q w) ≡ answer_to q w
unfolding answer_before answer_to
asked-before motor_on? w = refl
asked-before which_track? w = refl
asked-before disk_in? w = refl

call-before : (e : Event) (g : Stage) → acted_before e g ≡ Before (acted e g)
unfolding acted_before acted answer_before write_port report_of
call-before poll g = refl
call-before read g = refl
call-before (send b) g = byte-before g (sent g.rooms g.world.inside b)
call-before (ask q) g = λ i. record { answer = sym (asked-before q g.world) i; then = g }
call-before (switch on) g = refl
call-before (swap present t b) g = refl
call-before (widen y) g = refl

-- ---- any calls

-- On the machine: the same boxes and disk at the end, and the same answers but for what is told.
pub before-run : (es : List Event) (g : Stage)
    → run acted_before es g ≡ record { answers = map answer_before (run acted es g).answers; end = (run acted es g).end }
before-run es g = (follows acted acted_before answer_before (λ (s : Stage). s) (λ s. Unit {0}) (λ e s i. (call-before e s, tt)) es g tt).0

-- On a controller that is one: what the calls answer and leave, seen, is what the machine of before does.
pub before-calls : (es : List Event) (k : Host) → Sound k
    → run acted_before es (stage_of k) ≡ record { answers = map answer_before (run called es k).answers; end = stage_of (run called es k).end }
before-calls es k s =
    before-run es (stage_of k)
    ∙ ap (λ (r : Run Answer Stage). record { answers = map answer_before r.answers; end = r.end }) (calls-run es k s)
