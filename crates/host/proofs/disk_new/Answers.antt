use Rattle.host.specs.Calls.{worded}
use Rattle.store.specs.Calls.{outcome}
use Prim.Native.Nat.{ℕ}
use mathlib.Core.Path.{ap, ◌∙◌}
use Rattle.host.proofs.disk_new.Goals as goal

pub returns : goal.returns
returns c = ap (λ (w : ℕ). outcome w c.new.new.table c.new.new.bytes) c.answer_word.ensures ∙ ap worded c.new.ensures
