use Rattle.host.specs.Calls.{worded}
use Rattle.store.specs.Calls.{outcome}
use Prim.Native.Nat.{ℕ}
use mathlib.Core.Path.{ap, ◌∙◌}
use Rattle.host.proofs.disk_new_formatted.Goals as goal

pub returns : goal.returns
returns c = ap (λ (w : ℕ). outcome w c.new_formatted.new.table c.new_formatted.new.bytes) c.answer_word.ensures ∙ ap worded c.new_formatted.ensures
