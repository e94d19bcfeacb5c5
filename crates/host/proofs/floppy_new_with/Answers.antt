use Rattle.host.proofs.Answers.{new-bad, new-good}
use Rattle.host.proofs.floppy_new_with.Goals as goal

pub returns-then-controller-ne-LENGTH : goal.returns-then-controller-ne-LENGTH
returns-then-controller-ne-LENGTH c = new-bad _ _ _ c.if-controller-ne-LENGTH.true c.refusal_word.ensures

pub returns : goal.returns
returns c = new-good _ _ _ c.if-controller-ne-LENGTH.false (c.fill.ensures.after (λ y e. e))
