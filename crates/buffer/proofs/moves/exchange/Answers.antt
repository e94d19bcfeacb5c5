use borrow.Author.Rules.{rules}
use Rattle.buffer.proofs.Shifts.{exchange-no-first, exchange-no-second, exchange-start, exchange-turn, exchange-done}
use Rattle.buffer.proofs.moves.exchange.Goals as goal

pub returns-then-m-a : goal.returns-then-m-a
returns-then-m-a c = search (rules, exchange-no-first)

pub returns-then-b-m : goal.returns-then-b-m
returns-then-b-m c = search (rules, exchange-no-second)

pub loop-mid-init : goal.loop-mid-init
loop-mid-init c = search (rules, exchange-start)

pub loop-mid-preserved : goal.loop-mid-preserved
loop-mid-preserved c = (search rules, (search rules, (search rules, search (rules, exchange-turn))))

pub returns : goal.returns
returns c = search (rules, exchange-done)
