use Rattle.sheet.proofs.Judges.{command-fits, command-small, reply-fits, reply-small, unread-small, right-work, work-small, regs_are}
use borrow.Author.Rules.{rules}
use Rattle.sheet.proofs.reading.regs_from.Goals as goal

pub on_zeros-requires : goal.on_zeros-requires
on_zeros-requires c = search (rules, command-fits)

pub overflow_cast-result : goal.overflow_cast-result
overflow_cast-result c = search (rules, command-small)

pub on_zeros-requires-2 : goal.on_zeros-requires-2
on_zeros-requires-2 c = search (rules, reply-fits)

pub overflow_cast-result-2 : goal.overflow_cast-result-2
overflow_cast-result-2 c = search (rules, reply-small)

pub overflow_cast-result-3 : goal.overflow_cast-result-3
overflow_cast-result-3 c = search (rules, unread-small)

pub pending_from-requires : goal.pending_from-requires
pending_from-requires c = search (rules, right-work, work-small)

pub returns : goal.returns
returns c = search (rules, regs_are)
