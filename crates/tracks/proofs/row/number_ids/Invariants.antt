use Rattle.tracks.proofs.Numbering.{Numbering}
use Rattle.tracks.proofs.row.number_ids.Given as goal

abbrev pub invariant-loop-k : goal.invariant-loop-k
invariant-loop-k l = Numbering l.initial.ids l.c l.h l.n l.ids l.k
