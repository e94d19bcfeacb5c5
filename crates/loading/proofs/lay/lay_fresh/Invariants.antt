use Rattle.loading.proofs.Lays.{Freshing}
use Rattle.loading.proofs.lay.lay_fresh.Given as goal

abbrev pub invariant-loop-cylinder : goal.invariant-loop-cylinder
invariant-loop-cylinder l = Freshing l.initial.table l.initial.bytes l.table l.bytes l.cylinder
