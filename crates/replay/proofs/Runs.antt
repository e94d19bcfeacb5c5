-- What is done after one call, or after none.
use Rattle.std.proofs.Common.{refl, ℕ, zero, suc, Bool, Result, Ok}
use Rattle.replay.specs.Answers.{Onward, Runs}

pub one_more : {F E : Type 0} (call : F → Result Bool E → F → Type 0) (n : ℕ) (f g : F) (r : Result Bool E) (done : Result (Unit {0}) E) → call f r g → Onward r (Runs call n g done) done → Runs call (suc n) f done
unfolding Runs
one_more call n f g r done s m = (r, g, s, m)

pub no_more : {F E : Type 0} (call : F → Result Bool E → F → Type 0) (f : F) → Runs call zero f (Ok tt)
unfolding Runs
no_more call f = refl
