-- What the exit of a `?` hands on.
use Rattle.std.specs.Prelude.{◌≡◌, Result, Err, IsErrAnd}
use Rattle.std.proofs.Common.{◌∙◌, ap}
use Rattle.std.proofs.lemmas.Result.{err_from_is_err_and}
use Rattle.fields.specs.declared.refusal.Refusal.{Refusal}

-- the refusal that was met
pub handed_on : {A : Type 0} (r x : Result A Refusal) (why : Refusal) → IsErrAnd r (λ e. e ≡ why) → Err why ≡ x → r ≡ x
handed_on r x why h e = let p = err_from_is_err_and r h in p.1 ∙ ap Err p.2 ∙ e
