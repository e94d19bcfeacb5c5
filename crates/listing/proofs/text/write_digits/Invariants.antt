-- The loop's invariant: what is left of the number goes before the digits written so far.
use Rattle.listing.proofs.Digits.{Writing}
use Rattle.listing.proofs.text.write_digits.Given as goal

abbrev pub invariant-loop-left : goal.invariant-loop-left
invariant-loop-left l = Writing l.n l.digits l.left l.at

abbrev pub decreases-loop-left : goal.decreases-loop-left
decreases-loop-left l = l.left
