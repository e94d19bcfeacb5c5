use mathlib.Core.Path.{refl, ap, ◌∙◌}
use native.Mathlib.Omega.{arith}
use lib.ListN.{length}
use borrow.Author.Rules.{rules}
use Rattle.std.specs.Prelude.{Ok}
use Rattle.fields.proofs.Exits.{handed_on}
use Rattle.store.proofs.Founds.{part-within}
use Rattle.disk.proofs.Saves.{Room, says_of, says-judged}
use Rattle.disk.proofs.saving.save.Goals as goal
use Rattle.disk.proofs.saving.save.Goals.{In_ok-judge}

-- what is known of the sector, and of what the save leaves
room : (c : In_ok-judge) → Room c.args.table.now c.args.bytes.now (length c.args.new.now) c.in-Some.found
room c =
    (says-judged _ _ _ _ _ c.args.new.now _ _ c.locate.ensures (c.in_ok-found.was ∙ ap Ok c.in-Some.is) _ c.room_of.ensures.0 _ _ c.judge.ensures
    c.in_ok-judge.was).0

pub returns-in_err-found : goal.returns-in_err-found
returns-in_err-found c =
    rw (handed_on _ _ _ c.from_residual.ensures.1 refl)
    (says_of c.args.table.now c.args.bytes.now _ _ _ c.args.new.now _ _ c.locate.ensures c.in_err-found.was)

pub returns-in_default : goal.returns-in_default
returns-in_default c =
    says_of c.args.table.now c.args.bytes.now _ _ _ c.args.new.now _ _ c.locate.ensures (c.in_ok-found.was ∙ ap Ok c.in_default.is)

pub judge-requires : goal.judge-requires
judge-requires c = omega (arith, part-within _ _ _ _ _ _ c.locate.ensures _ _ _ _ _ (c.in_ok-found.was ∙ ap Ok c.in-Some.is))

pub returns-in_err-judge : goal.returns-in_err-judge
returns-in_err-judge c =
    rw (handed_on _ _ _ c.from_residual-in_err-judge.ensures.1 refl)
    (says-judged c.args.table.now c.args.bytes.now _ _ _ c.args.new.now _ _ c.locate.ensures (c.in_ok-found.was ∙ ap Ok c.in-Some.is) _ c.room_of.ensures.0 _ _
    c.judge.ensures c.in_err-judge.was)

pub splice-requires : goal.splice-requires
splice-requires c = let r = room (goal.at.splice-requires c).In_ok-judge in (r.order, (r.inside, r.room))

pub put_length-requires : goal.put_length-requires
put_length-requires c = let r = room (goal.at.put_length-requires c).In_ok-judge in (r.row_in, r.small)

pub returns : goal.returns
returns c =
    (says-judged c.args.table.now c.args.bytes.now _ _ _ c.args.new.now _ _ c.locate.ensures (c.in_ok-found.was ∙ ap Ok c.in-Some.is) _ c.room_of.ensures.0 _ _
    c.judge.ensures c.in_ok-judge.was).1 (λ k. search rules) _ _ c.put_length.ensures c.splice.ensures
