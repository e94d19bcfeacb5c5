use mathlib.Core.Path.{◌≡◌, ap, ◌∙◌}
use native.Mathlib.Omega.{arith}
use lib.ListN.{length, take}
use lib.Seq.{length-take-le, length-slice}
use Rattle.buffer.proofs.Overs.{slice-drop}
use Rattle.sheet.proofs.Lays.{laid-first}
use borrow.Author.Rules.{rules}
use Rattle.sheet.proofs.writing.lay_first.Goals as goal

pub returns : goal.returns
returns c =
    let nine : length c.args.r.command ≡ 9 = search rules in
    let seven : length c.args.r.reply ≡ 7 = search rules in
    let sent = length-take-le c.args.r.count c.args.r.command (omega (arith, c.requires.count_bound)) in
    let left = ap length (slice-drop c.args.r.reply c.args.r.place c.args.r.fill)
    ∙ length-slice c.args.r.place c.args.r.fill c.args.r.reply (omega (arith, c.requires.count_bound)) in (
      laid-first _ _ _ _ _ (take c.args.r.count c.args.r.command) _ _ c.args.r c.args.rest _ (slice-drop c.args.r.reply c.args.r.place c.args.r.fill)
          c.opening.ensures c.copy_in.ensures c.put-next.ensures.0 c.put-next.ensures.1 c.put.ensures.0,
      omega (arith, sent, left, c.put.ensures.1, c.put-next.ensures.1),
    )
