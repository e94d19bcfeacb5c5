use mathlib.Core.Path.{◌≡◌, sym, ◌∙◌}
use native.Mathlib.Omega.{arith}
use lib.ListN.{length}
use Rattle.sheet.proofs.Lengths.{known, sheet-size, sheet-most}
use Rattle.sheet.proofs.Lays.{written-wrong, written-short, written-whole}
use borrow.Author.Rules.{rules}
use Rattle.sheet.proofs.writing.write_parts.Goals as goal

pub returns-then-impossible_with : goal.returns-then-impossible_with
returns-then-impossible_with c = written-wrong c.args.r c.args.held.now c.args.transfer.now c.args.sheet.now (sym c.impossible_with.ensures ∙ c.if-impossible_with.true)

pub size-n-requires : goal.size-n-requires
size-n-requires c =
    let nine : length c.args.r.command ≡ 9 = search rules in
    let seven : length c.args.r.reply ≡ 7 = search rules in
    ((known c.args.r c.args.held.now c.args.transfer.now nine seven (sym c.impossible_with.ensures ∙ c.if-impossible_with.false)).place_in, (known c.args.r c.args.held.now c.args.transfer.now nine seven (sym c.impossible_with.ensures ∙ c.if-impossible_with.false)).from_in)

pub returns-then-sheet-n : goal.returns-then-sheet-n
returns-then-sheet-n c =
    let nine : length c.args.r.command ≡ 9 = search rules in
    let seven : length c.args.r.reply ≡ 7 = search rules in
    written-short c.args.r c.args.held.now c.args.transfer.now c.args.sheet.now c.size-n.result (sym c.impossible_with.ensures ∙ c.if-impossible_with.false) (c.size-n.ensures ∙ sym (sheet-size c.args.r c.args.held.now c.args.transfer.now nine seven (sym c.impossible_with.ensures ∙ c.if-impossible_with.false))) c.if-sheet-n.true

pub lay-requires : goal.lay-requires
lay-requires c =
    let nine : length c.args.r.command ≡ 9 = search rules in
    let seven : length c.args.r.reply ≡ 7 = search rules in
    let right = sym c.impossible_with.ensures ∙ c.if-impossible_with.false in
    record { r_value = right; n_value = (c.size-n.ensures ∙ sym (sheet-size c.args.r c.args.held.now c.args.transfer.now nine seven right), c.if-sheet-n.false) }

pub overflow_cast-result : goal.overflow_cast-result
overflow_cast-result c =
    let nine : length c.args.r.command ≡ 9 = search rules in
    let seven : length c.args.r.reply ≡ 7 = search rules in
    omega (arith, (c.size-n.ensures ∙ sym (sheet-size c.args.r c.args.held.now c.args.transfer.now nine seven (sym c.impossible_with.ensures ∙ c.if-impossible_with.false))), sheet-most c.args.r c.args.held.now c.args.transfer.now seven (sym c.impossible_with.ensures ∙ c.if-impossible_with.false))

pub returns : goal.returns
returns c =
    let nine : length c.args.r.command ≡ 9 = search rules in
    let seven : length c.args.r.reply ≡ 7 = search rules in
    written-whole c.args.r c.args.held.now c.args.transfer.now c.args.sheet.now c.size-n.result (sym c.impossible_with.ensures ∙ c.if-impossible_with.false) (c.size-n.ensures ∙ sym (sheet-size c.args.r c.args.held.now c.args.transfer.now nine seven (sym c.impossible_with.ensures ∙ c.if-impossible_with.false))) _ c.if-sheet-n.false c.lay.ensures
