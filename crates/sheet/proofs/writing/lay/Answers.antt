use mathlib.Core.Path.{◌≡◌}
use native.Mathlib.Omega.{arith}
use lib.ListN.{length}
use Rattle.sheet.proofs.Lengths.{known, sheet-size}
use Rattle.sheet.proofs.Lays.{laid-sheet}
use borrow.Author.Rules.{rules}
use Rattle.sheet.proofs.writing.lay.Goals as goal

pub overflow_sub-n : goal.overflow_sub-n
overflow_sub-n c =
    let nine : length c.args.r.command ≡ 9 = search rules in
    let seven : length c.args.r.reply ≡ 7 = search rules in
    omega (arith, (known c.args.r c.args.held.now c.args.transfer.now nine seven c.requires.r_value).long, c.requires.n_value)

pub lay_first-at-requires : goal.lay_first-at-requires
lay_first-at-requires c =
    let nine : length c.args.r.command ≡ 9 = search rules in
    let seven : length c.args.r.reply ≡ 7 = search rules in
    let k = known c.args.r c.args.held.now c.args.transfer.now nine seven c.requires.r_value in
    record { count_bound = (k.count-in, (k.place_in, k.fill-in)); place_in_bounds = omega (arith, (sheet-size c.args.r c.args.held.now c.args.transfer.now nine seven c.requires.r_value), c.requires.n_value) }

pub lay_rest-requires : goal.lay_rest-requires
lay_rest-requires c =
    let nine : length c.args.r.command ≡ 9 = search rules in
    let seven : length c.args.r.reply ≡ 7 = search rules in
    let k = known c.args.r c.args.held.now c.args.transfer.now nine seven c.requires.r_value in
    record {
      from_le_until = (k.from_in, k.until-in);
      taken_in_bounds = k.held_in;
      room = omega (arith, (sheet-size c.args.r c.args.held.now c.args.transfer.now nine seven c.requires.r_value), c.lay_first-at.ensures.1, c.requires.n_value);
    }

pub returns : goal.returns
returns c =
    let nine : length c.args.r.command ≡ 9 = search rules in
    let seven : length c.args.r.reply ≡ 7 = search rules in
    laid-sheet _ _ _ c.args.held.now c.args.transfer.now c.args.r c.args.n _ (known c.args.r c.args.held.now c.args.transfer.now nine seven c.requires.r_value) c.requires.n_value.0
    c.lay_first-at.ensures.0 c.lay_first-at.ensures.1 c.lay_rest.ensures
