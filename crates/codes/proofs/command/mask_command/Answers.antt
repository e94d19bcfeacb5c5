use borrow.Author.Tests.{eq-eqb}
use Rattle.codes.specs.Table.{mask_rows}
use Rattle.codes.proofs.Rows.{table_row, mask_is, mask-none}
use borrow.Author.Rules.{rules}
use Rattle.codes.proofs.command.mask_command.Goals as goal

pub returns-then-m1f-eq16 : goal.returns-then-m1f-eq16
unfolding mask_rows table_row
returns-then-m1f-eq16 c = mask_is 0 _ (search rules) (eq-eqb _ _ c.if-m1f-eq16.true)

pub returns-then-m1f-eq6 : goal.returns-then-m1f-eq6
unfolding mask_rows table_row
returns-then-m1f-eq6 c = mask_is 1 _ (search rules) (eq-eqb _ _ c.if-m1f-eq6.true)

pub returns-then-m1f-eq12 : goal.returns-then-m1f-eq12
unfolding mask_rows table_row
returns-then-m1f-eq12 c = mask_is 2 _ (search rules) (eq-eqb _ _ c.if-m1f-eq12.true)

pub returns-then-m3f-eq5 : goal.returns-then-m3f-eq5
unfolding mask_rows table_row
returns-then-m3f-eq5 c = mask_is 3 _ (search rules) (eq-eqb _ _ c.if-m3f-eq5.true)

pub returns-then-mbf-eq10 : goal.returns-then-mbf-eq10
unfolding mask_rows table_row
returns-then-mbf-eq10 c = mask_is 4 _ (search rules) (eq-eqb _ _ c.if-mbf-eq10.true)

pub returns-then-mbf-eq13 : goal.returns-then-mbf-eq13
unfolding mask_rows table_row
returns-then-mbf-eq13 c = mask_is 5 _ (search rules) (eq-eqb _ _ c.if-mbf-eq13.true)

pub returns-then-m3f-eq9 : goal.returns-then-m3f-eq9
unfolding mask_rows table_row
returns-then-m3f-eq9 c = mask_is 6 _ (search rules) (eq-eqb _ _ c.if-m3f-eq9.true)

pub returns-then-m9f-eq2 : goal.returns-then-m9f-eq2
unfolding mask_rows table_row
returns-then-m9f-eq2 c = mask_is 7 _ (search rules) (eq-eqb _ _ c.if-m9f-eq2.true)

pub returns-then-m1f-eq17 : goal.returns-then-m1f-eq17
unfolding mask_rows table_row
returns-then-m1f-eq17 c = mask_is 8 _ (search rules) (eq-eqb _ _ c.if-m1f-eq17.true)

pub returns-then-m1f-eq25 : goal.returns-then-m1f-eq25
unfolding mask_rows table_row
returns-then-m1f-eq25 c = mask_is 9 _ (search rules) (eq-eqb _ _ c.if-m1f-eq25.true)

pub returns-then-m1f-eq29 : goal.returns-then-m1f-eq29
unfolding mask_rows table_row
returns-then-m1f-eq29 c = mask_is 10 _ (search rules) (eq-eqb _ _ c.if-m1f-eq29.true)

pub returns : goal.returns
returns c = mask-none _ (search rules) (search rules) (search rules) (search rules) (search rules) (search rules) (search rules) (search rules) (search rules) (search rules) (search rules)
