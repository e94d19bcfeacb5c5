use mathlib.Core.Path.{◌∙◌}
use borrow.Author.Tests.{eq-eqb}
use Rattle.codes.specs.Table.{rows}
use Rattle.codes.proofs.Rows.{table_row, command-is, command-masked}
use borrow.Author.Rules.{rules}
use Rattle.codes.proofs.command.command_of.Goals as goal

pub returns-then-c-eq3 : goal.returns-then-c-eq3
unfolding rows table_row
returns-then-c-eq3 c = command-is 0 _ (search rules) (eq-eqb _ _ c.if-c-eq3.true)

pub returns-then-c-eq4 : goal.returns-then-c-eq4
unfolding rows table_row
returns-then-c-eq4 c = command-is 1 _ (search rules) (eq-eqb _ _ c.if-c-eq4.true)

pub returns-then-c-eq7 : goal.returns-then-c-eq7
unfolding rows table_row
returns-then-c-eq7 c = command-is 2 _ (search rules) (eq-eqb _ _ c.if-c-eq7.true)

pub returns-then-c-eq15 : goal.returns-then-c-eq15
unfolding rows table_row
returns-then-c-eq15 c = command-is 3 _ (search rules) (eq-eqb _ _ c.if-c-eq15.true)

pub returns-then-c-eq8 : goal.returns-then-c-eq8
unfolding rows table_row
returns-then-c-eq8 c = command-is 4 _ (search rules) (eq-eqb _ _ c.if-c-eq8.true)

pub returns : goal.returns
returns c =
    let if1 = c.if-c-eq3 in
    let if2 = c.if-c-eq4 in
    let if3 = c.if-c-eq7 in
    let if4 = c.if-c-eq15 in
    c.mask_command.ensures ∙ command-masked _ if1.false if2.false if3.false if4.false c.if-c-eq8.false
