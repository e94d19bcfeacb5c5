use Rattle.std.proofs.Common.{sym, ap, ◌∙◌, Ok}
use Rattle.fields.proofs.Exits.{handed_on}
use Rattle.image.proofs.Headers.{kind-short, kind-extended, kind-never, kind-normal, kind-none}
use Rattle.image.proofs.walk.read_signature.Goals as goal

pub returns-in_err-read_string : goal.returns-in_err-read_string
returns-in_err-read_string c = handed_on _ _ _ c.from_residual.ensures.1 (kind-short _ _ (sym c.read_string.ensures ∙ c.in_err-read_string.was))

pub returns-then-branch : goal.returns-then-branch
returns-then-branch c = kind-extended _ (sym c.read_string.ensures ∙ c.in_ok-read_string.was ∙ ap Ok c.if-branch.true)

pub returns-in_err-read_string-2 : goal.returns-in_err-read_string-2
returns-in_err-read_string-2 c =
    handed_on _ _ _ c.from_residual-in_err-read_string-2.ensures.1
    (kind-never _ (sym c.read_string.ensures ∙ c.in_ok-read_string.was ∙ ap Ok c.if-branch.false) _
    (sym c.read_string-2.ensures ∙ c.in_err-read_string-2.was))

pub returns-then-branch-2 : goal.returns-then-branch-2
returns-then-branch-2 c =
    kind-normal _ (sym c.read_string.ensures ∙ c.in_ok-read_string.was ∙ ap Ok c.if-branch.false)
    (sym c.read_string-2.ensures ∙ c.in_ok-read_string-2.was ∙ ap Ok c.if-branch-2.true)

pub returns : goal.returns
returns c =
    kind-none _ (sym c.read_string.ensures ∙ c.in_ok-read_string.was ∙ ap Ok c.if-branch.false)
    (sym c.read_string-2.ensures ∙ c.in_ok-read_string-2.was ∙ ap Ok c.if-branch-2.false)
