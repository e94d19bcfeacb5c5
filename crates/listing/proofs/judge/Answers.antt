use mathlib.Core.Path.{refl, sym, subst, ◌∙◌}
use Rattle.fields.proofs.Exits.{handed_on}
use Rattle.listing.specs.Lines.{Judged}
use Rattle.listing.proofs.Listings.{long-refused, unread-refused, tracks-refused, sectors-refused}
use Rattle.listing.proofs.judge.Goals as goal

pub returns-then-input-gt-INPUT : goal.returns-then-input-gt-INPUT
returns-then-input-gt-INPUT c = long-refused _ c.if-input-gt-INPUT.true

pub returns-in_err-totals : goal.returns-in_err-totals
returns-in_err-totals c =
    subst (Judged c.args.input.now) (sym (handed_on _ _ _ c.from_residual.ensures.1 refl))
    (unread-refused _ c.if-input-gt-INPUT.false _ (sym c.in_err-totals.was ∙ c.survey.ensures))

pub returns-then-totals-gt-TRACKS : goal.returns-then-totals-gt-TRACKS
returns-then-totals-gt-TRACKS c =
    tracks-refused _ c.if-input-gt-INPUT.false c.in_ok-totals.totals c.in_ok-totals.walk (sym c.in_ok-totals.was ∙ c.survey.ensures) c.if-totals-gt-TRACKS.true

pub returns-then-totals-gt-SECTORS : goal.returns-then-totals-gt-SECTORS
returns-then-totals-gt-SECTORS c =
    sectors-refused _ c.if-input-gt-INPUT.false c.in_ok-totals.totals c.in_ok-totals.walk (sym c.in_ok-totals.was ∙ c.survey.ensures)
    c.if-totals-gt-TRACKS.false c.if-totals-gt-SECTORS.true

pub returns : goal.returns
returns c = record {
  short = c.if-input-gt-INPUT.false;
  read = sym c.in_ok-totals.was ∙ c.survey.ensures;
  tracks = c.if-totals-gt-TRACKS.false;
  sectors = c.if-totals-gt-SECTORS.false;
}
