use Rattle.std.proofs.Common.{sym, ap, ◌∙◌, Ok}
use Rattle.fields.proofs.Exits.{handed_on}
use Rattle.tracks.proofs.Tracks.{track-short, track-other, track-body}
use Rattle.tracks.proofs.track.read_track.Goals as goal

pub returns-in_err-read_string : goal.returns-in_err-read_string
returns-in_err-read_string c = handed_on _ _ _ c.from_residual.ensures.1 (track-short _ _ _ (sym c.read_string.ensures ∙ c.in_err-read_string.was))

pub returns-then-not-branch : goal.returns-then-not-branch
returns-then-not-branch c = track-other _ _ (sym c.read_string.ensures ∙ c.in_ok-read_string.was ∙ ap Ok c.if-not-branch.true)

pub returns : goal.returns
returns c = track-body _ _ _ (sym c.read_string.ensures ∙ c.in_ok-read_string.was ∙ ap Ok c.if-not-branch.false) c.read_body.ensures
