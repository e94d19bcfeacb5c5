use mathlib.Core.Path.{refl, sym, ◌∙◌}
use native.Mathlib.Omega.{arith}
use lib.ListN.{length-set}
use Rattle.fields.proofs.Exits.{handed_on}
use Rattle.image.proofs.Steps.{surveyed-good}
use Rattle.loading.proofs.Loads.{load-length, load-unread, load-refused, load-few, load-layable, load-good}
use Rattle.loading.proofs.lay.new.Goals as goal

pub returns-then-table-ne-TABLE : goal.returns-then-table-ne-TABLE
returns-then-table-ne-TABLE c = load-length _ _ _ c.if-table-ne-TABLE.true

pub returns-in_err-totals : goal.returns-in_err-totals
returns-in_err-totals c =
    rw (handed_on _ _ _ c.from_residual.ensures.1 refl)
    (load-unread _ _ _ _ c.if-table-ne-TABLE.false (sym c.in_err-totals.was ∙ c.survey.ensures))

pub returns-in_err-capacity : goal.returns-in_err-capacity
returns-in_err-capacity c =
    rw (handed_on _ _ _ c.from_residual-in_err-capacity.ensures.1 refl)
    (load-refused _ _ _ _ _ (surveyed-good _ _ _ (sym c.in_ok-totals.was ∙ c.survey.ensures)) c.if-table-ne-TABLE.false _ c.room_of.ensures.0 _
    (sym c.capacity.ensures ∙ c.in_err-capacity.was))

pub overflow_cast-table : goal.overflow_cast-table
overflow_cast-table c =
    omega (
      arith,
      load-few _ c.args.table.now c.args.bytes.now _ _ (surveyed-good _ _ _ (sym c.in_ok-totals.was ∙ c.survey.ensures)) c.if-table-ne-TABLE.false _
          c.room_of.ensures.0 (sym c.capacity.ensures ∙ c.in_ok-capacity.was),
    )

pub lay_tracks-requires : goal.lay_tracks-requires
lay_tracks-requires c =
    load-layable _ c.args.table.now _ _ _ (surveyed-good _ _ _ (sym c.in_ok-totals.was ∙ c.survey.ensures)) c.if-table-ne-TABLE.false _
    c.room_of.ensures.0 (sym c.capacity.ensures ∙ c.in_ok-capacity.was) _ (length-set c.args.table.now 0 _)

pub returns : goal.returns
returns c =
    load-good _ _ _ _ _ (surveyed-good _ _ _ (sym c.in_ok-totals.was ∙ c.survey.ensures)) c.if-table-ne-TABLE.false _ c.room_of.ensures.0
    (sym c.capacity.ensures ∙ c.in_ok-capacity.was) _ _ c.lay_tracks.ensures.0 c.lay_tracks.ensures.1
