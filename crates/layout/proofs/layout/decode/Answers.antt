use Rattle.layout.specs.Layout.{regs_at}
use Rattle.layout.proofs.layout.decode.Goals as goal

pub returns : goal.returns
unfolding regs_at
returns c =
    simp (
      c.command_at.ensures,
      c.reply_at.ensures,
      c.write_at.ensures,
      c.drive_at.ensures,
      c.long_at.ensures,
      c.long_at-2.ensures,
      c.flag_at.ensures,
      c.word_at.ensures.0,
    )
