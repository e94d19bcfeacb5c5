-- The table of sessions holds.
use mathlib.Core.Path.{◌≡◌, refl}
use mathlib.Core.Bool.{true}
use Rattle.buffer.specs.Same.{same_bytes}
use Rattle.fields.specs.Bytes.{number_at, text_at, with_bit}
use Rattle.fields.specs.Model.{size_of, total}
use Rattle.image.specs.Dsk.{entries, header_of, entry_of, tracks_from, dsk_of}
use Rattle.image.specs.Dsk as dsk
use Rattle.tracks.specs.Rows.{ids_at, ids_from}
use Rattle.store.specs.Find.{find_from}
use Rattle.store.specs.Search.{sector_at, sector_by_index, by_index, run_from, read_at}
use Rattle.store.specs.Store.{contents}
use Rattle.store.specs.Fresh.{blanks, formatted, fresh_from, fresh}
use Rattle.store.specs.Calls.{within}
use Rattle.disk.specs.Change.{change, insert, sort_onto, sorted, set_track}
use Rattle.disk.specs.Calls.{end_of}
use Rattle.registers.specs.Boxes.{new_world, named, taken, changed, all_changed, put_in, interrupted, responded}
use Rattle.codes.specs.Table.{mask_rows, rows, command_by, command_of}
use Rattle.registers.specs.Ports.{status, polled, after_status, given, read_from, port_byte, after_read, change_disk}
use Rattle.commands.specs.Commands.{missing, sense_if, seek_if, mark_of, read_reply, served_as, read_data, id_given, read_id}
use Rattle.commands.specs.Commands.{lays_track, format_at_once, format_track, written_track, written_into, obeyed}
use Rattle.sending.specs.Machine.{command_if, command_byte, data_if, data_byte, byte_for, sent, done, write_port}
use Rattle.sending.specs.Sessions.{plays, is_refused, has_tracks, holds, all_hold, enter, give, normal, sheet_sessions, sessions}

-- every row holds
pub sessions-hold : all_hold sessions ≡ true
unfolding mask_rows same_bytes number_at text_at size_of total entries header_of entry_of tracks_from dsk_of dsk.image_kind find_from sector_at run_from read_at contents ids_at ids_from sector_by_index by_index blanks formatted fresh_from fresh within change insert sort_onto sorted set_track new_world named taken changed all_changed put_in interrupted responded rows command_by command_of status polled after_status given read_from port_byte after_read change_disk missing with_bit sense_if seek_if end_of mark_of read_reply served_as read_data id_given read_id lays_track format_at_once format_track written_track written_into obeyed command_if command_byte data_if data_byte byte_for sent done write_port plays is_refused has_tracks holds all_hold enter give normal sheet_sessions sessions
sessions-hold = refl
