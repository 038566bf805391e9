use Rattle.lab_script.proofs.Common.{max_line_bytes, printed_setup, room_tells}
use Rattle.lab_script.proofs.spelling.setup_fits.Goals as goal

pub returns : goal.returns
returns c =
    room_tells c.spell_setup.result max_line_bytes c.new-room.result.used c.spell_setup.new.out.used (printed_setup c.args.table.now) c.spell_setup.ensures.text c.new-room.ensures
    c.spell_setup.new.out.within
