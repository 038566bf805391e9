use Rattle.std.{proofs.Common.{◌++◌, ap, sym, ◌∙◌}, specs.Prelude.{codes}}
use Rattle.lab_printing.proofs.Appended.{rest_appended}
use Rattle.lab_drawing.specs.{Cycles.{walk_phenomenon}, Titles.{full_name, serial_title}}
use Rattle.lab_drawing.proofs.titles.put_serial_title.Goals as goal

pub returns-in_ok-extend_from_slice-in-NoCycle : goal.returns-in_ok-extend_from_slice-in-NoCycle
returns-in_ok-extend_from_slice-in-NoCycle c =
    let h = c.args.history.now in
    let walk = c.as_slice-in-NoCycle.result.now in
    rest_appended c.put_cycle_name.result c.args.out.now.items (codes "Not serializable: ") (full_name h (walk_phenomenon walk) walk) c.extend_from_slice-in-NoCycle.new.self.items
    c.put_cycle_name.new.out.items (serial_title h c.args.serial.now) c.in_ok-extend_from_slice-in-NoCycle.ensures.items c.put_cycle_name.ensures
    (ap (serial_title h) c.in-NoCycle.is ∙ ap (λ w. codes "Not serializable: " ++ full_name h (walk_phenomenon w) w) (sym c.as_slice-in-NoCycle.ensures))
