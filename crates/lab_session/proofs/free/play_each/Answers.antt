use denote.RattleType.{RattleType}
use denote.Ref.{NamedLft}
use denote.Struct.Declared.{Declared}
use denote.Struct.Tuple.{type_at}
use denote.Param.{param}
use denote.Param.Send.{param_send, sendable}
use denote.Param.SendFields.{declared_send}
use mir.Syntax.{named}
use Rattle.std.proofs.{Common.{List}, Crossing.{crosses}}
use Rattle.lab_session.proofs.lab.Lab.TheSendSync as lab
use Rattle.lab_session.proofs.{Sending.{ended_send, line_sync, seat_send}, free.play_each.Lts.{arg-12-2, of-24, name-32}}
use Rattle.lab_session.proofs.free.play_each.Goals as goal

-- what a thread runs may go to it, as each of its captures may
pub spawn_with-requires-send-F : goal.spawn_with-requires-send-F
spawn_with-requires-send-F g c = λ κs h.
    let engine = c.type_bounds.send-E in
    let gate = c.type_bounds.sync-G in
    let runtime = c.type_bounds.sync-R in
    let F : RattleType = arg-12-2 g.row.E g.row.G g.row.R g.E.laws g.G.laws g.R.laws g.E.Engine g.E.Engine-dict g.G.Gate g.G.Gate-dict g.R.Threads g.R.Threads-dict g.R.Wait g.R.Wait-dict g.E.Destruct-dict κs in
    let name = name-32 g.row.E g.row.G g.row.R g.E.laws g.G.laws g.R.laws g.E.Engine g.E.Engine-dict g.G.Gate g.G.Gate-dict g.R.Threads g.R.Threads-dict g.R.Wait g.R.Wait-dict g.E.Destruct-dict in
    let rows : NamedLft → NamedLft → NamedLft → NamedLft → List RattleType = of-24 g.row.E g.row.G g.row.R g.E.laws g.G.laws g.R.laws g.E.Engine g.E.Engine-dict g.G.Gate g.G.Gate-dict g.R.Threads g.R.Threads-dict g.R.Wait g.R.Wait-dict g.E.Destruct-dict in
    let closure : Declared = type_at name (
    rows (record { mir = named 6; lft = κs.1.1.1.1.1.1.0 }) (record { mir = named 7; lft = κs.1.1.1.1.1.1.1.0 }) (record { mir = named 8; lft = κs.1.1.1.1.1.1.1.1.0 })
    (record { mir = named 9; lft = κs.1.1.1.1.1.1.1.1.1.0 })
    ) in
    let shared = lab.the_sync (param 0 g.row.E) g.E.Engine (search (sendable, engine)) in
    let captures = declared_send closure (
      search (sendable, runtime),
      (search (sendable, crosses), (search (sendable, shared), (seat_send, (search (sendable, line_sync), (search (sendable, gate), tt))))),
    ) in
    param_send 2 F (search (sendable, captures))

pub spawn_with-requires-send-T : goal.spawn_with-requires-send-T
spawn_with-requires-send-T g c = λ κs h. search (sendable, ended_send) depth 12
