-- What an engine keeps may be handed to another thread.
use denote.RattleType.{RattleType}
use denote.Param.{Send.{IsSend, sendable}, SendFields.{declared_send}}
use Rattle.std.{specs.declared.default.Default.{Ghosts as Defaults}, proofs.Crossing.{crosses}}
use Rattle.lab_table.proofs.{number.{TxnNo.TheSendSync.{the_send as number}, Session.TheSendSync.{the_send as session}}, predicate.Pred.TheLaws.TheKnot.{crosses as predicate}, row_name.RowName.TheSendSync.{the_send as row_name}, table.Table.TheSendSync.{the_send as table}}
use Rattle.lab_conditions.proofs.Crosses.{index}
use Rattle.lab_table.specs.contracts.statement.Statement.{the_row as statement_row}
use Rattle.lab_engine.proofs.{row_states.RowStates.TheSendSync.{the_send as row_states}, wait_graph.WaitGraph.TheSendSync.{the_send as wait_graph}}
use Rattle.lab_engine.specs.{declared.rules.Rules.{Ghosts}, contracts.{event.LogEvent.{the_row as event_row}, session_state.{RunningTxn.{the_row as running_row}, SessionState.{the_row as state_row}}}}
use Rattle.lab_engine.specs.contracts.{journal.Journal.{the_row as journal_row, TheInside.{the_row as inside_row, the_type as inside_type}}, situation.Situation.{the_row as situation_row, the_type as situation_type}, statements_run.StatementsRun.{the_row as statements_row}}

pub statement : IsSend statement_row
statement = search (sendable, crosses, predicate) depth 40 fits 20000

pub event : IsSend event_row
event = search (sendable, crosses, predicate) depth 40 fits 20000

statements : IsSend statements_row
statements = search (sendable, crosses, statement, index) depth 40 fits 20000

running : IsSend running_row
running = search (sendable, crosses, number, row_name, statements) depth 40 fits 20000

state : IsSend state_row
state = search (sendable, crosses, session, statement, running) depth 40 fits 20000

pub situation : IsSend situation_row
situation = declared_send situation_type (
  search (sendable, crosses, state) depth 40,
  (
    search (sendable, row_states),
    (search (sendable, wait_graph), (search sendable, (search sendable, tt))),
  ),
)

module _ (R : RattleType) (rules : Ghosts R.Denot) (default : Defaults R.Denot) where
  kept : IsSend R → IsSend (inside_row R rules default)
  kept r = declared_send (inside_type R rules default) (
    search (sendable, r),
    (
      search (sendable, table),
      (
        search (sendable, crosses, event) depth 40,
        (
          search (sendable, crosses, session) depth 40,
          (search (sendable, crosses, situation) depth 40, tt),
        ),
      ),
    ),
  )

  -- an engine may, where its rules may
  pub journal : IsSend R → IsSend (journal_row R rules default)
  journal r = let inside = kept r in search (sendable, inside)
