-- Of one input `run` says one thing.
use Rattle.std.proofs.Common.{◌≡◌, inl, inr, ℕ, Bool, true, false, Option, Some, None, List, ◌++◌, sym, ap, subst, ◌∙◌, arith}
use Rattle.lab_script.{specs.declared.script.Script.{Script}, proofs.{FirstFault.{fault_spells_nothing}, OneFault.{one_script}}}
use Rattle.lab_history.specs.History.{History}
use Rattle.lab_engine.{specs.{Log.{past_of}, Recording.{IsRecording}, RecordedLog.{RecordedLog}, declared.event.Level.{Level}}, proofs.OneRecording.{one_recording}}
use Rattle.lab_session.{specs.Play.{given_lines}, proofs.OnePlay.{one_play, no_fault, one_fault}}
use Rattle.lab_judge.proofs.OneJudgement.{one_judgement}
use Rattle.lab_reports.specs.declared.requirement.Requirement.{Requirement}
use Rattle.lab_streams.specs.{Reports.{said_of, ending_due}, declared.{reporting.Wanted.{Wanted}, ending.Ending.{Ending}}}
use Rattle.lab_commands.{specs.{Playing.{IsScriptedPlay, IsScriptedRefusal, Ends, log_said, IsLogAnswer, IsHistoryAnswer, IsRecordingAnswer, IsPlayed, IsUnplayed, IsRunAnswer}, Refusals.{play_refused_text}, declared.shown.Shown.{Shown}}, proofs.OneTranscript.{one_refusal}}
use Rattle.lab_commands.specs.declared.shown.Shown.TheVariants as shown

-- recordings whose parts are the same are one
same_recorded : (r s : RecordedLog) → r.level ≡ s.level → r.setup ≡ s.setup → r.log ≡ s.log → r.history ≡ s.history → r ≡ s
same_recorded r s level setup log history =
    ap (λ l. record { level = l; setup = r.setup; log = r.log; history = r.history }) level
    ∙ ap (λ t. record { level = s.level; setup = t; log = r.log; history = r.history }) setup
    ∙ ap (λ l. record { level = s.level; setup = s.setup; log = l; history = r.history }) log
    ∙ ap (λ h. record { level = s.level; setup = s.setup; log = s.log; history = h }) history

-- a script has one recording at a level
pub one_recorded : (level : Level) (script : Script) (r s : RecordedLog) → IsScriptedPlay level script r → IsScriptedPlay level script s → r ≡ s
one_recorded level script r s h k =
    let log : r.log ≡ s.log = one_play level script.setup (given_lines script.lines) r.log s.log h.play k.play in
    same_recorded r s (h.at_level ∙ sym k.at_level) (h.on_setup ∙ sym k.on_setup) log
    (one_recording script.setup (past_of r.log) r.history s.history h.history (subst (λ l. IsRecording script.setup (past_of l) s.history) (sym log) k.history))

-- one thing ends one way
module _ (requirement : Option Requirement) (history : History) (first again : Ending) where
  one_end : Ends requirement history first → Ends requirement history again → first ≡ again
  one_end = by requirement
    where
      by : (r : Option Requirement) → Ends r history first → Ends r history again → first ≡ again
      by None a b = a ∙ sym b
      by (Some r) a b = a.2 ∙ ap (ending_due (Some r)) (one_judgement history a.0 b.0 a.1 b.1) ∙ sym b.2

-- of a recording one thing is told
module _ (wanted : Wanted) (recording : RecordedLog) (one other : List ℕ) (first again : Ending) where
  one_log : (rows : Bool) → IsLogAnswer rows wanted recording one first → IsLogAnswer rows wanted recording other again → (one ≡ other) × (first ≡ again)
  one_log rows a b =
      let same : a.report ≡ b.report = one_judgement recording.history a.report b.report a.judgement b.judgement in (
        a.text_is ∙ ap (λ r. log_said rows wanted.format recording ++ said_of wanted.format None r) same ∙ sym b.text_is,
        a.ends ∙ ap (ending_due wanted.requirement) same ∙ sym b.ends,
      )

  one_file : IsHistoryAnswer wanted recording one first → IsHistoryAnswer wanted recording other again → (one ≡ other) × (first ≡ again)
  one_file (IsHistoryAnswer.written short is ends) (IsHistoryAnswer.written within same end) = (is ∙ sym same, one_end wanted.requirement recording.history first again ends end)
  one_file (IsHistoryAnswer.written short is ends) (IsHistoryAnswer.too_long long same end) = absurd (omega (arith, short, long))
  one_file (IsHistoryAnswer.too_long long is ends) (IsHistoryAnswer.written short same end) = absurd (omega (arith, short, long))
  one_file (IsHistoryAnswer.too_long long is ends) (IsHistoryAnswer.too_long over same end) = (is ∙ sym same, ends ∙ sym end)

  one_told : (what : Shown) → IsRecordingAnswer what wanted recording one first → IsRecordingAnswer what wanted recording other again → (one ≡ other) × (first ≡ again)
  one_told shown.Log a b = one_log false a b
  one_told shown.Rows a b = one_log true a b
  one_told shown.History a b = one_file a b

-- what is played and recorded isn't refused
not_both : (level : Level) (what : Shown) (wanted : Wanted) (input one other : List ℕ) (first again : Ending) → IsPlayed (IsScriptedPlay level) (IsScriptedRefusal level) what wanted input one first
    → IsUnplayed (IsScriptedPlay level) (IsScriptedRefusal level) wanted.format input other again → ⊥
not_both level what wanted input one other first again p q =
    let script : q.script ≡ p.script = one_script input q.script p.script q.spelled p.spelled in
    no_fault level p.script.setup (given_lines p.script.lines) p.recording.log p.recording.history p.played.play p.played.history p.played.whole q.fault q.told_why
    (subst (λ s. IsScriptedRefusal level s q.fault) script q.faulty)

module _ (level : Level) (what : Shown) (wanted : Wanted) (input one other : List ℕ) (first again : Ending) where
  one_played : IsPlayed (IsScriptedPlay level) (IsScriptedRefusal level) what wanted input one first → IsPlayed (IsScriptedPlay level) (IsScriptedRefusal level) what wanted input other again
      → (one ≡ other) × (first ≡ again)
  one_played p q =
      let script : q.script ≡ p.script = one_script input q.script p.script q.spelled p.spelled in
      let same : q.recording ≡ p.recording = one_recorded level p.script q.recording p.recording (subst (λ s. IsScriptedPlay level s q.recording) script q.played) p.played in
      one_told wanted p.recording one other first again what p.tells (subst (λ r. IsRecordingAnswer what wanted r other again) same q.tells)

  one_unplayed : IsUnplayed (IsScriptedPlay level) (IsScriptedRefusal level) wanted.format input one first → IsUnplayed (IsScriptedPlay level) (IsScriptedRefusal level) wanted.format input other again
      → (one ≡ other) × (first ≡ again)
  one_unplayed p q =
      let script : q.script ≡ p.script = one_script input q.script p.script q.spelled p.spelled in (
        p.text_is
            ∙ ap (play_refused_text wanted.format) (one_fault level p.script.setup (given_lines p.script.lines) p.fault q.fault p.told_why q.told_why p.faulty
            (subst (λ s. IsScriptedRefusal level s q.fault) script q.faulty))
            ∙ sym q.text_is,
        p.refused ∙ sym q.refused,
      )

  pub one_run : IsRunAnswer (IsScriptedPlay level) (IsScriptedRefusal level) what wanted input one first → IsRunAnswer (IsScriptedPlay level) (IsScriptedRefusal level) what wanted input other again
      → (one ≡ other) × (first ≡ again)
  one_run (inl p) (inl q) = one_played p q
  one_run (inl p) (inr (inl r)) = absurd (fault_spells_nothing input r.line r.kind p.script r.faulty p.spelled)
  one_run (inl p) (inr (inr u)) = absurd (not_both level what wanted input one other first again p u)
  one_run (inr (inl r)) (inl p) = absurd (fault_spells_nothing input r.line r.kind p.script r.faulty p.spelled)
  one_run (inr (inl r)) (inr (inl s)) = one_refusal wanted.format input one other first again r s
  one_run (inr (inl r)) (inr (inr u)) = absurd (fault_spells_nothing input r.line r.kind u.script r.faulty u.spelled)
  one_run (inr (inr u)) (inl p) = absurd (not_both level what wanted input other one again first p u)
  one_run (inr (inr u)) (inr (inl r)) = absurd (fault_spells_nothing input r.line r.kind u.script r.faulty u.spelled)
  one_run (inr (inr u)) (inr (inr w)) = one_unplayed u w
