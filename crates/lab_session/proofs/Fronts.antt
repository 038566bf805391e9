-- Lines at the front of a script that have been given.
use Rattle.std.{proofs.{Common.{◌≡◌, ℕ, suc, ◌+◌, ◌≤◌, ◌<◌, refl, sym, ap, subst, ◌∙◌, arith, Bool, true, false, cond, ◌||◌, List, [], ◌∷◌, ◌++◌, inl, inr, length, drop, get_or}, lemmas.Bool.{lt-ltb, Decides.{eqb_tells}}, Math.Bool.{or-true}}, specs.Prelude.{◌==◌, Some, is_some, is_none, ◌&&◌}}
use Rattle.lab_script.specs.{declared.script.Line.{Line as ScriptLine}, Ranges.{SessionInRange}}
use Rattle.lab_engine.{specs.{declared.event.LogEvent.{LogEvent}, Log.{Past, past_of, waiting}, Recording.{Line, given, lines_by, next_line}}, proofs.Runs.{past_of-push}}
use Rattle.lab_session.{specs.{Play.{given_lines}, UnderWay.{count_of, HasOneMore, AreCounts, IsBehind, IsCovered}, declared.scripted.Front.{Front}}, proofs.Playing.{drop_at, counts_more, counts_few, counts_same, lines_more}}

-- none at first
pub front_starts : (lines : List ScriptLine) (counts : List ℕ) → AreCounts (λ _. 0) counts → IsBehind lines (record { lines = 0; of_sessions = counts })
front_starts lines counts none = record {
  passed = [];
  counted = none;
  few = λ session own. omega (arith, none session own);
  within = omega arith;
  skips = λ past covered. refl;
}

pub nothing_covered : (past : Past) (counts : List ℕ) → AreCounts (λ _. 0) counts → IsCovered past (record { lines = 0; of_sessions = counts })
nothing_covered past counts none session own = omega (arith, none session own)

-- one line more, which is its session's
module _ (lines : List ScriptLine) (front : Front) (line : ScriptLine) (behind : IsBehind lines front) (lt : front.lines < length lines)
    (is : line ≡ get_or lines front.lines line) (own : SessionInRange line.session) where
  abbrev more : List Line
  more = (line.session, line.command) ∷ behind.passed

  no_fewer : (session : ℕ) → lines_by session behind.passed ≤ lines_by session more
  no_fewer session = at (line.session == session) (lines_more session (line.session, line.command) behind.passed)
    where
      at : (b : Bool) → cond b 1 0 + lines_by session behind.passed ≡ lines_by session more → lines_by session behind.passed ≤ lines_by session more
      at true h = omega (arith, h)
      at false h = omega (arith, h)

  own_more : suc (lines_by line.session behind.passed) ≡ lines_by line.session more
  own_more = elim (eqb_tells line.session line.session) [
    | inl p ↦
        omega (arith, subst (λ (b : Bool). cond b 1 0 + lines_by line.session behind.passed ≡ lines_by line.session more) p.0 (lines_more line.session (line.session, line.command) behind.passed))
    | inr p ↦ absurd (p.1 refl)
  ]

  step : (past : Past) → lines_by line.session more ≤ given past line.session
      → next_line past behind.passed (given_lines (drop front.lines lines)) ≡ next_line past more (given_lines (drop (front.lines + 1) lines))
  step past covered =
      ap (λ l. next_line past behind.passed (given_lines l)) (drop_at lines front.lines line lt is)
      ∙ ap (λ b. cond b (next_line past more (given_lines (drop (front.lines + 1) lines))) (Some (line.session, line.command)))
      (ap (λ b. is_some (waiting past line.session) || b) (lt-ltb (lines_by line.session behind.passed) (given past line.session) (omega (arith, own_more, covered)))
      ∙ or-true (is_some (waiting past line.session)))

  pub front_more : (counts : List ℕ) → HasOneMore line.session front.of_sessions counts → IsBehind lines (record { lines = front.lines + 1; of_sessions = counts })
  front_more counts grown = record {
    passed = more;
    counted = counts_same _ _ _ (counts_more (λ session. lines_by session behind.passed) front.of_sessions counts line.session grown behind.counted)
        (λ session. sym (lines_more session (line.session, line.command) behind.passed));
    few = counts_few front.of_sessions counts line.session front.lines grown behind.few;
    within = omega (arith, lt);
    skips = λ past covered. behind.skips past (λ session few. omega (arith, no_fewer session, covered session few)) ∙ step past (covered line.session own);
  }

-- it is covered, where its session had given more than there were before it
pub covered_more : (past : Past) (front : Front) (counts new : List ℕ) (session lines : ℕ) → AreCounts (given past) counts → IsCovered past front → SessionInRange session
    → HasOneMore session front.of_sessions new → count_of front.of_sessions session < count_of counts session → IsCovered past (record { lines = lines; of_sessions = new })
covered_more past front counts new session lines counted covered own more less s few = elim (eqb_tells session s) [
  | inl p ↦ omega (
    arith,
    less,
    counted session own,
    ap (given past) p.1,
    ap (count_of front.of_sessions) p.1,
    subst (λ b. count_of new s ≡ cond b 1 0 + count_of front.of_sessions s) p.0 (more s),
  )
  | inr p ↦ omega (arith, covered s few, subst (λ b. count_of new s ≡ cond b 1 0 + count_of front.of_sessions s) p.0 (more s))
]

-- what is covered stays so
pub covered_later : (old new : List LogEvent) (event : LogEvent) (front : Front) → new ≡ old ++ event ∷ [] → IsCovered (past_of old) front → IsCovered (past_of new) front
covered_later old new event front log covered session few =
    subst (λ past. count_of front.of_sessions session ≤ given past session) (sym (ap past_of log ∙ past_of-push old event))
    (at (event.session == session && is_none (waiting (past_of old) session)))
  where
    at : (b : Bool) → count_of front.of_sessions session ≤ cond b 1 0 + given (past_of old) session
    at true = omega (arith, covered session few)
    at false = omega (arith, covered session few)
