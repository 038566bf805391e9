-- The next line of a session in a script, and where there is none.
use Rattle.std.proofs.{Common.{◌≡◌, ℕ, suc, ◌+◌, ◌≤◌, ◌<◌, refl, sym, ap, subst, ◌∙◌, arith, Bool, true, false, cond, ◌||◌, List, [], ◌∷◌, ◌++◌, ◌⊎◌, inl, inr, length, map}, lemmas.{Bool.{both_ways, eq-eqb, or_cases, or_parts, Decides.{eqb_tells}}, Option.{same_Some}}}
use Rattle.std.specs.Prelude.{◌==◌, Some, None, is_some, nat_lt, filter}
use borrow.Author.Tests.{ltb-true, ltb-false}
use Rattle.lab_table.specs.declared.statement.Command.{Command}
use Rattle.lab_engine.{specs.{Log.{Past, waiting}, Recording.{Line, given, lines_by, next_line}}, proofs.LockSteps.{none_some}}
use Rattle.lab_session.{specs.Play.{commands_of}, proofs.Playing.{next_rests, lines_more}}

-- the next line of a session is the first of its commands that it hasn't given
abbrev pub NextOf : Past → List Line → List Line → Line → Type 0
NextOf past passed lines line = (front : List Command) × (rest : List Command) × (commands_of line.0 lines ≡ front ++ line.1 ∷ rest) × (lines_by line.0 passed + length front ≡ given past line.0)

-- the commands of a session, where a line stands in front that is its own
own_first : (session : ℕ) (first : Line) (lines : List Line) → (first.0 == session) ≡ true → commands_of session (first ∷ lines) ≡ first.1 ∷ commands_of session lines
own_first session first lines h = ap (λ b. map (λ (l : Line). l.1) (cond b (first ∷ filter (λ (l : Line). l.0 == session) lines) (filter (λ (l : Line). l.0 == session) lines))) h

-- or another's
other_first : (session : ℕ) (first : Line) (lines : List Line) → (first.0 == session) ≡ false → commands_of session (first ∷ lines) ≡ commands_of session lines
other_first session first lines h = ap (λ b. map (λ (l : Line). l.1) (cond b (first ∷ filter (λ (l : Line). l.0 == session) lines) (filter (λ (l : Line). l.0 == session) lines))) h

counted_first : (session : ℕ) (first : Line) (passed : List Line) (b : Bool) → (first.0 == session) ≡ b → lines_by session (first ∷ passed) ≡ cond b 1 0 + lines_by session passed
counted_first session first passed b h = sym (lines_more session first passed) ∙ ap (λ t. cond t 1 0 + lines_by session passed) h

-- a line that is passed over isn't one that its session has yet to give, unless that waits
passed_over : (past : Past) (passed : List Line) (session : ℕ) → waiting past session ≡ None → (is_some (waiting past session) || nat_lt (lines_by session passed) (given past session)) ≡ true
    → lines_by session passed < given past session
passed_over past passed session rest h = elim (or_cases (is_some (waiting past session)) (nat_lt (lines_by session passed) (given past session)) h) [
  | inl p ↦ absurd (both_ways _ (ap is_some rest) p)
  | inr p ↦ ltb-true (lines_by session passed) (given past session) p
]

pub next_splits : (past : Past) (passed lines : List Line) (line : Line) → next_line past passed lines ≡ Some line → lines_by line.0 passed ≤ given past line.0 → NextOf past passed lines line
next_splits past passed [] line h few = none_some _ h
next_splits past passed (first ∷ lines) line h few =
    at (λ k. next_splits past (first ∷ passed) lines line k) (is_some (waiting past first.0) || nat_lt (lines_by first.0 passed) (given past first.0)) refl h
  where
    own : (lines_by line.0 (first ∷ passed) ≤ given past line.0 → NextOf past (first ∷ passed) lines line) → (first.0 == line.0) ≡ true
        → lines_by line.0 passed < given past line.0 → NextOf past passed (first ∷ lines) line
    own rec same less =
        let count : lines_by line.0 (first ∷ passed) ≡ 1 + lines_by line.0 passed = counted_first line.0 first passed true same in
        let next : NextOf past (first ∷ passed) lines line = rec (omega (arith, count, less)) in
        (first.1 ∷ next.0, next.1, own_first line.0 first lines same ∙ ap (λ l. first.1 ∷ l) next.2, omega (arith, count, next.3))

    other : (lines_by line.0 (first ∷ passed) ≤ given past line.0 → NextOf past (first ∷ passed) lines line) → (first.0 == line.0) ≡ false → NextOf past passed (first ∷ lines) line
    other rec apart =
        let count : lines_by line.0 (first ∷ passed) ≡ 0 + lines_by line.0 passed = counted_first line.0 first passed false apart in
        let next : NextOf past (first ∷ passed) lines line = rec (omega (arith, count, few)) in
        (next.0, next.1, other_first line.0 first lines apart ∙ next.2, omega (arith, count, next.3))

    at : (next_line past (first ∷ passed) lines ≡ Some line → lines_by line.0 (first ∷ passed) ≤ given past line.0 → NextOf past (first ∷ passed) lines line) → (b : Bool)
        → (is_some (waiting past first.0) || nat_lt (lines_by first.0 passed) (given past first.0)) ≡ b → cond b (next_line past (first ∷ passed) lines) (Some first) ≡ Some line
        → NextOf past passed (first ∷ lines) line
    at rec true q h = elim (eqb_tells first.0 line.0) [
      | inl p ↦
          own (rec h) p.0 (passed_over past passed line.0 (next_rests past (first ∷ passed) lines line h)
          (subst (λ k. (is_some (waiting past k) || nat_lt (lines_by k passed) (given past k)) ≡ true) p.1 q))
      | inr p ↦ other (rec h) p.0
    ]
    at rec false q h =
        let same : first ≡ line = same_Some first line h in
        let parts = or_parts (is_some (waiting past first.0)) (nat_lt (lines_by first.0 passed) (given past first.0)) q in
        let most : given past first.0 ≤ lines_by first.0 passed = ltb-false (lines_by first.0 passed) (given past first.0) parts.1 in
        let most_line : given past line.0 ≤ lines_by line.0 passed = subst (λ (l : Line). given past l.0 ≤ lines_by l.0 passed) same most in (
          [],
          commands_of line.0 lines,
          own_first line.0 first lines (eq-eqb first.0 line.0 (ap (λ (l : Line). l.0) same)) ∙ ap (λ (l : Line). l.1 ∷ commands_of line.0 lines) same,
          omega (arith, most_line, few),
        )

-- where there is no next line, a session that isn't waiting has given all of its lines
pub next_none : (past : Past) (passed lines : List Line) (session : ℕ) → waiting past session ≡ None → next_line past passed lines ≡ None
    → (length (commands_of session lines) ≡ 0) ⊎ (lines_by session passed + length (commands_of session lines) ≤ given past session)
next_none past passed [] session rest h = inl refl
next_none past passed (first ∷ lines) session rest h =
    at (λ k. next_none past (first ∷ passed) lines session rest k) (is_some (waiting past first.0) || nat_lt (lines_by first.0 passed) (given past first.0)) refl h
  where
    Given : List Line → List Line → Type 0
    Given before after = (length (commands_of session after) ≡ 0) ⊎ (lines_by session before + length (commands_of session after) ≤ given past session)

    own : Given (first ∷ passed) lines → (first.0 == session) ≡ true → lines_by session passed < given past session → Given passed (first ∷ lines)
    own rec same less =
        let count : lines_by session (first ∷ passed) ≡ 1 + lines_by session passed = counted_first session first passed true same in
        let long : length (commands_of session (first ∷ lines)) ≡ suc (length (commands_of session lines)) = ap length (own_first session first lines same) in
        inr (elim rec [ inl p ↦ omega (arith, p, long, less) | inr p ↦ omega (arith, p, long, count) ])

    other : Given (first ∷ passed) lines → (first.0 == session) ≡ false → Given passed (first ∷ lines)
    other rec apart =
        let count : lines_by session (first ∷ passed) ≡ 0 + lines_by session passed = counted_first session first passed false apart in
        let long : length (commands_of session (first ∷ lines)) ≡ length (commands_of session lines) = ap length (other_first session first lines apart) in
        elim rec [ inl p ↦ inl (long ∙ p) | inr p ↦ inr (omega (arith, p, long, count)) ]

    at : (next_line past (first ∷ passed) lines ≡ None → Given (first ∷ passed) lines) → (b : Bool) → (is_some (waiting past first.0) || nat_lt (lines_by first.0 passed) (given past first.0)) ≡ b
        → cond b (next_line past (first ∷ passed) lines) (Some first) ≡ None → Given passed (first ∷ lines)
    at rec true q h = elim (eqb_tells first.0 session) [
      | inl p ↦ own (rec h) p.0 (passed_over past passed session rest (subst (λ k. (is_some (waiting past k) || nat_lt (lines_by k passed) (given past k)) ≡ true) p.1 q))
      | inr p ↦ other (rec h) p.0
    ]
    at rec false q h = none_some _ (sym h)
