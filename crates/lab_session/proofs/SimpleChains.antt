-- A chain of waiting sessions, each blocked by the next, without those that it meets again.
use Rattle.std.{proofs.{Common.{◌≡◌, ℕ, refl, sym, subst, ◌∙◌, Bool, true, false, ◌||◌, List, [], ◌∷◌}, lemmas.{Bool.{both_ways, eqb-true}, Option.{same_Some}}}, specs.{Prelude.{◌==◌, Some}, List.{list_any}}}
use Rattle.lab_table.specs.{Table.{Table}, declared.statement.Statement.{Statement}}
use Rattle.lab_history.specs.HistoryRules.{AllDistinct}
use Rattle.lab_engine.specs.{declared.event.Level.{Level}, Log.{Past, waiting}, Rules.{IsChain}}

module _ (level : Level) (setup : Table) (past : Past) (goal : ℕ) where
  -- a chain from a session on, on which nobody stands twice
  abbrev Simple : ℕ → Statement → Type 0
  Simple session asked = (rest : List ℕ) × IsChain level setup past session asked rest goal × AllDistinct (session ∷ rest)

  -- where a session stands on a chain, the chain from there on
  cut : (x : ℕ) (own : Statement) → waiting past x ≡ Some own → (rest : List ℕ) (session : ℕ) (asked : Statement) → IsChain level setup past session asked rest goal → AllDistinct rest
      → list_any (λ m. m == x) rest ≡ true → Simple x own
  cut x own is [] session asked chain once there = absurd (both_ways false refl there)
  cut x own is (y ∷ rest) session asked (blocked, held, waits, chain) once there = at (cut x own is rest y held chain once.1) (y == x) refl there
    where
      at : (list_any (λ m. m == x) rest ≡ true → Simple x own) → (b : Bool) → (y == x) ≡ b → (b || list_any (λ m. m == x) rest) ≡ true → Simple x own
      at behind true q h =
          let same : y ≡ x = eqb-true y x q in
          let alike : held ≡ own = same_Some held own (sym waits ∙ subst (λ k. waiting past k ≡ Some own) (sym same) is) in (
            rest,
            subst (λ k. IsChain level setup past k own rest goal) same (subst (λ s. IsChain level setup past y s rest goal) alike chain),
            subst (λ k. AllDistinct (k ∷ rest)) same once,
          )
      at behind false q h = behind h

  -- a chain of a waiting session has such a one
  pub simple : (rest : List ℕ) (session : ℕ) (asked : Statement) → waiting past session ≡ Some asked → IsChain level setup past session asked rest goal → Simple session asked
  simple [] session asked is chain = ([], chain, (refl, tt))
  simple (next ∷ more) session asked is (blocked, own, waits, chain) = by (simple more next own waits chain)
    where
      by : Simple next own → Simple session asked
      by (rest, shorter, once) = at (list_any (λ m. m == session) (next ∷ rest)) refl
        where
          at : (b : Bool) → list_any (λ m. m == session) (next ∷ rest) ≡ b → Simple session asked
          at true q = cut session asked is (next ∷ rest) session asked (blocked, own, waits, shorter) once q
          at false q = (next ∷ rest, (blocked, own, waits, shorter), (q, once))
