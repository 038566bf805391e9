-- The order of all sessions, and the values of each.
use Rattle.std.proofs.{Common.{◌≡◌, ◌≢◌, ◌≤◌, ◌<◌, ◌+◌, ◌==◌, ◌∙◌, ℕ, suc, arith, ap, refl, sym, subst, inl, inr, cond, List, get_or, Some}, lemmas.{Bool.{cases_eq, eq-eqb, ne_eqb}, List.FromFn.{get_or-range_with_len}}}
use Rattle.lab_table.specs.Sessions.{all_sessions, of_session}

-- the session at a place is the number behind it
pub session_at : (session place default : ℕ) → session ≡ get_or all_sessions place default → place < 9 → session ≡ suc place
session_at session place default is few = is ∙ get_or-range_with_len 1 9 place default few ∙ omega arith

-- a property has each session up to a number
abbrev pub AllUpTo : (ℕ → Type 0) → ℕ → Type 0
AllUpTo P number = (session : ℕ) → 1 ≤ session → session ≤ number → P session

-- at first there is none
pub none_yet : (P : ℕ → Type 0) → AllUpTo P 0
none_yet P session low high = absurd (omega (arith, low, high))

-- one more
pub one_more : (P : ℕ → Type 0) (session place default : ℕ) → session ≡ get_or all_sessions place default → place < 9 → AllUpTo P place → P session → AllUpTo P (place + 1)
one_more P session place default is few before own s low high =
    let at : session ≡ suc place = session_at session place default is few in
    elim (cases_eq s session) [
      | inl same ↦ subst P (sym same) own
      | inr apart ↦ before s low (omega (arith, apart, at, high))
    ]

-- where one session has another value
module _ {A : Type 0} (old new : List A) (session : ℕ) (value : A) (each : (s : ℕ) → of_session new s ≡ cond (s == session) (Some value) (of_session old s)) where
  pub own_value : (s : ℕ) → s ≡ session → of_session new s ≡ Some value
  own_value s same = each s ∙ ap (λ b. cond b (Some value) (of_session old s)) (eq-eqb s session same)

  pub other_value : (s : ℕ) → s ≢ session → of_session new s ≡ of_session old s
  other_value s apart = each s ∙ ap (λ b. cond b (Some value) (of_session old s)) (ne_eqb s session apart)
