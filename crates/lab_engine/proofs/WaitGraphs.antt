-- A graph of who waits for whom, as the sets of those that each session waits for.
use Rattle.lab_engine.proofs.Common.{and_from, and_parts, ap, arith, both_ways, cases_eq, cond, eq-eqb, false, has, IfSome, inl, inr, is_session, is_some, IsTrue, List, ne_eqb, None, of_session, Option, refl, Some, sym, true, unwrap_or, waits_for, WaitsForOne, ℕ, ◌&&◌, ◌==◌, ◌↔◌, ◌∙◌, ◌≡◌, ◌≤◌, other_value, own_value}

-- a session is from 1 to 9
pub session_range : (s : ℕ) → is_session s ≡ true → (1 ≤ s) × (s ≤ 9)
session_range s h = (search (arith, h), search (arith, h))

pub is_one : (s : ℕ) → 1 ≤ s → s ≤ 9 → is_session s ≡ true
is_one s low high = search (arith, low, high)

-- who waits is a session
pub waiter_range : (graph : List ℕ) (session other : ℕ) → IsTrue (waits_for graph session other) → (1 ≤ session) × (session ≤ 9)
unfolding waits_for
waiter_range graph session other h = session_range session (and_parts _ _ h).0

-- where nobody waits
pub none_wait : (graph : List ℕ) (none : ℕ) → ((n : ℕ) → has none n ≡ false) → ((session : ℕ) → 1 ≤ session → session ≤ 9 → of_session graph session ≡ Some none)
    → (session other : ℕ) → waits_for graph session other ≡ false
unfolding waits_for
none_wait graph none nobody each session other =
    elim (is_session session) as (λ own. is_session session ≡ own → (own && has (unwrap_or (of_session graph session) 0) other) ≡ false) [
      | false ↦ λ is. refl
      | true ↦ λ is. let range : (1 ≤ session) × (session ≤ 9) = session_range session is in ap (λ o. has (unwrap_or o 0) other) (each session range.0 range.1) ∙ nobody other
    ] refl

-- a session's own set has whom it waits for
pub own_set : (graph : List ℕ) (session set : ℕ) → 1 ≤ session → session ≤ 9 → of_session graph session ≡ Some set → (other : ℕ) → has set other ≡ waits_for graph session other
unfolding waits_for
own_set graph session set low high is other =
    sym (ap (λ o. has (unwrap_or o 0) other) is)
    ∙ sym (ap (λ b. b && has (unwrap_or (of_session graph session) 0) other) (is_one session low high))

-- one session's set put in
pub put_set : (old new : List ℕ) (session set : ℕ) → 1 ≤ session → session ≤ 9 → ((s : ℕ) → of_session new s ≡ cond (s == session) (Some set) (of_session old s))
    → (waiter other : ℕ) → waits_for new waiter other ≡ cond (waiter == session) (has set other) (waits_for old waiter other)
unfolding waits_for
put_set old new session set low high each waiter other = elim (cases_eq waiter session) [
  | inl same ↦
      sym (own_set new waiter set (omega (arith, low, same)) (omega (arith, high, same)) (own_value old new session set each waiter same) other)
      ∙ sym (ap (λ b. cond b (has set other) (waits_for old waiter other)) (eq-eqb waiter session same))
  | inr apart ↦
      ap (λ o. is_session waiter && has (unwrap_or o 0) other) (other_value old new session set each waiter apart)
      ∙ sym (ap (λ b. cond b (has set other) (waits_for old waiter other)) (ne_eqb waiter session apart))
]

-- somebody whom a session waits for is in a set
module _ (graph : List ℕ) (set own common session : ℕ) (on : (other : ℕ) → has own other ≡ waits_for graph session other)
    (both : (n : ℕ) → has common n ≡ (has own n && has set n)) where
  pub waits_for_one : (least : Option ℕ) → IfSome least (λ s. IsTrue (has common s)) → (least ≡ None → (n : ℕ) → has common n ≡ false)
      → IsTrue (is_some least) ↔ WaitsForOne graph set session
  waits_for_one least some none = (to least some, from least none)
    where
      to : (found : Option ℕ) → IfSome found (λ s. IsTrue (has common s)) → IsTrue (is_some found) → WaitsForOne graph set session
      to None some is = absurd (both_ways _ refl is)
      to (Some s) some is = let parts = and_parts (has own s) (has set s) (sym (both s) ∙ some) in (s, sym (on s) ∙ parts.0, parts.1)

      from : (found : Option ℕ) → (found ≡ None → (n : ℕ) → has common n ≡ false) → WaitsForOne graph set session → IsTrue (is_some found)
      from None none (other, waits, there) = absurd (both_ways _ (none refl other) (both other ∙ and_from _ _ (on other ∙ waits) there))
      from (Some s) none w = refl

-- of the sessions up to a number those that wait for one in a set
abbrev pub AreWaitersUpTo : List ℕ → ℕ → ℕ → ℕ → Type 0
AreWaitersUpTo graph set number waiters = (session : ℕ) → IsTrue (has waiters session) ↔ ((session ≤ number) × WaitsForOne graph set session)

-- up to 9 are all
pub all_waiters : (graph : List ℕ) (set number waiters : ℕ) → 9 ≤ number → AreWaitersUpTo graph set number waiters → (session : ℕ)
    → IsTrue (has waiters session) ↔ WaitsForOne graph set session
all_waiters graph set number waiters all h session = ((λ there. ((h session).0 there).1), (λ w. (h session).1 (within w, w)))
  where
    within : WaitsForOne graph set session → session ≤ number
    within (other, waits, there) = let range : (1 ≤ session) × (session ≤ 9) = waiter_range graph session other waits in omega (arith, range.1, all)

-- up to 0 is nobody
pub no_waiters : (graph : List ℕ) (set none : ℕ) → ((n : ℕ) → has none n ≡ false) → AreWaitersUpTo graph set 0 none
no_waiters graph set none nobody session = ((λ there. absurd (both_ways _ (nobody session) there)), from)
  where
    from : (session ≤ 0) × WaitsForOne graph set session → IsTrue (has none session)
    from (less, (other, waits, there)) = let range : (1 ≤ session) × (session ≤ 9) = waiter_range graph session other waits in absurd (omega (arith, range.0, less))
