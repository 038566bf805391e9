-- The pending versions of a row, one for each session.
use Rattle.std.proofs.lemmas.{Option.{unwrap_or-slice_get}, List.Sums.{count_by-le-length, sum_by-set}}
use Rattle.lab_engine.{proofs.Common.{ap, arith, cond, count, get_or, is_some, IsRoomy, length, length-set, List, None, of_session, Option, set, Some, suc, unwrap_or, zero, ℕ, ◌+◌, ◌-◌, ◌<◌, ◌∙◌, ◌≡◌, ◌≤◌}, specs.declared.version.Version.{Version}}

-- ---- how many there are

-- one for a version, none for none
abbrev one : Option Version → ℕ
one v = cond (is_some v) 1 0

module _ (installed places : ℕ) (vs : List (Option Version)) (roomy : IsRoomy installed vs places) (k : ℕ) where
  -- where there is room for nine more
  pub roomy_held : (v : Option Version) (new : List (Option Version)) → new ≡ set vs k v → installed + 9 ≤ places → IsRoomy installed new places
  roomy_held v new is ready =
      let nine : length new ≡ 9 = ap length is ∙ length-set vs k v ∙ roomy.nine in
      record { nine = nine; room = omega (arith, count_by-le-length is_some new, nine, ready) }

  module _ (lt : k < 9) where
    -- with another one in a place
    moved : (v d : Option Version) → count (set vs k v) + one (get_or vs k d) ≡ count vs + one v
    moved v d = sum_by-set one vs k v d (omega (arith, roomy.nine, lt))

    -- where one goes
    pub roomy_less : (new : List (Option Version)) → new ≡ set vs k None → IsRoomy installed new places
    roomy_less new is = record {
      nine = ap length is ∙ length-set vs k None ∙ roomy.nine;
      room = omega (arith, ap count is, moved None None, roomy.room);
    }

    -- where one is there, there is a place for it
    pub place_left : (d : Option Version) (v : Version) → get_or vs k d ≡ Some v → installed < places
    place_left d v is = omega (arith, moved None d, ap one is, roomy.room)

    -- and it may go into that
    pub roomy_moved : (d : Option Version) (v : Version) (new : List (Option Version)) (now more : ℕ) → get_or vs k d ≡ Some v → new ≡ set vs k None → now ≡ installed + 1 → places ≤ more
        → IsRoomy now new more
    roomy_moved d v new now more there is longer grows = record {
      nine = ap length is ∙ length-set vs k None ∙ roomy.nine;
      room = omega (arith, ap count is, moved None d, ap one there, roomy.room, longer, grows);
    }

-- ---- those of sessions

-- what a session has stands in its place
pub own_place : (vs : List (Option Version)) (session : ℕ) → 1 ≤ session → (d : Option Version) → unwrap_or (of_session vs session) d ≡ get_or vs (session - 1) d
own_place vs zero low d = absurd (omega (arith, low))
own_place vs (suc n) low d = unwrap_or-slice_get vs n d ∙ ap (λ k. get_or vs k d) (omega arith)
