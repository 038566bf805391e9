-- The rows that operations wrote.
use Rattle.std.{proofs.{Common.{◌≡◌, true, List, [], ◌∷◌, refl, sym, ap, subst, inl, inr}, lemmas.List.Elements.{Contains-append_left, Contains-append_right, Contains-append_cases}}, specs.{Prelude.{Contains, is_some}, FinMap.{entries}}}
use Rattle.lab_table.{specs.Row.{Row}, proofs.{Members.{no_member, first_member, later_member, only_member}, Tests.{some_of}}}
use Rattle.lab_history.specs.{Version.{new_state}, VersionName.{new_states}, declared.operation.{Op.{Op}, State.{State}}}
use Rattle.lab_deps.{specs.Meetings.{named_in, written_in}, proofs.Installers.{found_entry}}

-- the rows of written states are those of what they stand for
pub named_states : (es : List (Row × State)) → named_in (new_states es) ≡ named_in es
named_states [] = refl
named_states (e ∷ es) = ap (λ rows. e.0 ∷ rows) (named_states es)

module _ {A : Type 0} where
  -- the row of an entry is named
  named_there : (es : List (Row × A)) (e : Row × A) → Contains es e → Contains (named_in es) e.0
  named_there [] e there = absurd (no_member e there)
  named_there (d ∷ es) e there =
      elim (Contains-append_cases (d ∷ []) es e there) [
        | inl here ↦ subst (λ (x : Row × A). Contains (d.0 ∷ named_in es) x.0) (only_member d e here) (first_member d.0 (named_in es))
        | inr later ↦ later_member d.0 (named_in es) e.0 (named_there es e later)
      ]

written_by : (op : Op) (row : Row) → is_some (new_state op row) ≡ true → Contains (named_in (entries op.writes)) row
written_by op row writes =
    let state = some_of (new_state op row) writes in
    named_there (entries op.writes) (row, state.0) (found_entry op.writes row state.0 state.1)

-- a row that one of some operations wrote is among those that they wrote
pub written_there : (ops : List Op) (op : Op) (row : Row) → Contains ops op → is_some (new_state op row) ≡ true → Contains (written_in ops) row
written_there [] op row there writes = absurd (no_member op there)
written_there (o ∷ ops) op row there writes =
    elim (Contains-append_cases (o ∷ []) ops op there) [
      | inl here ↦
          Contains-append_left (named_in (entries o.writes)) (written_in ops) row
          (subst (λ (x : Op). Contains (named_in (entries x.writes)) row) (sym (only_member o op here)) (written_by op row writes))
      | inr later ↦ Contains-append_right (named_in (entries o.writes)) (written_in ops) row (written_there ops op row later writes)
    ]
