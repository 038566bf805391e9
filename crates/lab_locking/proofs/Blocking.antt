-- Who blocks a statement by one of three.
use Rattle.std.proofs.Common.{◌≡◌, ◌∙◌, ℕ, sym, Bool, ◌||◌, inl, inr, ◌↔◌, ◌⊎◌, IsTrue}
use Rattle.lab_engine.{proofs.Common.{or_cases, or_left, or_right, Table, Statement, Past, Txn, IsOther, Blocks, HoldsWrite}, specs.{declared.event.Level.TheVariants.{Locking}, Rules.{HoldsMatch, HasRead}}}

-- a session is another one whose transaction holds a match, holds a write, or has read
pub blocks_by_one : (setup : Table) (past : Past) (session other : ℕ) (txn : Txn) (s : Statement) (any matching writing holding : Bool)
    → holding ≡ (matching || writing)
    → IsTrue matching ↔ IsOther past session other (HoldsMatch setup past s)
    → IsTrue writing ↔ IsOther past session other (HoldsWrite Locking setup past txn s)
    → IsTrue any ↔ (IsTrue holding ⊎ IsOther past session other (HasRead Locking setup past txn s))
    → IsTrue any ↔ IsOther past session other (Blocks Locking setup past txn s)
blocks_by_one setup past session other txn s any matching writing holding is matches writes reads = (to, from)
  where
    held : IsTrue holding → IsOther past session other (Blocks Locking setup past txn s)
    held there = elim (or_cases matching writing (sym is ∙ there)) [
      | inl match ↦ let o = matches.0 match in (o.0, o.1, o.2, inl o.3)
      | inr write ↦ let o = writes.0 write in (o.0, o.1, o.2, inr (inl o.3))
    ]

    to : IsTrue any → IsOther past session other (Blocks Locking setup past txn s)
    to there = elim (reads.0 there) [
      | inl one ↦ held one
      | inr o ↦ (o.0, o.1, o.2, inr (inr o.3))
    ]

    from : IsOther past session other (Blocks Locking setup past txn s) → IsTrue any
    from (holder, ne, active_is, inl match) = reads.1 (inl (is ∙ or_left matching writing (matches.1 (holder, ne, active_is, match))))
    from (holder, ne, active_is, inr (inl write)) = reads.1 (inl (is ∙ or_right matching writing (writes.1 (holder, ne, active_is, write))))
    from (holder, ne, active_is, inr (inr read)) = reads.1 (inr (holder, ne, active_is, read))
