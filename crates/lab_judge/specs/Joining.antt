-- The arrows added to a graph for dependencies.
use Rattle.std.specs.Prelude.{◌≡◌, ◌⊎◌, ℕ, ◌+◌, ◌*◌, Bool}
use Rattle.lab_order.specs.Arrows.{Arrows, nodes_of, IsArrow}
use Rattle.lab_deps.specs.KindsBetween.{KindsBetween}
use Rattle.lab_deps.specs.declared.edge.Kind.{Kind}
use Rattle.lab_judge.specs.Graphs.{Tie}
use Rattle.lab_judge.specs.declared.joining.Joining.{Joining}
use Rattle.lab_judge.specs.declared.joining.Joining.TheVariants.{Transactions, StartToCommit, CommitToStart}

-- the p-th transaction from 0 starts at the node 2p and commits at the node 2p + 1
abbrev pub start_node : ℕ → ℕ
start_node p = 2 * p

abbrev pub commit_node : ℕ → ℕ
commit_node p = 2 * p + 1

-- the node from which the arrow leads, where the first transaction is at this place
abbrev pub tail : Joining → ℕ → ℕ
tail Transactions p = p
tail StartToCommit p = start_node p
tail CommitToStart p = commit_node p

-- the node to which it leads, where the second one is at this place
abbrev pub head : Joining → ℕ → ℕ
head Transactions p = p
head StartToCommit p = commit_node p
head CommitToStart p = start_node p

-- how many nodes there are for so many transactions
abbrev pub nodes_for : Joining → ℕ → ℕ
nodes_for Transactions count = count
nodes_for StartToCommit count = 2 * count
nodes_for CommitToStart count = 2 * count

-- the arrow of a dependency of such a kind leads from one node to another
pub record Lands (test : Kind → Bool) (joining : Joining) (net : KindsBetween) (a b : ℕ) : Type 0 where
  pub from : ℕ
  pub to : ℕ
  pub tie : Tie test net from to
  pub tail_is : tail joining from ≡ a
  pub head_is : head joining to ≡ b

-- a graph grew by such arrows alone, and by those of all such dependencies between two transactions that are looked at
pub record Grows (test : Kind → Bool) (joining : Joining) (net : KindsBetween) (Looked : ℕ → ℕ → Type 0) (old new : Arrows) : Type 0 where
  pub size : nodes_of new ≡ nodes_of old
  pub kept : (a b : ℕ) → IsArrow old a b → IsArrow new a b
  pub real : (a b : ℕ) → IsArrow new a b → IsArrow old a b ⊎ Lands test joining net a b
  pub all : (p q : ℕ) → Looked p q → Tie test net p q → IsArrow new (tail joining p) (head joining q)
