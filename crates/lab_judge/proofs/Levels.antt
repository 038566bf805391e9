-- Which level a history meets, by the phenomena that it has.
use Rattle.std.proofs.{Common.{◌≡◌, true}, lemmas.Bool.{false≢true}}
use Rattle.lab_table.specs.Row.{Row}
use Rattle.lab_history.specs.History.{History}
use Rattle.lab_deps.specs.{Refusal.{is_uncommitted_read, OnlyUncommittedReads}, Soundness.{Stands, IsSound}, declared.fault.LocalFault.{LocalFault, TheVariants.{AbortedRead, IntermediateRead, InstallOrder}}}
use Rattle.lab_judge.specs.Phenomena.{NoG1a, NoG1b, MeetsPl2}

-- in a sound history nobody reads what was never committed
pub none_aborted : (h : History) → IsSound h → NoG1a h
none_aborted h sound n k row stands = sound (AbortedRead n k row) stands

pub none_intermediate : (h : History) → IsSound h → NoG1b h
none_intermediate h sound n k row stands = sound (IntermediateRead n k row) stands

-- a read of what was never committed keeps a history from the second level
pub read_below : (h : History) (f : LocalFault) → Stands h f → is_uncommitted_read f ≡ true → MeetsPl2 h → ⊥
read_below h (AbortedRead n k row) stands t meets = meets.0 n k row stands
read_below h (IntermediateRead n k row) stands t meets = meets.1 n k row stands
read_below h other stands t meets = false≢true t

-- where only such reads stand, rows are installed by their committed writers
pub installed_by_writers : (h : History) → OnlyUncommittedReads h → (row : Row) → Stands h (InstallOrder row) → ⊥
installed_by_writers h only row stands = false≢true (only (InstallOrder row) stands)
