-- The transaction that is out of place among a row's installers: one that wrote the row and is missing, or else the
-- first that doesn't belong where it is.
use Rattle.std.specs.Prelude.{ℕ, ◌+◌, Bool, ◌&&◌, cond, Option, Some, None, List, [], ◌∷◌, ◌++◌, codes}
use Rattle.std.specs.Option.{option_or}
use Rattle.std.specs.Fmt.{decimal}
use Rattle.lab_table.specs.Row.{Row}
use Rattle.lab_history.specs.History.{History}
use Rattle.lab_history.specs.Version.{installers, place_in, is_at, is_missing}
use Rattle.lab_history.specs.declared.transaction.Txn.{Txn}
use Rattle.lab_deps.specs.Soundness.{is_writer}
use Rattle.lab_drawing.specs.declared.installs.Misplaced.{Misplaced}
use Rattle.lab_drawing.specs.declared.installs.Why.{Why}
use Rattle.lab_drawing.specs.declared.installs.Why.TheVariants.{Missing, Unwritten, Repeated}

-- whether a transaction committed a write of a row, and isn't among its installers
abbrev pub is_left_out : History → Row → ℕ → Bool
is_left_out h row n = is_writer h row n && is_missing h n row

-- the first of some transactions that is left out
abbrev pub first_left_out : History → Row → List Txn → Option Misplaced
first_left_out h row [] = None
first_left_out h row (t ∷ ts) = cond (is_left_out h row t.no) (Some (record { txn = t.no; why = Missing })) (first_left_out h row ts)

-- an installer that committed no write of the row; one that did, where it doesn't stand at its place for the first time
abbrev pub misplaced_at : ℕ → Bool → Bool → Option Misplaced
misplaced_at n writes first = cond writes (cond first None (Some (record { txn = n; why = Repeated }))) (Some (record { txn = n; why = Unwritten }))

-- what is wrong with an installer at a place, counted from 1
abbrev pub wrong_at : History → Row → ℕ → ℕ → Option Misplaced
wrong_at h row p n = misplaced_at n (is_writer h row n) (is_at (place_in (installers h row) n) p)

-- what is wrong with the first of some installers with which something is, whose places are counted on
abbrev pub first_wrong : History → Row → ℕ → List ℕ → Option Misplaced
first_wrong h row before [] = None
first_wrong h row before (n ∷ ns) = option_or (wrong_at h row (before + 1) n) (first_wrong h row (before + 1) ns)

-- who is out of place: the first transaction of the file that is left out, or else the first of the row's installers with which something is wrong
abbrev pub misplaced_of : History → Row → Option Misplaced
misplaced_of h row = option_or (first_left_out h row h.txns) (first_wrong h row 0 (installers h row))

-- how a transaction is out of place
abbrev pub why_text : Why → List ℕ
why_text Missing = codes "writer that isn't among the installers"
why_text Unwritten = codes "installer that committed no write"
why_text Repeated = codes "installer at more than one place"

-- which transaction is out of place, and how
abbrev pub misplaced_text : Misplaced → List ℕ
misplaced_text found = why_text found.why ++ codes ": T" ++ decimal found.txn
