-- A history as contracts see it: its initial table, its transactions, the installers of each row, and its end table.
--
-- Origin: Adya, Liskov and O'Neil, "Generalized Isolation Level Definitions" (2000), section 4, with the versions
-- that each statement saw written down.
use Rattle.lab_history.specs.declared.parts.Parts.{Parts}

-- a history is its parts
abbrev pub History : Type 0
History = Parts
