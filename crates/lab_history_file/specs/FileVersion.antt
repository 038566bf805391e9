-- How the versions of a history file differ, except for the keys of members.
use Rattle.std.specs.Prelude.{ℕ, Bool, true}
use Rattle.lab_table.specs.TableName.{table_name_eq, test_name}
use Rattle.lab_table.specs.declared.statement.Statement.{Statement}
use Rattle.lab_history_file.specs.declared.file_version.FileVersion.{FileVersion}
use Rattle.lab_history_file.specs.declared.file_version.FileVersion.TheVariants.{One, Two}

-- the number of a version
abbrev pub version_number : FileVersion → ℕ
version_number One = 1
version_number Two = 2

-- whether a file of a version may have a statement
abbrev pub may_have : FileVersion → Statement → Bool
may_have One s = table_name_eq s.table test_name
may_have Two s = true
