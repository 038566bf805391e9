use Rattle.lab_statement.proofs.Common.{◌≡◌, drop, ◌&&◌, list_all, is_code_byte}
use Rattle.lab_statement.proofs.line.is_ascii_code.Given as goal

abbrev pub invariant-loop-byte : goal.invariant-loop-byte
invariant-loop-byte l = (l.all && list_all is_code_byte (drop l.byte-index l.code)) ≡ list_all is_code_byte l.code
