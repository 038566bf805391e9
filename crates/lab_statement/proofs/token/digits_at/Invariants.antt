use Rattle.lab_statement.proofs.Common.{◌≡◌, ◌≤◌, drop, whole, tokens_from}
use Rattle.lab_statement.specs.declared.token.Token.TheVariants as token
use Rattle.lab_statement.proofs.token.digits_at.Given as goal

abbrev pub invariant-loop-i : goal.invariant-loop-i
invariant-loop-i l = (l.number ≤ 1000000001) × (tokens_from (whole (token.Digits l.number)) (drop l.i l.bytes) ≡ tokens_from (whole (token.Digits l.fn.number)) l.fn.bytes)
