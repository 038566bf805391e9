use Rattle.std.proofs.{Common.{sym, ◌∙◌}, lemmas.Bool.{false≢true, not-true}}
use Rattle.lab_deps.proofs.values.Values.suit.Goals as goal

pub returns-then-self : goal.returns-then-self
returns-then-self c _ row inexact = absurd (false≢true (sym inexact ∙ c.if-self.true))

pub returns : goal.returns
returns c is row _ x y = c.tests_values.ensures (not-true c.tests_values.result is) row x y
