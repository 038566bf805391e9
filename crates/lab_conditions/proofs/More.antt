-- Conditions with one more alternative.
use Rattle.std.proofs.Common.{◌≡◌, ℕ, ℤ, pos, Bool, ◌||◌, sym, ap, ◌∙◌}
use Rattle.lab_table.specs.{Predicate.{column}, declared.predicate.Col.{Col, TheVariants.{Id, Value}}}
use Rattle.lab_conditions.specs.{Column.{Tests, passes}, Conditions.{Conditions, any_holds}, Filed.{any_filed}}
use Rattle.lab_conditions.proofs.Ors.{or_second, or_third}

module _ (c : Conditions) (new : Tests) (test : ℤ → Bool) (col : Col) (id : ℕ) (value : ℤ) where
  -- a test of the id
  pub with_id_test : col ≡ Id → ((n : ℤ) → passes new n ≡ (passes c.ids n || test n))
      → any_holds (record { whole = c.whole; ids = new; values = c.values; others = c.others }) id value ≡ (any_holds c id value || test (column col id value))
  with_id_test is more =
      let rest = passes c.values value || any_filed c.others id value in
      ap (λ b. c.whole || (b || rest)) (more (pos id)) ∙ or_second c.whole (passes c.ids (pos id)) (test (pos id)) rest ∙ ap (λ k. any_holds c id value || test (column k id value)) (sym is)

  -- a test of the value
  pub with_value_test : col ≡ Value → ((n : ℤ) → passes new n ≡ (passes c.values n || test n))
      → any_holds (record { whole = c.whole; ids = c.ids; values = new; others = c.others }) id value ≡ (any_holds c id value || test (column col id value))
  with_value_test is more =
      let rest = any_filed c.others id value in
      ap (λ b. c.whole || (passes c.ids (pos id) || (b || rest))) (more value) ∙ or_third c.whole (passes c.ids (pos id)) (passes c.values value) (test value) rest
      ∙ ap (λ k. any_holds c id value || test (column k id value)) (sym is)
