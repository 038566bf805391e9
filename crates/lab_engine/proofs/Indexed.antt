-- A test of a list by its front and its rest.
use Rattle.lab_engine.proofs.Common.{ap, Bool, drop, false, List, list_any, list_any-append, sym, take, take-append-drop, ℕ, ◌||◌, ◌∙◌, ◌≡◌}

-- where the front has none that passes, the rest has one exactly where the list has
pub rest_any : {A : Type 0} (p : A → Bool) (n : ℕ) (xs : List A) → list_any p (take n xs) ≡ false → list_any p (drop n xs) ≡ list_any p xs
rest_any p n xs off = sym (ap (λ b. b || list_any p (drop n xs)) off) ∙ sym (list_any-append p (take n xs) (drop n xs)) ∙ ap (list_any p) (take-append-drop n xs)
