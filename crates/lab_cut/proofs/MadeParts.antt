-- What holds of the history that is made of parts.
use Rattle.std.{proofs.{Common.{◌≡◌, Result, Option, sym, subst}, lemmas.{Option.{IfSome_then}, Result.{IfOk-weaker}}}, specs.Prelude.{IfOk, IfSome}}
use Rattle.lab_history.specs.History.{History}

-- what holds of the parts holds of the history
pub so_made : {E : Type 0} (made : Result (Option History) E) (parts : History) (P : History → Type 0) → IfOk made (λ some. IfSome some (λ h. h ≡ parts)) → P parts → IfOk made (λ some. IfSome some P)
so_made made parts P is holds = IfOk-weaker made (λ some. IfSome some (λ h. h ≡ parts)) (λ some. IfSome some P) (λ some e. IfSome_then some e (λ h same. subst P (sym same) holds)) is
