-- Nicknames as they are said one after another.
use Rattle.std.{proofs.Common.{◌≡◌, ℕ, Bool, List, [], ◌∷◌, ◌++◌, filter, flat_map, refl, sym, ap, ◌∙◌, append_assoc}, specs.Prelude.{codes}}
use Rattle.lab_drawing.specs.{Nicknames.{nickname_name, next_name, in_parentheses}, declared.nicknames.Nickname.{Nickname}}

-- the nicknames that are left to be said, the first behind one text and each other behind a comma, and what stands at their end
abbrev pub names_behind : List ℕ → List ℕ → List Nickname → List ℕ
names_behind lead end [] = end
names_behind lead end (n ∷ ns) = lead ++ nickname_name n ++ names_behind (codes ", ") (codes ")") ns

-- those behind a first one
next_behind : (ns : List Nickname) → names_behind (codes ", ") (codes ")") ns ≡ flat_map next_name ns ++ codes ")"
next_behind [] = refl
next_behind (n ∷ ns) =
    ap (λ text. codes ", " ++ nickname_name n ++ text) (next_behind ns) ∙ sym (append_assoc (next_name n) (flat_map next_name ns) (codes ")"))

-- all of them
all_behind : (ns : List Nickname) → names_behind (codes " (") [] ns ≡ in_parentheses ns
all_behind [] = refl
all_behind (n ∷ ns) =
    ap (λ text. codes " (" ++ nickname_name n ++ text) (next_behind ns) ∙ sym (append_assoc (codes " (" ++ nickname_name n) (flat_map next_name ns) (codes ")"))

-- once none is left to be said, what stands at the end ends the text
pub all_said : (text lead end start : List ℕ) (test : Nickname → Bool) (among rest : List Nickname) → rest ≡ []
    → text ++ names_behind lead end (filter test rest) ≡ start ++ names_behind (codes " (") [] (filter test among) → text ++ end ≡ start ++ in_parentheses (filter test among)
all_said text lead end start test among rest none said =
    ap (λ ns. text ++ names_behind lead end (filter test ns)) (sym none) ∙ said ∙ ap (λ names. start ++ names) (all_behind (filter test among))
