-- One more member of a list, in a loop that makes another list.
use Rattle.std.proofs.{Common.{◌≡◌, ℕ, ◌+◌, ◌<◌, Bool, true, false, cond, Option, Some, None, List, [], ◌∷◌, ◌++◌, map, length, drop, get_or, refl, sym, ap, ◌∙◌, append_assoc}, lemmas.List.{drop_more}}
use Rattle.lab_cut.specs.{Left.{next_kept, left_of}, MadeEntries.{with_value, made_entries}}

-- what is to come, from a member on
pub from_member : {A : Type 0} (xs : List A) (i : ℕ) (x : A) → i < length xs → x ≡ get_or xs i x → drop i xs ≡ x ∷ drop (i + 1) xs
from_member xs i x lt is = drop_more xs i x lt ∙ ap (λ y. y ∷ drop (i + 1) xs) (sym is)

-- a member that is kept or not, and what comes behind it
pub kept_before : {A B : Type 0} (f : A → B) (kept : Bool) (ys : List B) (x : A) (rest : List A)
    → (ys ++ cond kept (f x ∷ []) []) ++ map f rest ≡ ys ++ map f (cond kept (x ∷ rest) rest)
kept_before f kept ys x rest =
    append_assoc ys (cond kept (f x ∷ []) []) (map f rest)
    ∙ ap (λ l. ys ++ l) (elim kept as (λ b. cond b (f x ∷ []) [] ++ map f rest ≡ map f (cond b (x ∷ rest) rest)) [ true ↦ refl | false ↦ refl ])

pub left_before : {A : Type 0} (kept : Bool) (ys : List A) (x : A) (rest : List A) → (ys ++ cond kept (x ∷ []) []) ++ rest ≡ ys ++ cond kept (x ∷ rest) rest
left_before kept ys x rest =
    append_assoc ys (cond kept (x ∷ []) []) rest
    ∙ ap (λ l. ys ++ l) (elim kept as (λ b. cond b (x ∷ []) [] ++ rest ≡ cond b (x ∷ rest) rest) [ true ↦ refl | false ↦ refl ])

-- the members that a mask leaves
pub one_left : {A : Type 0} (mask next : List Bool) (kept : Bool) (xs : List A) (i : ℕ) (x : A) (left new whole : List A)
    → i < length xs → x ≡ get_or xs i x → kept ≡ next_kept mask → next ≡ drop 1 mask → new ≡ left ++ cond kept (x ∷ []) []
    → left ++ left_of mask (drop i xs) ≡ whole → new ++ left_of next (drop (i + 1) xs) ≡ whole
one_left mask next kept xs i x left new whole lt is same moved pushed so =
    let rest = drop (i + 1) xs in
    ap (λ l. l ++ left_of next rest) (pushed ∙ ap (λ b. left ++ cond b (x ∷ []) []) same)
    ∙ ap (λ m. (left ++ cond (next_kept mask) (x ∷ []) []) ++ left_of m rest) moved
    ∙ left_before (next_kept mask) left x (left_of (drop 1 mask) rest)
    ∙ ap (λ l. left ++ left_of mask l) (sym (from_member xs i x lt is))
    ∙ so

-- what is made of the members that a mask leaves
pub one_left_made : {A B : Type 0} (f : A → B) (mask next : List Bool) (kept : Bool) (xs : List A) (i : ℕ) (x : A) (left new whole : List B)
    → i < length xs → x ≡ get_or xs i x → kept ≡ next_kept mask → next ≡ drop 1 mask → new ≡ left ++ cond kept (f x ∷ []) []
    → left ++ map f (left_of mask (drop i xs)) ≡ whole → new ++ map f (left_of next (drop (i + 1) xs)) ≡ whole
one_left_made f mask next kept xs i x left new whole lt is same moved pushed so =
    let rest = drop (i + 1) xs in
    ap (λ l. l ++ map f (left_of next rest)) (pushed ∙ ap (λ b. left ++ cond b (f x ∷ []) []) same)
    ∙ ap (λ m. (left ++ cond (next_kept mask) (f x ∷ []) []) ++ map f (left_of m rest)) moved
    ∙ kept_before f (next_kept mask) left x (left_of (drop 1 mask) rest)
    ∙ ap (λ l. left ++ map f (left_of mask l)) (sym (from_member xs i x lt is))
    ∙ so

-- the entries that are made of a list's
pub one_made : {K U V : Type 0} (make : K → U → Option V) (es : List (K × U)) (i : ℕ) (e : K × U) (left new whole : List (K × V))
    → i < length es → e ≡ get_or es i e → new ≡ left ++ with_value e.0 (make e.0 e.1) []
    → left ++ made_entries make (drop i es) ≡ whole → new ++ made_entries make (drop (i + 1) es) ≡ whole
one_made make es i e left new whole lt is pushed so =
    let rest = made_entries make (drop (i + 1) es) in
    ap (λ l. l ++ rest) pushed
    ∙ append_assoc left (with_value e.0 (make e.0 e.1) []) rest
    ∙ ap (λ l. left ++ l) (elim (make e.0 e.1) as (λ o. with_value e.0 o [] ++ rest ≡ with_value e.0 o rest) [ None ↦ refl | Some v ↦ refl ])
    ∙ ap (λ l. left ++ made_entries make l) (sym (from_member es i e lt is))
    ∙ so
