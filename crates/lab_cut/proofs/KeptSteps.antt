-- One more operation, of which a mask says whether it is kept.
use Rattle.std.{proofs.Common.{◌≡◌, ℕ, ◌+◌, ◌<◌, ◌≤◌, Bool, true, false, cond, List, [], ◌∷◌, ◌++◌, length, drop, get_or, refl, sym, ap, ◌∙◌, subst, append_assoc, arith}, specs.FinMap.{FinMap, entries}}
use Rattle.lab_table.specs.Row.{row_cmp}
use Rattle.lab_history.specs.declared.operation.Op.{Op}
use Rattle.lab_cut.{specs.{PartOf.{numbered}, Left.{next_kept, left_of}, Kept.{new_numbers, with_writes, last_writes}}, proofs.OneMore.{from_member}}

-- its new number
pub one_number : {A : Type 0} (mask next : List Bool) (kept : Bool) (xs : List A) (i : ℕ) (x : A) (last count : ℕ) (numbers new whole : List ℕ)
    → i < length xs → x ≡ get_or xs i x → kept ≡ next_kept mask → next ≡ drop 1 mask → count ≡ cond kept (last + 1) last → new ≡ numbers ++ cond kept (last + 1) 0 ∷ []
    → numbers ++ new_numbers last mask (drop i xs) ≡ whole → new ++ new_numbers count next (drop (i + 1) xs) ≡ whole
one_number mask next kept xs i x last count numbers new whole lt is same moved counted pushed so =
    let rest = drop (i + 1) xs in
    let one = cond kept (last + 1) 0 ∷ [] in
    ap (λ l. l ++ new_numbers count next rest) pushed
    ∙ ap (λ n. (numbers ++ one) ++ new_numbers n next rest) counted
    ∙ ap (λ m. (numbers ++ one) ++ new_numbers (cond kept (last + 1) last) m rest) moved
    ∙ append_assoc numbers one (new_numbers (cond kept (last + 1) last) (drop 1 mask) rest)
    ∙ ap (λ b. numbers ++ cond b (last + 1) 0 ∷ new_numbers (cond b (last + 1) last) (drop 1 mask) rest) same
    ∙ ap (λ l. numbers ++ l) (elim (next_kept mask) as (λ b. cond b (last + 1) 0 ∷ new_numbers (cond b (last + 1) last) (drop 1 mask) rest ≡ cond b ((last + 1) ∷ new_numbers (last + 1) (drop 1 mask) rest) (0 ∷ new_numbers last (drop 1 mask) rest)) [ true ↦ refl | false ↦ refl ])
    ∙ ap (λ l. numbers ++ new_numbers last mask l) (sym (from_member xs i x lt is))
    ∙ so

-- what it writes
pub one_write : (mask next : List Bool) (kept : Bool) (ops : List Op) (i : ℕ) (op : Op) (old new whole : FinMap row_cmp ℕ)
    → i < length ops → op ≡ get_or ops i op → kept ≡ next_kept mask → next ≡ drop 1 mask → new ≡ cond kept (with_writes old (i + 1) (entries op.writes)) old
    → last_writes old (left_of mask (numbered (i + 1) (drop i ops))) ≡ whole → last_writes new (left_of next (numbered (i + 1 + 1) (drop (i + 1) ops))) ≡ whole
one_write mask next kept ops i op old new whole lt is same moved put so =
    let rest = numbered (i + 1 + 1) (drop (i + 1) ops) in
    let written = with_writes old (i + 1) (entries op.writes) in
    ap (λ m. last_writes m (left_of next rest)) put
    ∙ ap (λ m. last_writes (cond kept written old) (left_of m rest)) moved
    ∙ ap (λ b. last_writes (cond b written old) (left_of (drop 1 mask) rest)) same
    ∙ (elim (next_kept mask) as (λ b. last_writes (cond b written old) (left_of (drop 1 mask) rest) ≡ last_writes old (cond b ((i + 1, op) ∷ left_of (drop 1 mask) rest) (left_of (drop 1 mask) rest))) [ true ↦ refl | false ↦ refl ])
    ∙ ap (λ l. last_writes old (left_of mask (numbered (i + 1) l))) (sym (from_member ops i op lt is))
    ∙ so

-- how many are kept
pub one_counted : (kept : Bool) (last count i : ℕ) → count ≡ cond kept (last + 1) last → last ≤ i → count ≤ i + 1
one_counted kept last count i counted few =
    subst (λ n. n ≤ i + 1) (sym counted) (elim kept as (λ b. cond b (last + 1) last ≤ i + 1) [ true ↦ omega (arith, few) | false ↦ omega (arith, few) ])
