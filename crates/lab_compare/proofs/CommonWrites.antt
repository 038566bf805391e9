-- Writes that lists have in common from the front.
use Rattle.std.{proofs.{Common.{◌≡◌, ℕ, zero, suc, ◌+◌, ◌<◌, ◌≤◌, true, List, [], ◌∷◌, Option, Some, None, length, sym, ap, subst, ◌∙◌, take, arith}, lemmas.{List.{get_or_default, take-take, take_more_same}, List.Elements.{AllWithin-more}}}, specs.{Prelude.{⊤, min, slice_get, slice_index_or, unwrap_or}, FinMap.{entries, same_entries_map}, List.{AllWithin}}}
use Rattle.lab_table.specs.Table.{Table}
use Rattle.lab_compare.{specs.{Alike.{same_entries}, Shared.{BeginSame}, declared.side.Side.{Side}}, proofs.SameTold.{entries_Decides}}

abbrev IsNothing : {X : Type 0} → Option X → Type 0
IsNothing None = ⊤
IsNothing (Some x) = ⊥

-- what is found at a place stands there
found : {X : Type 0} (xs : List X) (i : ℕ) (x : X) → slice_get xs i ≡ Some x → (i < length xs) × (slice_index_or xs i x ≡ x)
found [] i x is = absurd (subst IsNothing is tt)
found (y ∷ xs) zero x is = (omega arith, ap (λ o. unwrap_or o x) is)
found (y ∷ xs) (suc i) x is = let rest = found xs i x is in (omega (arith, rest.0), rest.1)

-- one more that is the same
pub one_more : {X : Type 0} (xs ys : List X) (i : ℕ) (x : X) → i < length xs → x ≡ slice_index_or xs i x → slice_get ys i ≡ Some x → take i xs ≡ take i ys → take (i + 1) xs ≡ take (i + 1) ys
one_more xs ys i x less is there front =
    let at = found ys i x there in
    take_more_same xs ys i x less at.0 front (sym is ∙ sym at.1)

-- tables of the same rows are one
pub one_table : (one other : Table) → same_entries (entries one) (entries other) ≡ true → one ≡ other
one_table one other test = same_entries_map one other ((entries_Decides (entries one) (entries other)).0 test)

-- as many or fewer are in common
fewer : (less more : ℕ) (one other : Side) → less ≤ more → BeginSame more one other → BeginSame less one other
fewer less more one other within same =
    (same.0, sym (take-take less more one.commits.installs within) ∙ ap (take less) same.1 ∙ take-take less more other.commits.installs within)

-- the first has so many in common with one more
pub next_common : (first : Side) (others : List Side) (i count more both : ℕ) (other : Side) → i < length others → other ≡ slice_index_or others i other → both ≡ min count more
    → AllWithin (BeginSame count first) others 0 i → BeginSame more first other → AllWithin (BeginSame both first) others 0 (i + 1)
next_common first others i count more both other less is least before here =
    AllWithin-more (BeginSame both first) others 0 i
    (λ k d low within. fewer both count first (slice_index_or others k d) (omega (arith, least)) (before k d low within))
    (λ d. subst (BeginSame both first) (is ∙ get_or_default others i other d less) (fewer both more first other (omega (arith, least)) here))
