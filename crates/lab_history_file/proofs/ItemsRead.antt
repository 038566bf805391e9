-- The items of a list, each read with those before it.
use Rattle.std.proofs.{Common.{◌≡◌, ℕ, ◌<◌, ◌+◌, ⊎_elim, List, [], ◌∷◌, ◌++◌, length, drop, get_or, Some, refl, suc, arith, Result, Ok, Err, sym, ap, subst, ◌∙◌, append_assoc, append-nil}, Math.Seq.{drop-length}, lemmas.List.{at_drop_more}}
use Rattle.serde_json.specs.{Data.{Data, Items, no_items, item}, Find.{get_item}, declared.value.Value.{Value}, View.{view, items_view}}
use Rattle.lab_history.{specs.{Faults.{◌>>=◌}, declared.fault.FileFault.{FileFault}}, proofs.Steps.{both_ok, either_err, step_on}}
use Rattle.lab_history_file.specs.{Behind.{AllStand}, Entries.{items_from}, FileOf.{AreEach}}

-- the items from a place on
abbrev pub Tail : Items → ℕ → Items → Type 0
Tail all i ds = (k : ℕ) (m : Data) → get_item k ds ≡ Some m → get_item (i + k) all ≡ Some m

pub tail_all : (all : Items) → Tail all 0 all
tail_all all k m e = let same : 0 + k ≡ k = omega arith in ap (λ n. get_item n all) same ∙ e

pub tail_head : (all : Items) (i : ℕ) (d : Data) (ds : Items) → Tail all i (item d ds) → get_item i all ≡ Some d
tail_head all i d ds tail = let same : i ≡ i + 0 = omega arith in ap (λ n. get_item n all) same ∙ tail 0 d refl

pub tail_rest : (all : Items) (i : ℕ) (d : Data) (ds : Items) → Tail all i (item d ds) → Tail all (i + 1) ds
tail_rest all i d ds tail k m e = let same : i + 1 + k ≡ i + suc k = omega arith in ap (λ n. get_item n all) same ∙ tail (suc k) m e

module _ {X : Type 0} (read : List X → ℕ → Data → Result X FileFault) where
  -- ---- in a loop

  -- what is read from a place on
  abbrev pub read_on : List X → ℕ → List Value → Result (List X) FileFault
  read_on before at values = items_from read before at (items_view (drop at values))

  next : (before : List X) (values : List Value) (at : ℕ) (value : Value) → at < length values → value ≡ get_or values at value
      → read_on before at values ≡ (read before at (view value) >>= λ x. read_on (before ++ x ∷ []) (at + 1) values)
  next before values at value below here =
      at_drop_more (λ vs. items_from read before at (items_view vs)) values at value below ∙ ap (λ v. items_from read before at (items_view (v ∷ drop (at + 1) values))) (sym here)

  -- one item more was read
  pub item_read : (before : List X) (values : List Value) (at : ℕ) (value : Value) (x : X) → at < length values → value ≡ get_or values at value
      → read before at (view value) ≡ Ok x → read_on before at values ≡ read_on (before ++ x ∷ []) (at + 1) values
  item_read before values at value x below here is = next before values at value below here ∙ ap (λ r. r >>= λ y. read_on (before ++ y ∷ []) (at + 1) values) is

  -- an item has a fault
  pub item_fault : (before : List X) (values : List Value) (at : ℕ) (value : Value) (fault : FileFault) → at < length values → value ≡ get_or values at value
      → read before at (view value) ≡ Err fault → read_on before at values ≡ Err fault
  item_fault before values at value fault below here is = next before values at value below here ∙ ap (λ r. r >>= λ y. read_on (before ++ y ∷ []) (at + 1) values) is

  -- at the end all were read
  pub items_end : (before : List X) (values : List Value) → read_on before (length values) values ≡ Ok before
  items_end before values = ap (λ vs. items_from read before (length values) (items_view vs)) (drop-length values)

  -- ---- what they stand for

  module _ (Is : Data → X → Type 0) (May : List X → X → Type 0) where
    -- all that is read stands for what was read, where each item does
    pub items_read : ((before : List X) (i : ℕ) (d : Data) (x : X) → read before i d ≡ Ok x → Is d x × May before x) → (before : List X) (i : ℕ) (ds : Items) (all : List X)
        → items_from read before i ds ≡ Ok all → (xs : List X) × (all ≡ before ++ xs) × AreEach Is ds xs × AllStand May before xs
    items_read reads before i no_items all e = let same : before ≡ all = cc in ([], sym same ∙ sym (append-nil before), tt, tt)
    items_read reads before i (item d ds) all e =
        let first = both_ok (read before i d) _ all e in
        let is = reads before i d first.0 first.1 in
        let rest = items_read reads (before ++ first.0 ∷ []) (i + 1) ds all first.2 in
        (first.0 ∷ rest.0, rest.1 ∙ append_assoc before (first.0 ∷ []) rest.0, (is.0, rest.2), (is.1, rest.3))

    -- and what it stands for is read
    pub items_are_read : ((before : List X) (i : ℕ) (d : Data) (x : X) → Is d x → May before x → read before i d ≡ Ok x) → (before : List X) (i : ℕ) (ds : Items) (xs : List X)
        → AreEach Is ds xs → AllStand May before xs → items_from read before i ds ≡ Ok (before ++ xs)
    items_are_read are before i no_items [] each all = ap (λ ys. Ok ys) (sym (append-nil before))
    items_are_read are before i no_items (x ∷ xs) each all = absurd each
    items_are_read are before i (item d ds) [] each all = absurd each
    items_are_read are before i (item d ds) (x ∷ xs) each all =
        step_on _ (are before i d x each.0 all.0) (items_are_read are (before ++ x ∷ []) (i + 1) ds xs each.1 all.1 ∙ ap (λ (ys : List X). Ok ys) (append_assoc before (x ∷ []) xs))

  -- the item that a fault is of, and what holds there, where it holds at first and from each item that is read to the next
  pub items_err : (Holds : List X → ℕ → Items → Type 0) (all : Items) (f : FileFault)
      → ((before : List X) (i : ℕ) (d : Data) (ds : Items) (x : X) → get_item i all ≡ Some d → read before i d ≡ Ok x → Holds before i (item d ds) → Holds (before ++ x ∷ []) (i + 1) ds)
      → (before : List X) (i : ℕ) (ds : Items) → Tail all i ds → Holds before i ds → items_from read before i ds ≡ Err f
      → (past : List X) × (k : ℕ) × (m : Data) × (rest : Items) × (get_item k all ≡ Some m) × Holds past k (item m rest) × (read past k m ≡ Err f)
  items_err Holds all f keeps before i no_items tail holds e = absurd cc
  items_err Holds all f keeps before i (item d ds) tail holds e =
      ⊎_elim (λ failed. (before, i, d, ds, tail_head all i d ds tail, holds, failed))
      (λ found. items_err Holds all f keeps (before ++ found.0 ∷ []) (i + 1) ds (tail_rest all i d ds tail) (keeps before i d ds found.0 (tail_head all i d ds tail) found.1 holds) found.2)
      (either_err (read before i d) _ f e)

-- ---- items that are read whatever stands before them

all_stand : {X : Type 0} (before xs : List X) → AllStand (λ _ _. Unit {0}) before xs
all_stand before [] = tt
all_stand before (x ∷ xs) = (tt, all_stand (before ++ x ∷ []) xs)

module _ {X : Type 0} (read : List X → ℕ → Data → Result X FileFault) where
  module _ (Is : Data → X → Type 0) where
    pub each_read : ((before : List X) (i : ℕ) (d : Data) (x : X) → read before i d ≡ Ok x → Is d x) → (ds : Items) (xs : List X) → items_from read [] 0 ds ≡ Ok xs → AreEach Is ds xs
    each_read reads ds xs e =
        let found = items_read read Is (λ _ _. Unit {0}) (λ before i d x is. (reads before i d x is, tt)) [] 0 ds xs e in
        subst (AreEach Is ds) (sym found.1) found.2

    pub each_is_read : ((before : List X) (i : ℕ) (d : Data) (x : X) → Is d x → read before i d ≡ Ok x) → (ds : Items) (xs : List X) → AreEach Is ds xs → items_from read [] 0 ds ≡ Ok xs
    each_is_read are ds xs each = items_are_read read Is (λ _ _. Unit {0}) (λ before i d x is _. are before i d x is) [] 0 ds xs each (all_stand [] xs)

  pub each_err : (ds : Items) (f : FileFault) → items_from read [] 0 ds ≡ Err f → (past : List X) × (k : ℕ) × (m : Data) × (get_item k ds ≡ Some m) × (read past k m ≡ Err f)
  each_err ds f e = let found = items_err read (λ _ _ _. Unit {0}) ds f (λ _ _ _ _ _ _ _ _. tt) [] 0 ds (tail_all ds) tt e in (found.0, found.1, found.2, found.4, found.6)

-- one more stands behind those that stand
pub stand_more : {X : Type 0} (May : List X → X → Type 0) (before xs : List X) (x : X) → AllStand May before xs → May (before ++ xs) x → AllStand May before (xs ++ x ∷ [])
stand_more May before [] x all may = (subst (λ ys. May ys x) (append-nil before) may, tt)
stand_more May before (y ∷ ys) x all may = (all.0, stand_more May (before ++ y ∷ []) ys x all.1 (subst (λ zs. May zs x) (sym (append_assoc before (y ∷ []) ys)) may))
