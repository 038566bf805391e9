-- Cells that are marked by the versions at which a row turns tell of what a reader has to do with them.
use Rattle.std.{proofs.{Common.{◌≡◌, ◌≢◌, ◌≤◌, ◌<◌, ◌+◌, ◌*◌, ℕ, zero, suc, Bool, true, false, cond, List, [], ◌∷◌, ◌++◌, get_or, set, map, take, refl, sym, ap, ◌∙◌, subst, append_assoc, arith, inl, inr}, lemmas.{Bool.{lt-ltb, le-ltb}, List.{append-nil, take_all, drop_all}, Nat.{same_from_place}}}, specs.Prelude.{Contains, bit_or}}
use Rattle.lab_table.{specs.{Statement.{matches}, Table.{State}, declared.statement.Statement.{Statement}}, proofs.Members.{first_member, later_member}}
use Rattle.lab_deps.specs.{Collected.{apart, read_by, passed_by}, Edges.{differ}, EdgesByRow.{Chain, edges_by, walk, unlisted, walked}, KindBits.{bit, place, cell_at, Tells}, Marks.{or_at, marked, turns_marked}, Numbering.{FitsVersions}, Turns.{states, asked, turned, AreInstallers, TurnsFor}}
use Rattle.lab_deps.specs.declared.{edge.{Edge.{Edge}, Kind.{Kind, TheVariants.{PredicateRead, PredicateAnti}}}, reading.Reading.{Reading}, turns.Turns.{Turns}, versions.Version.{Version}}
use Rattle.lab_deps.proofs.{NumberedStates.{no_difference, differ_alike}, ToldKinds.{told_apart, told_off}}

-- a cell is marked by a version, of which it stands for the edge if the row turns there, else for nothing
module _ (ps : List ℕ) (w : ℕ) (made : List ℕ) (edge : ℕ → Edge) (kind : Kind) (of_kind : (n : ℕ) → (edge n).kind ≡ kind) (first step : ℕ)
    (at : (n p : ℕ) → place ps n ≡ p → cell_at ps w (edge n).from (edge n).to ≡ first + p * step)
    (off : ((n : ℕ) → place ps n < w) → (from to : ℕ) → place ps from ≢ 0 → place ps to ≢ 0 → cell_at ps w from to ≢ first + 0 * step) where
  told_one : (turns : Bool) (v : Version) → place ps v.installer ≡ v.place → (cs : List ℕ) (es : List Edge) → Tells ps w cs made es
      → Tells ps w (or_at cs (first + cond turns v.place 0 * step) (bit kind)) made (es ++ cond turns (apart (edge v.installer)) [])
  told_one true v fit cs es t =
      let e = edge v.installer in
      let k = cell_at ps w e.from e.to in
      let cells : or_at cs k (bit e.kind) ≡ or_at cs (first + v.place * step) (bit kind) =
      ap (λ i. or_at cs i (bit e.kind)) (at v.installer v.place fit) ∙ ap (λ i. or_at cs (first + v.place * step) (bit i)) (of_kind v.installer) in
      subst (λ xs. Tells ps w xs made (es ++ apart e)) cells (told_apart ps w cs made es t e)
  told_one false v fit cs es t =
      let k = first + 0 * step in
      let b = bit_or (get_or cs k 0) (bit kind) in
      subst (Tells ps w (set cs k b) made) (sym (append-nil es)) (told_off ps w cs made es t k b (λ from to _ a c. off t.below from to a c))

module _ (ps : List ℕ) (w : ℕ) (made : List ℕ) (s : Statement) (r : Reading) where
  abbrev reader : ℕ
  reader = place ps r.txn

  abbrev f : State → Bool
  f x = matches s r.row x

  passed_one : (turns : Bool) (v : Version) → place ps v.installer ≡ v.place → (cs : List ℕ) (es : List Edge) → Tells ps w cs made es
      → Tells ps w (or_at cs (reader * w + cond turns v.place 0 * 1) 16) made (es ++ cond turns (apart (passed_by PredicateAnti r v.installer)) [])
  passed_one =
      told_one ps w made (passed_by PredicateAnti r) PredicateAnti (λ n. refl) (reader * w) 1 (λ n p fit. let once : p ≡ p * 1 = omega arith in ap (λ q. reader * w + q) (fit ∙ once))
      (λ below from to a b same.
      let none : reader * w + 0 * 1 ≡ reader * w + 0 = omega arith in
      let places = same_from_place (place ps from) (place ps to) reader 0 w (below to) (omega (arith, below to)) (same ∙ none) in
      b places.1)

  read_one : (turns : Bool) (v : Version) → place ps v.installer ≡ v.place → (cs : List ℕ) (es : List Edge) → Tells ps w cs made es
      → Tells ps w (or_at cs (reader + cond turns v.place 0 * w) 4) made (es ++ cond turns (apart (read_by PredicateRead r v.installer)) [])
  read_one =
      told_one ps w made (read_by PredicateRead r) PredicateRead (λ n. refl) reader w (λ n p fit. let turned : p * w + reader ≡ reader + p * w = omega arith in ap (λ q. q * w + reader) fit ∙ turned)
      (λ below from to a b same.
      let none : reader + 0 * w ≡ 0 * w + reader = omega arith in
      let places = same_from_place (place ps from) (place ps to) 0 reader w (below to) (below r.txn) (same ∙ none) in
      a places.0)

  module _ (a : Bool) where
    -- the classes of versions, and where they turn
    abbrev classes : List Version → List Bool
    classes vs = map (λ x. differ a (f x)) (states vs)

    abbrev turns : Bool → List Version → List ℕ
    turns b vs = turned (differ a b) (classes vs) vs

    abbrev Fit : List Version → Type 0
    Fit vs = (v : Version) → Contains vs v → place ps v.installer ≡ v.place

    told_behind : (vs : List Version) (b : Bool) (q : ℕ) → r.place ≤ q → Fit vs → (cs : List ℕ) (es : List Edge) → Tells ps w cs made es
        → Tells ps w (marked (reader * w) 1 16 (turns b vs) cs) made (es ++ walk s (unlisted r) b q vs)
    told_behind [] b q behind fits cs es t = subst (Tells ps w cs made) (sym (append-nil es)) t
    told_behind (v ∷ vs) b q behind fits cs es t =
        let now : Bool = f v.value in
        let turn : Bool = differ (differ a b) (differ a now) in
        let next : List ℕ = or_at cs (reader * w + cond turn v.place 0 * 1) 16 in
        let change : List Edge = edges_by (unlisted r) q v.installer (differ b now) in
        let is : cond turn (apart (passed_by PredicateAnti r v.installer)) [] ≡ change =
        ap (λ c. cond turn (apart (cond c (read_by PredicateRead r v.installer) (passed_by PredicateAnti r v.installer))) []) (sym (le-ltb q r.place behind)) ∙ ap (edges_by (unlisted r) q v.installer) (differ_alike a b now) in
        let told : Tells ps w next made (es ++ change) = subst (λ xs. Tells ps w next made (es ++ xs)) is (passed_one turn v (fits v (first_member v vs)) cs es t) in
        subst (Tells ps w (marked (reader * w) 1 16 (turns now vs) next) made) (append_assoc es change (walk s (unlisted r) now (q + 1) vs))
        (told_behind vs now (q + 1) (omega (arith, behind)) (λ u has. fits u (later_member v vs u has)) next (es ++ change) told)

    told_ahead : (k : ℕ) (vs : List Version) (b : Bool) (q : ℕ) → q + k ≡ r.place → Fit vs → (cs : List ℕ) (es : List Edge) → Tells ps w cs made es
        → Tells ps w (turns_marked w reader k (turns b vs) cs) made (es ++ walk s (unlisted r) b q vs)
    told_ahead zero vs b q at fits cs es t = told_behind vs b q (omega (arith, at)) fits cs es t
    told_ahead (suc k) [] b q at fits cs es t = subst (Tells ps w cs made) (sym (append-nil es)) t
    told_ahead (suc k) (v ∷ vs) b q at fits cs es t =
        let now : Bool = f v.value in
        let turn : Bool = differ (differ a b) (differ a now) in
        let next : List ℕ = or_at cs (reader + cond turn v.place 0 * w) 4 in
        let change : List Edge = edges_by (unlisted r) q v.installer (differ b now) in
        let is : cond turn (apart (read_by PredicateRead r v.installer)) [] ≡ change =
        ap (λ c. cond turn (apart (cond c (read_by PredicateRead r v.installer) (passed_by PredicateAnti r v.installer))) []) (sym (lt-ltb q r.place (omega (arith, at)))) ∙ ap (edges_by (unlisted r) q v.installer) (differ_alike a b now) in
        let told : Tells ps w next made (es ++ change) = subst (λ xs. Tells ps w next made (es ++ xs)) is (read_one turn v (fits v (first_member v vs)) cs es t) in
        subst (Tells ps w (turns_marked w reader k (turns now vs) next) made) (append_assoc es change (walk s (unlisted r) now (q + 1) vs))
        (told_ahead k vs now (q + 1) (omega (arith, at)) (λ u has. fits u (later_member v vs u has)) next (es ++ change) told)

    -- where all versions are of the class before them, nothing changes
    none_change : (vs : List Version) (b : Bool) (q : ℕ) → differ a b ≡ false → ((c : Bool) → Contains (classes vs) c → c ≡ false) → walk s (unlisted r) b q vs ≡ []
    none_change [] b q first all = refl
    none_change (v ∷ vs) b q first all =
        let now : Bool = f v.value in
        let class : differ a now ≡ false = all (differ a now) (first_member (differ a now) (classes vs)) in
        let same : differ b now ≡ false = sym (differ_alike a b now) ∙ (ap (λ c. differ c (differ a now)) first ∙ class) in
        ap (λ c. edges_by (unlisted r) q v.installer c ++ walk s (unlisted r) now (q + 1) vs) same ∙ none_change vs now (q + 1) class (λ c has. all c (later_member (differ a now) (classes vs) c has))

  -- and what is marked by installers, by those of a row's turns
  pub told_installers : (c : Chain) (ns : List ℕ) → AreInstallers false (asked f c.before (states c.items)) c.items ns → FitsVersions c.items ps → (cs : List ℕ) (es : List Edge) → Tells ps w cs made es
      → Tells ps w (turns_marked w reader r.place ns cs) made (es ++ walked s (unlisted r) c)
  told_installers c ns installers fits cs es told =
      let a : Bool = f c.before in
      let start : differ a a ≡ false = no_difference a a refl in
      let changes : List Edge = walked s (unlisted r) c in
      elim installers [
        | inl is ↦ subst (λ ms. Tells ps w (turns_marked w reader r.place ms cs) made (es ++ changes)) (ap (λ b. turned b (classes a c.items) c.items) start ∙ sym is)
            (told_ahead a r.place c.items a 0 (omega arith) fits cs es told)
        | inr (none, all) ↦
            let bare : turns_marked w reader r.place [] cs ≡ cs =
            ap (λ ms. marked (reader * w) 1 16 ms (marked reader w 4 (take r.place []) cs)) (drop_all r.place [] (omega arith)) ∙ ap (λ ms. marked reader w 4 ms cs) (take_all r.place [] (omega arith)) in
            subst (λ ms. Tells ps w (turns_marked w reader r.place ms cs) made (es ++ changes)) (sym none)
            (subst (λ xs. Tells ps w xs made (es ++ changes)) (sym bare) (subst (λ xs. Tells ps w cs made (es ++ xs)) (sym (none_change a c.items a 0 start all)) (subst (Tells ps w cs made) (sym (append-nil es)) told)))
      ]

  pub told_turns : (c : Chain) (t : Turns) → TurnsFor s r.row c t → FitsVersions c.items ps → (cs : List ℕ) (es : List Edge) → Tells ps w cs made es
      → Tells ps w (turns_marked w reader r.place t.installers.items cs) made (es ++ walked s (unlisted r) c)
  told_turns c t turn = told_installers c t.installers.items turn.installers
