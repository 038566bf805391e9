use Rattle.std.proofs.{Common.{◌≡◌, ◌+◌, ◌∷◌, ℕ, drop, sym, ap, ◌∙◌}, lemmas.List.{drop_all, drop_more}}
use Rattle.lab_deps.{specs.{KindBits.{place}, Numbering.{placed_behind}}, proofs.NumberedNodes.{numbering, places_in_order}}
use Rattle.lab_deps.proofs.nodes.places_of.Goals as goal

pub loop-index-preserved : goal.loop-index-preserved
loop-index-preserved c n =
    let xs = c.args.numbers.now in
    let i = c.loop-index.index in
    let ps = c.loop-index.places.items in
    let m = c.index-numbers-index.result in
    let left : drop i xs ≡ m ∷ drop (i + 1) xs = drop_more xs i m c.loop-index-test.true ∙ ap (λ k. k ∷ drop (i + 1) xs) (sym c.index-numbers-index.is) in
    ap (λ x. placed_behind x (i + 1) (drop (i + 1) xs) n) (c.in_ok-put.ensures n) ∙ (sym (ap (λ ms. placed_behind (place ps n) i ms n) left) ∙ c.loop-index.invariant n)

pub returns : goal.returns
returns c =
    let xs = c.args.numbers.now in
    let ps = c.loop-index.places.items in
    let i = c.loop-index.index in
    let exact : (n : ℕ) → place ps n ≡ placed_behind 0 0 xs n = λ n. sym (ap (λ ms. placed_behind (place ps n) i ms n) (drop_all i xs c.loop-index-test.false)) ∙ c.loop-index.invariant n in
    record { numbered = numbering xs ps c.requires.rising exact; places = places_in_order xs ps c.requires.rising exact }
