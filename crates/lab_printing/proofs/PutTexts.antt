-- Texts that a sink was handed, one behind the other.
use Rattle.lab_printing.proofs.Common.{rules, ◌≡◌, ◌≤◌, ◌+◌, ℕ, suc, Bool, true, false, codes, List, ◌∷◌, ◌++◌, length, map, replicate, refl, sym, ap, ◌∙◌, append_assoc, arith, length-append, ◌↔◌, IsTrue, map-append, length-map, length-replicate, joined}
use Rattle.lab_printing.specs.Sink.{Puts}
use Rattle.lab_printing.proofs.Joined.{followed, joined_is}

-- what is put behind a text is put behind what stood before that text
pub put_behind : (kept : ℕ → ℕ) (old front back : List ℕ) {middle new : List ℕ} → middle ≡ old ++ map kept front → new ≡ middle ++ map kept back → new ≡ old ++ map kept (front ++ back)
put_behind kept old front back first second =
    second ∙ ap (λ text. text ++ map kept back) first ∙ append_assoc old (map kept front) (map kept back) ∙ ap (λ text. old ++ text) (sym (map-append kept front back))

-- a call that puts the back of a text behind its front puts the text
pub puts_rest : (kept : ℕ → ℕ) (limit : ℕ) (taken : Bool) (old front back middle new whole : List ℕ) → middle ≡ old ++ map kept front → Puts kept limit taken middle back new
    → whole ≡ front ++ back → Puts kept limit taken old whole new
puts_rest kept limit true old front back middle new whole first second is = put_behind kept old front back first second ∙ ap (λ text. old ++ map kept text) (sym is)
puts_rest kept limit false old front back middle new whole first second is = omega (arith, ap length first, ap length is, length-append {A = ℕ}, length-map front kept)

-- where the first of texts was put, the others are left
pub first_put : (kept : ℕ → ℕ) (old text : List ℕ) (texts : List (List ℕ)) {middle : List ℕ} → middle ≡ old ++ map kept text
    → middle ++ map kept (followed texts) ≡ old ++ map kept (joined (text ∷ texts))
first_put kept old text texts put = put_behind kept old text (followed texts) put refl ∙ ap (λ text. old ++ map kept text) (sym (joined_is text texts))

-- where the next of texts was put behind a comma, the others are left
pub next_put : (kept : ℕ → ℕ) (old text : List ℕ) (texts : List (List ℕ)) {new : List ℕ} → new ≡ old ++ map kept (codes ", " ++ text)
    → new ++ map kept (followed texts) ≡ old ++ map kept (followed (text ∷ texts))
next_put kept old text texts put = put_behind kept old (codes ", " ++ text) (followed texts) put refl

-- what was put and what is left have the length of all
pub same_length : (kept : ℕ → ℕ) (out left old whole : List ℕ) → out ++ map kept left ≡ old ++ map kept whole → length out + length left ≡ length old + length whole
same_length kept out left old whole is = omega (arith, ap length is, length-append {A = ℕ}, length-map left kept, length-map whole kept)

-- room that was all there takes exactly the texts that fit
pub room_tells : (taken : Bool) (limit start used : ℕ) (text : List ℕ) → Puts (λ _. 0) (suc limit) taken (replicate start 0) text (replicate used 0) → start ≡ 0 → used ≤ limit
    → IsTrue taken ↔ (length text ≤ limit)
room_tells true limit start used text put none within =
    let long : used ≡ start + length text = omega (arith, ap length put, length-append {A = ℕ}, length-replicate {A = ℕ}, length-map {B = ℕ} text (λ _. 0)) in
    ((λ _. omega arith), (λ _. search rules))
room_tells false limit start used text put none within =
    let over : suc limit ≤ start + length text = omega (arith, put, length-replicate {A = ℕ}) in ((λ ok. absurd cc), (λ short. absurd (omega arith)))
