-- How tokens go on.
use Rattle.lab_statement.proofs.Common.{◌≡◌, ℕ, ◌-◌, arith, nat_tests, is_ascii_digit, is_blank, Bool, true, false, cond, ◌==◌, List, [], ◌∷◌, ◌++◌, take, drop, map, Option, Some, None, refl, sym, ap, ◌∙◌, append_assoc, suc, subst, inl, inr, is_some, unwrap_or, prefix_len, to_ascii_lowercase, append-nil, cases_Bool, false_from_ne_true, eqb-true, Token, Part, letters, whole, is_letter, word_token, mark, begun, longer, ended, longer_token, tokens, tokens_from}
use Rattle.std.proofs.Math.Numerals.{one-add}
use Rattle.lab_statement.specs.declared.token.Token.TheVariants as token

pub goes_on : (part more : Part) (b : ℕ) (bs : List ℕ) → longer part b ≡ Some more → tokens_from part (b ∷ bs) ≡ tokens_from more bs
goes_on part more b bs h = ap (λ (o : Option Part). cond (is_some o) [] (ended part) ++ tokens_from (unwrap_or o (begun b)) bs) h

pub breaks : (part : Part) (b : ℕ) (bs : List ℕ) → longer part b ≡ None → tokens_from part (b ∷ bs) ≡ ended part ++ tokens_from (begun b) bs
breaks part b bs h = ap (λ (o : Option Part). cond (is_some o) [] (ended part) ++ tokens_from (unwrap_or o (begun b)) bs) h

pub one_more : (p : ℕ → Bool) (b : ℕ) (bs : List ℕ) → p b ≡ true → suc (prefix_len p bs) ≡ prefix_len p (b ∷ bs)
one_more p b bs h = rw h (sym (one-add (prefix_len p bs)))

pub no_more : (p : ℕ → Bool) (b : ℕ) (bs : List ℕ) → p b ≡ false → 0 ≡ prefix_len p (b ∷ bs)
no_more p b bs h = rw h refl

-- a word, of this length
abbrev word_then : List ℕ → List ℕ → ℕ → List Token
word_then word bs k = word_token (word ++ map to_ascii_lowercase (take k bs)) ∷ tokens (drop k bs)

-- letters go on to the first byte that is none
pub letters_run : (bs word : List ℕ) → tokens_from (letters word) bs ≡ word_then word bs (prefix_len is_letter bs)
letters_run [] word = rw append-nil refl
letters_run (b ∷ bs) word =
    elim (cases_Bool (is_letter b)) [
      | inl is ↦ goes_on (letters word) (letters (word ++ to_ascii_lowercase b ∷ [])) b bs (ap (λ (v : Bool). cond v (Some (letters (word ++ to_ascii_lowercase b ∷ []))) None) is)
          ∙ letters_run bs (word ++ to_ascii_lowercase b ∷ [])
          ∙ ap (λ (w : List ℕ). word_token w ∷ tokens (drop (prefix_len is_letter bs) bs))
          (append_assoc word (to_ascii_lowercase b ∷ []) (map to_ascii_lowercase (take (prefix_len is_letter bs) bs)))
          ∙ ap (word_then word (b ∷ bs)) (one_more is_letter b bs is)
      | inr isnt ↦ breaks (letters word) b bs (ap (λ (v : Bool). cond v (Some (letters (word ++ to_ascii_lowercase b ∷ []))) None) isnt)
          ∙ ap (λ (w : List ℕ). word_token w ∷ tokens (b ∷ bs)) (sym (append-nil word))
          ∙ ap (word_then word (b ∷ bs)) (no_more is_letter b bs isnt)
    ]

-- what stands behind them is none of them
pub front_stops : (p : ℕ → Bool) (bs : List ℕ) (b : ℕ) (after : List ℕ) → drop (prefix_len p bs) bs ≡ b ∷ after → p b ≡ false
front_stops p [] b after e = absurd cc
front_stops p (x ∷ xs) b after e =
    elim (cases_Bool (p x)) [
      | inl is ↦ front_stops p xs b after (ap (λ (k : ℕ). drop k (x ∷ xs)) (one_more p x xs is) ∙ e)
      | inr isnt ↦
          let same : x ∷ xs ≡ b ∷ after = ap (λ (k : ℕ). drop k (x ∷ xs)) (no_more p x xs isnt) ∙ e in
          let head : x ≡ b = cc in
          subst (λ (y : ℕ). p y ≡ false) head isnt
    ]

-- a token that no byte makes longer is whole
pub whole_run : (t : Token) (bs : List ℕ) → ((b : ℕ) → longer_token t b ≡ None) → tokens_from (whole t) bs ≡ t ∷ tokens bs
whole_run t [] h = refl
whole_run t (b ∷ bs) h = rw (h b) refl

-- a mark that isn't the first of two is a token by itself
either : (v : Bool) (t u : Token) (n : ℕ) → longer_token t n ≡ None → longer_token u n ≡ None → longer_token (cond v t u) n ≡ None
either true t u n p q = p
either false t u n p q = q

others : (b n : ℕ) → (b == 60) ≡ false → (b == 62) ≡ false → longer_token (mark b) n ≡ None
others b n p q =
    rw (p, q) (either (b == 40) _ _ n refl (either (b == 41) _ _ n refl (either (b == 44) _ _ n refl (either (b == 59) _ _ n refl (either (b == 42) _ _ n refl
    (either (b == 61) _ _ n refl (either (b == 37) _ _ n refl (either (b == 43) _ _ n refl (either (b == 45) _ _ n refl refl)))))))))

-- a comma is a token by itself
pub comma_begins : (b : ℕ) (bs : List ℕ) → b ≡ 44 → tokens (b ∷ bs) ≡ token.Comma ∷ tokens bs
comma_begins b bs is = rw is (whole_run token.Comma bs (λ n. refl))

pub isnt_eq : (a b : ℕ) → (a ≡ b → ⊥) → (a == b) ≡ false
isnt_eq a b h = false_from_ne_true (a == b) (λ e. h (eqb-true a b e))

-- the same of other marks, as the code meets them
pub other_mark : (b : ℕ) (bs : List ℕ) (t : Token) → t ≡ mark b → (b ≡ 60 → ⊥) → (b ≡ 62 → ⊥) → tokens_from (whole (mark b)) bs ≡ t ∷ tokens bs
other_mark b bs t e p q = whole_run (mark b) bs (λ n. others b n (isnt_eq b 60 p) (isnt_eq b 62 q)) ∙ ap (λ (u : Token). u ∷ tokens bs) (sym e)

-- how a text goes on behind its first byte, as the code meets it
pub blank_begins : (b : ℕ) (bs : List ℕ) → true ≡ is_blank b → tokens (b ∷ bs) ≡ tokens bs
blank_begins b bs is = rw (← is) refl

pub word_begins : (b : ℕ) (bs : List ℕ) → false ≡ is_blank b → true ≡ is_letter b → tokens (b ∷ bs) ≡ tokens_from (letters []) (b ∷ bs)
word_begins b bs blank is = rw (← blank, ← is) refl

pub digit_begins : (b n : ℕ) (bs : List ℕ) → true ≡ is_ascii_digit b → n ≡ b - 48 → tokens (b ∷ bs) ≡ tokens_from (whole (token.Digits n)) bs
digit_begins b n bs is e =
    let blank : false ≡ is_blank b = grind (arith, nat_tests) in
    let letter : false ≡ is_letter b = grind (arith, nat_tests) in
    rw (e, ← blank, ← letter, ← is) refl

pub mark_begins : (b : ℕ) (bs : List ℕ) → false ≡ is_ascii_digit b → false ≡ is_blank b → false ≡ is_letter b → tokens (b ∷ bs) ≡ tokens_from (whole (mark b)) bs
mark_begins b bs digit blank letter = rw (← blank, ← letter, ← digit) refl

-- a token put behind those found, which begins what is left
pub placed : (now found : List Token) (t : Token) (rest text after : List ℕ) → now ≡ found ++ t ∷ [] → found ++ tokens rest ≡ tokens text → tokens rest ≡ t ∷ tokens after
    → now ++ tokens after ≡ tokens text
placed now found t rest text after p q r =
    ap (λ (ts : List Token). ts ++ tokens after) p ∙ append_assoc found (t ∷ []) (tokens after) ∙ ap (λ (ts : List Token). found ++ ts) (sym r) ∙ q
