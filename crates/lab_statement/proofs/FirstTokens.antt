-- What is read of a text, where no byte of it is unknown, are its tokens, each as long as it can be.
use Rattle.std.{specs.Prelude.{Contains}, proofs.lemmas.List.Folds.{length-prefix_len}}
use Rattle.lab_statement.proofs.Common.{◌≡◌, ℕ, zero, suc, ◌≤◌, ◌⊎◌, Bool, true, false, cond, not, ◌&&◌, ◌||◌, ◌==◌, nat_le, List, [], ◌∷◌, ◌++◌, length, take, drop, refl, sym, ap, subst, ◌∙◌, inl, inr, arith, length-append, take-append-drop, list_all, prefix_len, nat_tests, leb-true, and_from, and_parts, cases_Bool, eqb-true, false≢true, not-true, is_ascii_digit, to_ascii_lowercase, map, Token, whole, is_blank, is_known, is_letter, word_token, mark, tokens, tokens_from, ◌↔◌}
use Rattle.lab_statement.specs.declared.token.Token.TheVariants as token
use Rattle.lab_statement.specs.TokensOf.{AreTokens, IsToken, marks, number_of}
use Rattle.lab_statement.specs.TokensOf as of
use Rattle.lab_statement.proofs.Tokens.{blank_begins, mark_begins, no_more, one_more, whole_run}
use Rattle.lab_statement.proofs.LongestTokens.{Longest, are_known, are_read, first_is, passes}

-- whether a text begins with a byte of this kind
abbrev heads : (ℕ → Bool) → List ℕ → Bool
heads p [] = false
heads p (b ∷ bs) = p b

-- bytes of one kind at the front

front_all : (p : ℕ → Bool) (bs : List ℕ) → list_all p (take (prefix_len p bs) bs) ≡ true
front_all p [] = refl
front_all p (b ∷ bs) =
    elim (cases_Bool (p b)) [
      | inl is ↦ ap (λ (k : ℕ). list_all p (take k (b ∷ bs))) (sym (one_more p b bs is)) ∙ and_from (p b) _ is (front_all p bs)
      | inr isnt ↦ ap (λ (k : ℕ). list_all p (take k (b ∷ bs))) (sym (no_more p b bs isnt))
    ]

longest_front : (p : ℕ → Bool) (bs behind : List ℕ) → list_all p bs ≡ true → length bs ≤ prefix_len p (bs ++ behind)
longest_front p [] behind all = omega arith
longest_front p (b ∷ bs) behind all =
    let both = and_parts (p b) (list_all p bs) all in
    let more : length bs ≤ prefix_len p (bs ++ behind) = longest_front p bs behind both.1 in
    omega (arith, more, one_more p b (bs ++ behind) both.0)

-- a token that begins with a byte of this kind is of such bytes
abbrev IsAlone : (ℕ → Bool) → Type 0
IsAlone p = (front : List ℕ) (t : Token) → IsToken front t → heads p front ≡ true → list_all p front ≡ true

run_longest : (p : ℕ → Bool) → IsAlone p → (b : ℕ) (bs : List ℕ) → p b ≡ true → Longest (b ∷ take (prefix_len p bs) bs) (drop (prefix_len p bs) bs)
run_longest p kept b bs is [] behind other e token = omega arith
run_longest p kept b bs is (x ∷ xs) behind other e token =
    let text : (x ∷ xs) ++ behind ≡ b ∷ bs = e ∙ ap (λ (ys : List ℕ). b ∷ ys) (take-append-drop (prefix_len p bs) bs) in
    let first : x ≡ b = cc in
    let all = kept (x ∷ xs) other token (subst (λ (y : ℕ). p y ≡ true) (sym first) is) in
    let len : length (x ∷ xs) ≤ prefix_len p (b ∷ bs) = subst (λ (ys : List ℕ). length (x ∷ xs) ≤ prefix_len p ys) text (longest_front p (x ∷ xs) behind all) in
    omega (arith, len, one_more p b bs is, length-prefix_len p bs)

digit_no_letter : (b : ℕ) → is_ascii_digit b ≡ true → is_letter b ≡ false
digit_no_letter b is = grind (arith, nat_tests)

letter_no_digit : (b : ℕ) → is_letter b ≡ true → is_ascii_digit b ≡ false
letter_no_digit b is = grind (arith, nat_tests)

no_head : (p : ℕ → Bool) → list_all (λ (m : List ℕ × Token). not (heads p m.0)) marks ≡ true → {front : List ℕ} {t : Token} → Contains marks (front, t) → heads p front ≡ true → ⊥
no_head p none {front} {t} marked is = false≢true (sym (not-true (heads p front) (passes (λ (m : List ℕ × Token). not (heads p m.0)) marks none marked)) ∙ is)

letters_alone : IsAlone is_letter
letters_alone front t (of.of_letters all) is = all
letters_alone front t (of.of_digits {b} {bs} all) is = absurd (false≢true (sym (digit_no_letter b (and_parts (is_ascii_digit b) (list_all is_ascii_digit bs) all).0) ∙ is))
letters_alone front t (of.of_mark marked) is = absurd (no_head is_letter refl marked is)

digits_alone : IsAlone is_ascii_digit
digits_alone front t (of.of_digits all) is = all
digits_alone front t (of.of_letters {b} {bs} all) is = absurd (false≢true (sym (letter_no_digit b (and_parts (is_letter b) (list_all is_letter bs) all).0) ∙ is))
digits_alone front t (of.of_mark marked) is = absurd (no_head is_ascii_digit refl marked is)

-- a token that is as long as it can be stands at the front
pub record Begins (text : List ℕ) : Type 0 where
  pub front : List ℕ
  pub rest : List ℕ
  pub first : Token
  pub parts : front ++ rest ≡ text
  pub spelled : IsToken front first
  pub longest : Longest front rest

run_begins : (p : ℕ → Bool) → IsAlone p → ((b : ℕ) (bs : List ℕ) → list_all p (b ∷ bs) ≡ true → (t : Token) × IsToken (b ∷ bs) t) → (b : ℕ) (bs : List ℕ) → p b ≡ true → Begins (b ∷ bs)
run_begins p kept make b bs is =
    let made = make b (take (prefix_len p bs) bs) (and_from (p b) _ is (front_all p bs)) in
    record {
      front = b ∷ take (prefix_len p bs) bs;
      rest = drop (prefix_len p bs) bs;
      first = made.0;
      parts = ap (λ (ys : List ℕ). b ∷ ys) (take-append-drop (prefix_len p bs) bs);
      spelled = made.1;
      longest = run_longest p kept b bs is;
    }

-- marks

-- whether a text begins with a mark of two bytes
abbrev is_pair : List ℕ → Bool
is_pair [] = false
is_pair (b ∷ []) = false
is_pair (b ∷ c ∷ cs) = ((b == 60) && ((c == 62) || (c == 61))) || ((b == 62) && (c == 61))

pair_on : (bs cs : List ℕ) → is_pair bs ≡ true → is_pair (bs ++ cs) ≡ true
pair_on [] cs is = absurd (false≢true is)
pair_on (b ∷ []) cs is = absurd (false≢true is)
pair_on (b ∷ c ∷ bs) cs is = is

-- a token that begins with neither a letter nor a digit is a mark
module _ (b : ℕ) (bs : List ℕ) (letter : is_letter b ≡ false) (digit : is_ascii_digit b ≡ false) where
  only_mark : (longer behind : List ℕ) (t : Token) → longer ++ behind ≡ b ∷ bs → IsToken longer t → Contains marks (longer, t)
  only_mark longer behind t e (of.of_mark marked) = marked
  only_mark longer behind t e (of.of_letters {b = x} {bs = xs} all) =
      let first : x ≡ b = cc in
      absurd (false≢true (sym letter ∙ subst (λ (y : ℕ). is_letter y ≡ true) first (and_parts (is_letter x) (list_all is_letter xs) all).0))
  only_mark longer behind t e (of.of_digits {b = x} {bs = xs} all) =
      let first : x ≡ b = cc in
      absurd (false≢true (sym digit ∙ subst (λ (y : ℕ). is_ascii_digit y ≡ true) first (and_parts (is_ascii_digit x) (list_all is_ascii_digit xs) all).0))

  two_longest : (c : ℕ) (cs : List ℕ) → bs ≡ c ∷ cs → Longest (b ∷ c ∷ []) cs
  two_longest c cs are longer behind other e token =
      leb-true _ _ (passes (λ (m : List ℕ × Token). nat_le (length m.0) 2) marks refl (only_mark longer behind other (e ∙ ap (λ (ys : List ℕ). b ∷ ys) (sym are)) token))

  one_longest : is_pair (b ∷ bs) ≡ false → Longest (b ∷ []) bs
  one_longest none longer behind other e token =
      let short = passes (λ (m : List ℕ × Token). is_pair m.0 || nat_le (length m.0) 1) marks refl (only_mark longer behind other e token) in
      elim (cases_Bool (is_pair longer)) [
        | inl is ↦ absurd (false≢true (sym none ∙ ap is_pair (sym e) ∙ pair_on longer behind is))
        | inr isnt ↦ leb-true (length longer) 1 (ap (λ (v : Bool). v || nat_le (length longer) 1) (sym isnt) ∙ short)
      ]

-- a byte is a mark, or unknown
either_mark : (b c : ℕ) (t u : Token) → Contains marks (c ∷ [], t) → Contains marks (b ∷ [], u) ⊎ (u ≡ token.Unknown) → Contains marks (b ∷ [], cond (b == c) t u) ⊎ (cond (b == c) t u ≡ token.Unknown)
either_mark b c t u marked others =
    elim (cases_Bool (b == c)) [
      | inl is ↦ rw is (inl (subst (λ (x : ℕ). Contains marks (x ∷ [], t)) (sym (eqb-true b c is)) marked))
      | inr isnt ↦ rw isnt others
    ]

single : (b : ℕ) → Contains marks (b ∷ [], mark b) ⊎ (mark b ≡ token.Unknown)
single b =
    either_mark b 60 _ _ (0, omega arith, refl) (either_mark b 62 _ _ (1, omega arith, refl) (either_mark b 40 _ _ (2, omega arith, refl) (either_mark b 41 _ _ (3, omega arith, refl)
    (either_mark b 44 _ _ (4, omega arith, refl) (either_mark b 59 _ _ (5, omega arith, refl) (either_mark b 42 _ _ (6, omega arith, refl) (either_mark b 61 _ _ (7, omega arith, refl)
    (either_mark b 37 _ _ (8, omega arith, refl) (either_mark b 43 _ _ (9, omega arith, refl) (either_mark b 45 _ _ (10, omega arith, refl) (inr refl)))))))))))

-- two bytes are one
either_of : (v w : Bool) → (v || w) ≡ true → (v ≡ true) ⊎ (w ≡ true)
either_of true w is = inl refl
either_of false w is = inr is

pair_mark : (b c : ℕ) (cs : List ℕ) → is_pair (b ∷ c ∷ cs) ≡ true → (t : Token) × Contains marks (b ∷ c ∷ [], t)
pair_mark b c cs is =
    elim (either_of ((b == 60) && ((c == 62) || (c == 61))) ((b == 62) && (c == 61)) is) [
      | inl less ↦
          let parts = and_parts (b == 60) ((c == 62) || (c == 61)) less in
          elim (either_of (c == 62) (c == 61) parts.1) [
            | inl second ↦ there b c 60 62 token.Unequal (eqb-true b 60 parts.0) (eqb-true c 62 second) (11, omega arith, refl)
            | inr second ↦ there b c 60 61 token.AtMost (eqb-true b 60 parts.0) (eqb-true c 61 second) (12, omega arith, refl)
          ]
      | inr greater ↦
          let parts = and_parts (b == 62) (c == 61) greater in
          there b c 62 61 token.AtLeast (eqb-true b 62 parts.0) (eqb-true c 61 parts.1) (13, omega arith, refl)
    ]
  where
    there : (x y p q : ℕ) (t : Token) → x ≡ p → y ≡ q → Contains marks (p ∷ q ∷ [], t) → (u : Token) × Contains marks (x ∷ y ∷ [], u)
    there x y p q t one other marked = (t, subst (λ (z : ℕ). Contains marks (z ∷ y ∷ [], t)) (sym one) (subst (λ (z : ℕ). Contains marks (p ∷ z ∷ [], t)) (sym other) marked))

mark_begins_so : (b : ℕ) (bs : List ℕ) → is_letter b ≡ false → is_ascii_digit b ≡ false → Contains marks (b ∷ [], mark b) → Begins (b ∷ bs)
mark_begins_so b [] letter digit marked = record { front = b ∷ []; rest = []; first = mark b; parts = refl; spelled = of.of_mark marked; longest = one_longest b [] letter digit refl }
mark_begins_so b (c ∷ cs) letter digit marked =
    elim (cases_Bool (is_pair (b ∷ c ∷ cs))) [
      | inl is ↦
          let two = pair_mark b c cs is in
          record { front = b ∷ c ∷ []; rest = cs; first = two.0; parts = refl; spelled = of.of_mark two.1; longest = two_longest b (c ∷ cs) letter digit c cs refl }
      | inr isnt ↦ record { front = b ∷ []; rest = c ∷ cs; first = mark b; parts = refl; spelled = of.of_mark marked; longest = one_longest b (c ∷ cs) letter digit isnt }
    ]

-- a text that begins with no blank begins with a token, where none that is read is unknown
begins : (b : ℕ) (bs : List ℕ) → is_blank b ≡ false → list_all is_known (tokens (b ∷ bs)) ≡ true → Begins (b ∷ bs)
begins b bs blank known =
    elim (cases_Bool (is_letter b)) [
      | inl letter ↦ run_begins is_letter letters_alone (λ x xs all. (word_token (map to_ascii_lowercase (x ∷ xs)), of.of_letters all)) b bs letter
      | inr none ↦
          elim (cases_Bool (is_ascii_digit b)) [
            | inl digit ↦ run_begins is_ascii_digit digits_alone (λ x xs all. (token.Digits (number_of (x ∷ xs)), of.of_digits all)) b bs digit
            | inr neither ↦
                elim (single b) [
                  | inl marked ↦ mark_begins_so b bs none neither marked
                  | inr unknown ↦
                      let are : tokens (b ∷ bs) ≡ token.Unknown ∷ tokens bs =
                      mark_begins b bs (sym neither) (sym blank) (sym none) ∙ ap (λ (t : Token). tokens_from (whole t) bs) unknown ∙ whole_run token.Unknown bs (λ n. refl) in
                      absurd (false≢true (subst (λ (ts : List Token). list_all is_known ts ≡ true) are known))
                ]
          ]
    ]

token_long : (front : List ℕ) (t : Token) → IsToken front t → 1 ≤ length front
token_long front t (of.of_letters all) = omega arith
token_long front t (of.of_digits all) = omega arith
token_long front t (of.of_mark marked) = leb-true 1 (length front) (passes (λ (m : List ℕ × Token). nat_le 1 (length m.0)) marks refl marked)

-- what is read are the tokens, where none is unknown
read_are : (k : ℕ) (text : List ℕ) → length text ≤ k → list_all is_known (tokens text) ≡ true → AreTokens text (tokens text)
read_are k [] short known = of.none_left
read_are zero (b ∷ bs) short known = absurd (omega (arith, short))
read_are (suc k) (b ∷ bs) short known =
    elim (cases_Bool (is_blank b)) [
      | inl is ↦
          let same = blank_begins b bs (sym is) in
          subst (AreTokens (b ∷ bs)) (sym same) (of.blank_first is (read_are k bs (omega (arith, short)) (subst (λ (ts : List Token). list_all is_known ts ≡ true) same known)))
      | inr isnt ↦
          let at = begins b bs isnt known in
          let same : tokens (at.front ++ at.rest) ≡ at.first ∷ tokens at.rest = first_is at.rest at.spelled at.longest in
          let whole_known : list_all is_known (at.first ∷ tokens at.rest) ≡ true = subst (λ (ts : List Token). list_all is_known ts ≡ true) (ap tokens (sym at.parts) ∙ same) known in
          let others = read_are k at.rest (omega (arith, short, ap length at.parts, length-append at.front at.rest, token_long at.front at.first at.spelled)) (and_parts (is_known at.first) (list_all is_known (tokens at.rest)) whole_known).1 in
          subst (λ (text : List ℕ). AreTokens text (tokens text)) at.parts (subst (AreTokens (at.front ++ at.rest)) (sym same) (of.token_first at.spelled at.longest others))
    ]

pub known_are : (text : List ℕ) (ts : List Token) → tokens text ≡ ts → list_all is_known ts ≡ true → AreTokens text ts
known_are text ts is known = subst (AreTokens text) is (read_are (length text) text (omega arith) (subst (λ (us : List Token). list_all is_known us ≡ true) (sym is) known))

-- the law
pub tokens_are : (text : List ℕ) (ts : List Token) → AreTokens text ts ↔ ((tokens text ≡ ts) × (list_all is_known ts ≡ true))
tokens_are text ts = (λ are. (are_read are, are_known are), λ read. known_are text ts read.0 read.1)
