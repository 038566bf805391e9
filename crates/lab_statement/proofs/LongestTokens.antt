-- Tokens that are each as long as they can be are those that are read.
use Rattle.std.specs.Prelude.{Contains, fold}
use Rattle.lab_statement.proofs.Common.{◌≡◌, ℕ, zero, suc, ◌+◌, ◌-◌, ◌*◌, ◌≤◌, Bool, true, false, cond, not, List, [], ◌∷◌, ◌++◌, length, map, min, Option, Some, None, refl, sym, ap, subst, ◌∙◌, inl, inr, arith, append_assoc, append-nil, length-append, list_all, list_all-append, nat_tests, and_from, and_parts, cases_Bool, not-true, option_map, unwrap_or, is_ascii_digit, to_ascii_lowercase, Each, Word, word_named, is_table_name, Token, letters, whole, is_blank, is_known, is_letter, word_token, with_digit, tokens, tokens_from}
use Rattle.lab_statement.specs.declared.token.Token.TheVariants as token
use Rattle.lab_statement.specs.TokensOf.{AreTokens, IsToken, marks, number_of}
use Rattle.lab_statement.specs.TokensOf as of
use Rattle.lab_statement.proofs.Tokens.{blank_begins, breaks, digit_begins, goes_on, isnt_eq, whole_run, word_begins}

-- no longer front of a text is a token
abbrev pub Longest : List ℕ → List ℕ → Type 0
Longest front rest = (longer behind : List ℕ) (other : Token) → longer ++ behind ≡ front ++ rest → IsToken longer other → length longer ≤ length front

-- what is so of each element is so of one
pub each_of : {X : Type 0} (P : X → Type 0) (xs : List X) {x : X} → Each P xs → Contains xs x → P x
each_of P [] each (k, lt, e) = absurd (omega (arith, lt))
each_of P (y ∷ ys) each (zero, lt, e) = subst P e each.0
each_of P (y ∷ ys) each (suc k, lt, e) = each_of P ys each.1 (k, omega (arith, lt), e)

-- a test that each element passes one passes
pub passes : {X : Type 0} (p : X → Bool) (xs : List X) {x : X} → list_all p xs ≡ true → Contains xs x → p x ≡ true
passes p [] all (k, lt, e) = absurd (omega (arith, lt))
passes p (y ∷ ys) all (zero, lt, e) = subst (λ z. p z ≡ true) e (and_parts (p y) (list_all p ys) all).0
passes p (y ∷ ys) all (suc k, lt, e) = passes p ys (and_parts (p y) (list_all p ys) all).1 (k, omega (arith, lt), e)

-- a letter is no blank
letter_no_blank : (b : ℕ) → is_letter b ≡ true → false ≡ is_blank b
letter_no_blank b is = grind (arith, nat_tests)

-- no byte of this kind stands at the front
abbrev stops : (ℕ → Bool) → List ℕ → Bool
stops p [] = true
stops p (b ∷ bs) = not (p b)

-- behind a longest token of bytes of one kind none of that kind stands
stops_behind : (p : ℕ → Bool) (front rest : List ℕ) → ((b : ℕ) → list_all p (front ++ b ∷ []) ≡ true → (t : Token) × IsToken (front ++ b ∷ []) t) → list_all p front ≡ true → Longest front rest → stops p rest ≡ true
stops_behind p front [] make all longest = refl
stops_behind p front (b ∷ bs) make all longest =
    elim (cases_Bool (p b)) [
      | inl is ↦
          let made = make b (list_all-append p front (b ∷ []) ∙ and_from _ _ all (and_from _ _ is refl)) in
          let len : length (front ++ b ∷ []) ≤ length front = longest (front ++ b ∷ []) bs made.0 (append_assoc front (b ∷ []) bs) made.1 in
          absurd (omega (arith, len, length-append front (b ∷ [])))
      | inr isnt ↦ ap not isnt
    ]

-- letters go on
letters_all : (bs rest word : List ℕ) → list_all is_letter bs ≡ true → tokens_from (letters word) (bs ++ rest) ≡ tokens_from (letters (word ++ map to_ascii_lowercase bs)) rest
letters_all [] rest word all = rw append-nil refl
letters_all (b ∷ bs) rest word all =
    let both = and_parts (is_letter b) (list_all is_letter bs) all in
    let on = word ++ to_ascii_lowercase b ∷ [] in
    goes_on (letters word) (letters on) b (bs ++ rest) (ap (λ (v : Bool). cond v (Some (letters on)) None) both.0)
    ∙ letters_all bs rest on both.1
    ∙ ap (λ (w : List ℕ). tokens_from (letters w) rest) (append_assoc word (to_ascii_lowercase b ∷ []) (map to_ascii_lowercase bs))

letters_end : (word rest : List ℕ) → stops is_letter rest ≡ true → tokens_from (letters word) rest ≡ word_token word ∷ tokens rest
letters_end word [] stop = refl
letters_end word (b ∷ bs) stop = breaks (letters word) b bs (ap (λ (v : Bool). cond v (Some (letters (word ++ to_ascii_lowercase b ∷ []))) None) (not-true (is_letter b) stop))

-- letters are read as their word
word_is : (b : ℕ) (bs rest : List ℕ) → list_all is_letter (b ∷ bs) ≡ true → Longest (b ∷ bs) rest → tokens (b ∷ (bs ++ rest)) ≡ word_token (map to_ascii_lowercase (b ∷ bs)) ∷ tokens rest
word_is b bs rest all longest =
    let first = (and_parts (is_letter b) (list_all is_letter bs) all).0 in
    let stop = stops_behind is_letter (b ∷ bs) rest (λ c more. (word_token (map to_ascii_lowercase (b ∷ (bs ++ c ∷ []))), of.of_letters more)) all longest in
    word_begins b (bs ++ rest) (letter_no_blank b first) (sym first) ∙ letters_all (b ∷ bs) rest [] all ∙ letters_end (map to_ascii_lowercase (b ∷ bs)) rest stop

-- digits go on
digits_all : (bs rest : List ℕ) (n : ℕ) → list_all is_ascii_digit bs ≡ true → tokens_from (whole (token.Digits n)) (bs ++ rest) ≡ tokens_from (whole (token.Digits (fold with_digit n bs))) rest
digits_all [] rest n all = refl
digits_all (b ∷ bs) rest n all =
    let both = and_parts (is_ascii_digit b) (list_all is_ascii_digit bs) all in
    let on = token.Digits (with_digit n b) in
    goes_on (whole (token.Digits n)) (whole on) b (bs ++ rest) (ap (λ (v : Bool). option_map whole (cond v (Some on) None)) both.0) ∙ digits_all bs rest (with_digit n b) both.1

digits_end : (n : ℕ) (rest : List ℕ) → stops is_ascii_digit rest ≡ true → tokens_from (whole (token.Digits n)) rest ≡ token.Digits n ∷ tokens rest
digits_end n [] stop = refl
digits_end n (b ∷ bs) stop = rw (not-true (is_ascii_digit b) stop) refl

-- a number that is cut at each digit is the number cut in the end
capped : (n : ℕ) (bs : List ℕ) → fold with_digit (min n 1000000001) bs ≡ min (fold (λ m b. 10 * m + (b - 48)) n bs) 1000000001
capped n [] = refl
capped n (b ∷ bs) =
    let once : with_digit (min n 1000000001) b ≡ min (10 * n + (b - 48)) 1000000001 = omega arith in
    ap (λ (m : ℕ). fold with_digit m bs) once ∙ capped (10 * n + (b - 48)) bs

one_digit : (b : ℕ) → is_ascii_digit b ≡ true → b - 48 ≡ min (10 * 0 + (b - 48)) 1000000001
one_digit b is = grind (arith, nat_tests)

-- digits are read as their number
number_is : (b : ℕ) (bs rest : List ℕ) → list_all is_ascii_digit (b ∷ bs) ≡ true → Longest (b ∷ bs) rest → tokens (b ∷ (bs ++ rest)) ≡ token.Digits (number_of (b ∷ bs)) ∷ tokens rest
number_is b bs rest all longest =
    let both = and_parts (is_ascii_digit b) (list_all is_ascii_digit bs) all in
    let stop = stops_behind is_ascii_digit (b ∷ bs) rest (λ c more. (token.Digits (number_of (b ∷ (bs ++ c ∷ []))), of.of_digits more)) all longest in
    let value : fold with_digit (b - 48) bs ≡ number_of (b ∷ bs) = ap (λ (n : ℕ). fold with_digit n bs) (one_digit b both.0) ∙ capped (10 * 0 + (b - 48)) bs in
    digit_begins b (b - 48) (bs ++ rest) (sym both.0) refl ∙ digits_all bs rest (b - 48) both.1 ∙ digits_end (fold with_digit (b - 48) bs) rest stop ∙ ap (λ (n : ℕ). token.Digits n ∷ tokens rest) value

-- marks that longer ones begin with
less_is : (rest : List ℕ) → Longest (60 ∷ []) rest → tokens (60 ∷ rest) ≡ token.Less ∷ tokens rest
less_is [] longest = refl
less_is (c ∷ cs) longest = breaks (whole token.Less) c cs (rw (isnt_eq c 62 (λ is. long 62 token.Unequal is (of.of_mark (11, omega arith, refl))), isnt_eq c 61 (λ is. long 61 token.AtMost is (of.of_mark (12, omega arith, refl)))) refl)
  where
    long : (d : ℕ) (t : Token) → c ≡ d → IsToken (60 ∷ d ∷ []) t → ⊥
    long d t is mark = let len : 2 ≤ 1 = longest (60 ∷ d ∷ []) cs t (ap (λ (x : ℕ). 60 ∷ x ∷ cs) (sym is)) mark in absurd (omega (arith, len))

greater_is : (rest : List ℕ) → Longest (62 ∷ []) rest → tokens (62 ∷ rest) ≡ token.Greater ∷ tokens rest
greater_is [] longest = refl
greater_is (c ∷ cs) longest = breaks (whole token.Greater) c cs (rw (isnt_eq c 61 long) refl)
  where
    long : c ≡ 61 → ⊥
    long is = let len : 2 ≤ 1 = longest (62 ∷ 61 ∷ []) cs token.AtLeast (ap (λ (x : ℕ). 62 ∷ x ∷ cs) (sym is)) (of.of_mark (13, omega arith, refl)) in absurd (omega (arith, len))

-- a mark is read as its token
abbrev IsRead : List ℕ × Token → Type 0
IsRead m = (rest : List ℕ) → Longest m.0 rest → tokens (m.0 ++ rest) ≡ m.1 ∷ tokens rest

marks_are : Each IsRead marks
marks_are = (
  less_is,
  (
    greater_is,
    (
      λ rest longest. whole_run token.Open rest (λ b. refl),
      (
        λ rest longest. whole_run token.Close rest (λ b. refl),
        (
          λ rest longest. whole_run token.Comma rest (λ b. refl),
          (
            λ rest longest. whole_run token.Semicolon rest (λ b. refl),
            (
              λ rest longest. whole_run token.Star rest (λ b. refl),
              (
                λ rest longest. whole_run token.Equal rest (λ b. refl),
                (
                  λ rest longest. whole_run token.Percent rest (λ b. refl),
                  (
                    λ rest longest. whole_run token.Plus rest (λ b. refl),
                    (
                      λ rest longest. whole_run token.Minus rest (λ b. refl),
                      (λ rest longest. whole_run token.Unequal rest (λ b. refl), (λ rest longest. whole_run token.AtMost rest (λ b. refl), (λ rest longest. whole_run token.AtLeast rest (λ b. refl), tt))),
                    ),
                  ),
                ),
              ),
            ),
          ),
        ),
      ),
    ),
  ),
)

-- a token that is as long as it can be is read first
pub first_is : {front : List ℕ} {t : Token} (rest : List ℕ) → IsToken front t → Longest front rest → tokens (front ++ rest) ≡ t ∷ tokens rest
first_is rest (of.of_letters {b} {bs} all) longest = word_is b bs rest all longest
first_is rest (of.of_digits {b} {bs} all) longest = number_is b bs rest all longest
first_is rest (of.of_mark mark) longest = each_of IsRead marks marks_are mark rest longest

-- the tokens that a text has are read from it
pub are_read : {text : List ℕ} {ts : List Token} → AreTokens text ts → tokens text ≡ ts
are_read of.none_left = refl
are_read (of.blank_first {b} {bs} is others) = blank_begins b bs (sym is) ∙ are_read others
are_read (of.token_first {rest} {t} is longest others) = first_is rest is longest ∙ ap (λ (ts : List Token). t ∷ ts) (are_read others)

-- none of them is unknown
word_known : (text : List ℕ) → is_known (word_token text) ≡ true
word_known text = at (word_named text) (is_table_name text)
  where
    at : (word : Option Word) (named : Bool) → is_known (unwrap_or (option_map (λ w. token.Word w) word) (cond named (token.Name text) token.OtherWord)) ≡ true
    at (Some w) named = refl
    at None true = refl
    at None false = refl

token_known : {front : List ℕ} {t : Token} → IsToken front t → is_known t ≡ true
token_known (of.of_letters {b} {bs} all) = word_known (map to_ascii_lowercase (b ∷ bs))
token_known (of.of_digits all) = refl
token_known (of.of_mark mark) = passes (λ m. is_known m.1) marks refl mark

pub are_known : {text : List ℕ} {ts : List Token} → AreTokens text ts → list_all is_known ts ≡ true
are_known of.none_left = refl
are_known (of.blank_first is others) = are_known others
are_known (of.token_first {t} {ts} is longest others) = and_from (is_known t) (list_all is_known ts) (token_known is) (are_known others)
