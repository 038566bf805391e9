-- Printed numbers: their tokens, and that all of them is code.
use Rattle.lab_statement.proofs.Common.{◌≡◌, ℕ, zero, suc, ◌/◌, ◌%◌, ◌≤◌, ◌<◌, Bool, true, false, cond, List, [], ◌∷◌, ◌++◌, length, refl, ap, ◌∙◌, arith, subst, ◌&&◌, ◌==◌, ℤ, pos, negsuc, ◌-ℤ◌, codes, list_all, digits, digits_onto, digit_glyph, decimal, signed_decimal, nat_tests, decimal_nonempty, Token, IsNumber, IsNumberList, joined, printed_numbers, Each, ValueInRange, ◌+◌, ◌-◌, ◌*◌, append_assoc, decimal_by_steps, is_ascii_digit, whole, is_letter, is_blank, with_digit, tokens, tokens_from}
use Rattle.std.proofs.lemmas.Int.{ints}
use Rattle.lab_statement.specs.declared.token.Token.TheVariants as token
use Rattle.lab_statement.specs.Grammar as grammar
use Rattle.lab_statement.proofs.Tokens.{whole_run}
use Rattle.lab_statement.proofs.PrintedText.{is_plain, Plain, all_plain, dash_plain, plain_no_dash, Reads, Leads, literal, empty_reads, reads_between, number_ends}

-- a digit is one, and neither a letter nor a blank
one_digit : (d : ℕ) → d < 10 → is_ascii_digit (48 + d) ≡ true
one_digit d lt = grind (arith, nat_tests)

no_letter : (d : ℕ) → d < 10 → is_letter (48 + d) ≡ false
no_letter d lt = grind (arith, nat_tests)

no_blank : (d : ℕ) → d < 10 → is_blank (48 + d) ≡ false
no_blank d lt = grind (arith, nat_tests)

-- a digit behind a number
longer_number : (m d n : ℕ) (bs : List ℕ) → d < 10 → n ≡ 10 * m + d → n ≤ 1000000000 → tokens_from (whole (token.Digits m)) ((48 + d) ∷ bs) ≡ tokens_from (whole (token.Digits n)) bs
longer_number m d n bs lt is le =
    let value : with_digit m (48 + d) ≡ n = omega arith in
    rw (one_digit d lt, value) refl

-- a printed number goes on as a number that has been read
decimal_are : (n : ℕ) (bs : List ℕ) → n ≤ 1000000000 → tokens (decimal n ++ bs) ≡ tokens_from (whole (token.Digits n)) bs
decimal_are n bs le = decimal_by_steps (λ m ds. m ≤ 1000000000 → (rest : List ℕ) → tokens (ds ++ rest) ≡ tokens_from (whole (token.Digits m)) rest)
    (λ d lt small rest.
    let value : (48 + d) - 48 ≡ d = omega arith in
    rw (no_blank d lt, no_letter d lt, one_digit d lt, value) refl)
    (λ m ds ten so_far small rest.
    ap tokens (append_assoc ds ((48 + m % 10) ∷ []) rest) ∙ so_far (omega arith) ((48 + m % 10) ∷ rest) ∙ longer_number (m / 10) (m % 10) m rest (omega arith) (omega arith) small)
    n (omega arith) le bs

-- the tokens of a printed number
abbrev pub number_tokens : ℤ → List Token
number_tokens (pos n) = token.Digits n ∷ []
number_tokens (negsuc n) = token.Minus ∷ token.Digits (suc n) ∷ []

-- zero less a number
negated : (n : ℕ) → pos 0 -ℤ pos (suc n) ≡ negsuc n
negated n = omega (arith, ints)

-- the tokens of a printed number are in the grammar
pub number_fits : (z : ℤ) → ValueInRange z → IsNumber (number_tokens z) z
number_fits (pos n) r = grammar.positive n (omega (arith, ints))
number_fits (negsuc n) r = subst (IsNumber (number_tokens (negsuc n))) (negated n) (grammar.negative (suc n) (omega (arith, ints)))

-- a digit is plain
glyph_plain : (d : ℕ) → d < 10 → is_plain (digit_glyph false d) ≡ true
glyph_plain d lt = grind (arith, nat_tests)

-- digits in front of plain bytes are plain
onto_plain : (k n : ℕ) (acc : List ℕ) → list_all is_plain acc ≡ true → list_all is_plain (digits_onto k 10 false n acc) ≡ true
onto_plain zero n acc h = h
onto_plain (suc k) n acc h =
    let more : list_all is_plain (digit_glyph false (n % 10) ∷ acc) ≡ true = ap (λ (v : Bool). v && list_all is_plain acc) (glyph_plain (n % 10) (omega arith)) ∙ h in
    elim (n / 10 == 0) as (λ v. list_all is_plain (cond v (digit_glyph false (n % 10) ∷ acc) (digits_onto k 10 false (n / 10) (digit_glyph false (n % 10) ∷ acc))) ≡ true) [
      | true ↦ more
      | false ↦ onto_plain k (n / 10) (digit_glyph false (n % 10) ∷ acc) more
    ]

digits_plain : (n : ℕ) → list_all is_plain (decimal n) ≡ true
unfolding digits
digits_plain n = onto_plain 64 n [] refl

-- all of a printed number without a sign is code
pub decimal_plain : (n : ℕ) → Plain (decimal n)
decimal_plain n = all_plain (decimal n) (digits_plain n)

-- a dash before plain bytes
minus_plain : (text : List ℕ) → 0 < length text → list_all is_plain text ≡ true → Plain (45 ∷ text)
minus_plain [] long h = absurd (omega (arith, long))
minus_plain (b ∷ text) long h = dash_plain b text (plain_no_dash b (list_all is_plain text) h) (all_plain (b ∷ text) h)

-- a printed number without a sign has its token
pub decimal_reads : (n : ℕ) → n ≤ 1000000000 → Reads (decimal n) (token.Digits n ∷ [])
decimal_reads n le = record { is = λ rest h. decimal_are n rest le ∙ number_ends n rest h; plain = decimal_plain n }

-- a printed number has its tokens
pub number_reads : (z : ℤ) → ValueInRange z → Reads (signed_decimal z) (number_tokens z)
number_reads (pos n) r = decimal_reads n (omega (arith, ints))
number_reads (negsuc n) r = record {
  is = λ rest h. whole_run token.Minus (decimal (suc n) ++ rest) (λ b. refl) ∙ ap (λ (ts : List Token). token.Minus ∷ ts) ((decimal_reads (suc n) (omega (arith, ints))).is rest h);
  plain = minus_plain (decimal (suc n)) (decimal_nonempty (suc n) (omega (arith, ints))) (digits_plain (suc n));
}

-- the tokens of numbers with commas between them
abbrev pub list_tokens : List ℤ → List Token
list_tokens [] = []
list_tokens (z ∷ []) = number_tokens z
list_tokens (z ∷ y ∷ zs) = number_tokens z ++ token.Comma ∷ list_tokens (y ∷ zs)

-- a comma between two numbers or rows
pub comma_leads : Leads (codes ", ") (token.Comma ∷ [])
comma_leads = literal (λ rest. refl) refl

-- a printed list of numbers has its tokens
pub list_reads : (zs : List ℤ) → Each ValueInRange zs → Reads (joined (printed_numbers zs)) (list_tokens zs)
list_reads [] r = empty_reads
list_reads (z ∷ []) r = number_reads z r.0
list_reads (z ∷ y ∷ zs) r = reads_between (number_reads z r.0) comma_leads (λ rest. refl) (list_reads (y ∷ zs) r.1)

-- the tokens of a printed list of numbers are in the grammar
pub list_fits : (zs : List ℤ) → Each ValueInRange zs → IsNumberList (list_tokens zs) zs
list_fits [] r = grammar.none
list_fits (z ∷ []) r = grammar.last (number_fits z r.0)
list_fits (z ∷ y ∷ zs) r = grammar.more (number_fits z r.0) (list_fits (y ∷ zs) r.1)
