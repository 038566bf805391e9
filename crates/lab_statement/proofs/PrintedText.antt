-- Printed text, read from the left: its tokens, and that all of it is code.
use Rattle.lab_statement.proofs.Common.{◌≡◌, ℕ, Bool, true, false, cond, List, [], ◌∷◌, ◌++◌, Some, None, refl, sym, ap, ◌∙◌, append_assoc, subst, drop, not, ◌&&◌, ◌==◌, list_all, to_ascii_lowercase, is_ascii_digit, append-nil, list_all-append, not-true, and_from, and_parts, Token, letters, whole, is_letter, word_token, tokens, tokens_from, longer_token, begins_remark, code_of, remark_of, is_code_byte}
use Rattle.lab_statement.specs.declared.token.Token.TheVariants as token
use Rattle.lab_statement.proofs.Tokens.{breaks, whole_run}

-- no letter and no digit stands here, so that a word or a number before it ends
abbrev pub breaks_here : List ℕ → Bool
breaks_here [] = true
breaks_here (b ∷ bs) = not (is_letter b) && not (is_ascii_digit b)

-- a byte that is neither a letter nor a digit
both : (v w : Bool) → (not v && not w) ≡ true → (v ≡ false) × (w ≡ false)
both false false h = (refl, refl)
both false true h = absurd cc
both true w h = absurd cc

-- a word ends before what breaks it
pub word_ends : (word rest : List ℕ) → breaks_here rest ≡ true → tokens_from (letters word) rest ≡ word_token word ∷ tokens rest
word_ends word [] h = refl
word_ends word (b ∷ bs) h =
    breaks (letters word) b bs (ap (λ (v : Bool). cond v (Some (letters (word ++ to_ascii_lowercase b ∷ []))) None) (both (is_letter b) (is_ascii_digit b) h).0)

-- a number ends before what breaks it
pub number_ends : (n : ℕ) (rest : List ℕ) → breaks_here rest ≡ true → tokens_from (whole (token.Digits n)) rest ≡ token.Digits n ∷ tokens rest
number_ends n [] h = refl
number_ends n (b ∷ bs) h = rw (both (is_letter b) (is_ascii_digit b) h).1 refl

-- a byte that is printed in a line's code and is no dash
abbrev pub is_plain : ℕ → Bool
is_plain b = is_code_byte b && not (b == 45)

-- the text is code, and no remark begins in it
pub record Plain (text : List ℕ) : Type 0 where
  pub ascii : list_all is_code_byte text ≡ true
  pub code : (rest : List ℕ) → code_of (text ++ rest) ≡ text ++ code_of rest
  pub remark : (rest : List ℕ) → remark_of (text ++ rest) ≡ remark_of rest

-- a plain byte is no dash
pub plain_no_dash : (b : ℕ) (more : Bool) → (is_plain b && more) ≡ true → (b == 45) ≡ false
plain_no_dash b more h = not-true (b == 45) (and_parts (is_code_byte b) (not (b == 45)) (and_parts (is_plain b) more h).0).1

-- no remark begins at a byte that is no dash
no_remark : (b : ℕ) (rest : List ℕ) → (b == 45) ≡ false → begins_remark (b ∷ rest) ≡ false
no_remark b [] h = refl
no_remark b (c ∷ rest) h = rw h refl

-- no text is code
pub empty_plain : Plain []
empty_plain = record { ascii = refl; code = λ rest. refl; remark = λ rest. refl }

-- one more byte in front, at which no remark begins
front_plain : (b : ℕ) (text : List ℕ) → is_code_byte b ≡ true → ((rest : List ℕ) → begins_remark (b ∷ text ++ rest) ≡ false) → Plain text → Plain (b ∷ text)
front_plain b text ascii none p = record {
  ascii = and_from (is_code_byte b) (list_all is_code_byte text) ascii p.ascii;
  code = λ rest. ap (λ (v : Bool). cond v [] (b ∷ code_of (text ++ rest))) (none rest) ∙ ap (λ (x : List ℕ). b ∷ x) (p.code rest);
  remark = λ rest. ap (λ (v : Bool). cond v (drop 1 (text ++ rest)) (remark_of (text ++ rest))) (none rest) ∙ p.remark rest;
}

-- plain bytes are code
pub all_plain : (text : List ℕ) → list_all is_plain text ≡ true → Plain text
all_plain [] h = empty_plain
all_plain (b ∷ text) h =
    let parts = and_parts (is_plain b) (list_all is_plain text) h in
    let byte = and_parts (is_code_byte b) (not (b == 45)) parts.0 in
    front_plain b text byte.0 (λ rest. no_remark b (text ++ rest) (not-true (b == 45) byte.1)) (all_plain text parts.1)

-- a dash before a byte that is none
pub dash_plain : (b : ℕ) (text : List ℕ) → (b == 45) ≡ false → Plain (b ∷ text) → Plain (45 ∷ b ∷ text)
dash_plain b text h p = front_plain 45 (b ∷ text) refl (λ rest. h) p

-- two texts of code bytes
pub append_ascii : (a b : List ℕ) → list_all is_code_byte a ≡ true → list_all is_code_byte b ≡ true → list_all is_code_byte (a ++ b) ≡ true
append_ascii a b p q = list_all-append is_code_byte a b ∙ and_from (list_all is_code_byte a) (list_all is_code_byte b) p q

-- two texts that are code
pub append_plain : (a b : List ℕ) → Plain a → Plain b → Plain (a ++ b)
append_plain a b p q = record {
  ascii = append_ascii a b p.ascii q.ascii;
  code = λ rest. ap code_of (append_assoc a b rest) ∙ p.code (b ++ rest) ∙ ap (λ (x : List ℕ). a ++ x) (q.code rest) ∙ sym (append_assoc a b (code_of rest));
  remark = λ rest. ap remark_of (append_assoc a b rest) ∙ p.remark (b ++ rest) ∙ q.remark rest;
}

-- all of the text is code
pub plain_code : (text : List ℕ) → Plain text → code_of text ≡ text
plain_code text p = ap code_of (sym (append-nil text)) ∙ p.code [] ∙ append-nil text

-- the text has these tokens, whatever follows it, and is code
pub record Leads (text : List ℕ) (ts : List Token) : Type 0 where
  pub is : (rest : List ℕ) → tokens (text ++ rest) ≡ ts ++ tokens rest
  pub plain : Plain text

-- the text has these tokens, where a word or a number at its end is broken, and is code
pub record Reads (text : List ℕ) (ts : List Token) : Type 0 where
  pub is : (rest : List ℕ) → breaks_here rest ≡ true → tokens (text ++ rest) ≡ ts ++ tokens rest
  pub plain : Plain text

-- a text breaks the word or the number before it, where it is followed by what breaks them
abbrev pub Breaks : List ℕ → Type 0
Breaks text = (rest : List ℕ) → breaks_here rest ≡ true → breaks_here (text ++ rest) ≡ true

-- a text breaks the word or the number before it
abbrev pub Cuts : List ℕ → Type 0
Cuts text = (rest : List ℕ) → breaks_here (text ++ rest) ≡ true

-- tokens whatever follows are tokens before what breaks a word
pub leads_reads : (text : List ℕ) (ts : List Token) → Leads text ts → Reads text ts
leads_reads text ts l = record { is = λ rest h. l.is rest; plain = l.plain }

-- no text has no token
pub empty_reads : Reads [] []
empty_reads = record { is = λ rest h. refl; plain = empty_plain }

-- plain bytes with these tokens
pub literal : {text : List ℕ} {ts : List Token} → ((rest : List ℕ) → tokens (text ++ rest) ≡ ts ++ tokens rest) → list_all is_plain text ≡ true → Leads text ts
literal {text} is plain = record { is = is; plain = all_plain text plain }

-- the tokens of one text behind another
behind : (a b rest : List ℕ) (ts us : List Token) → tokens (a ++ (b ++ rest)) ≡ ts ++ tokens (b ++ rest) → tokens (b ++ rest) ≡ us ++ tokens rest → tokens ((a ++ b) ++ rest) ≡ (ts ++ us) ++ tokens rest
behind a b rest ts us first second = ap tokens (append_assoc a b rest) ∙ first ∙ ap (λ (x : List Token). ts ++ x) second ∙ sym (append_assoc ts us (tokens rest))

-- a text that has its tokens whatever follows, and then another
pub leads_then : {a b : List ℕ} {ts us : List Token} → Leads a ts → Reads b us → Reads (a ++ b) (ts ++ us)
leads_then {a} {b} {ts} {us} l r = record { is = λ rest h. behind a b rest ts us (l.is (b ++ rest)) (r.is rest h); plain = append_plain a b l.plain r.plain }

-- a text, and then another that breaks a word or a number at its end
pub reads_then : {a b : List ℕ} {ts us : List Token} → Reads a ts → Reads b us → Breaks b → Reads (a ++ b) (ts ++ us)
reads_then {a} {b} {ts} {us} l r breaks = record { is = λ rest h. behind a b rest ts us (l.is (b ++ rest) (breaks rest h)) (r.is rest h); plain = append_plain a b l.plain r.plain }

-- two texts that have their tokens whatever follows
pub leads_leads : (a b : List ℕ) (ts us : List Token) → Leads a ts → Leads b us → Leads (a ++ b) (ts ++ us)
leads_leads a b ts us l r = record { is = λ rest. behind a b rest ts us (l.is (b ++ rest)) (r.is rest); plain = append_plain a b l.plain r.plain }

-- a text that cuts the word or the number before it, and has its tokens whatever follows
pub cut_leads : (a b : List ℕ) (ts us : List Token) → Reads a ts → Cuts b → Leads b us → Leads (a ++ b) (ts ++ us)
cut_leads a b ts us r cuts l = record { is = λ rest. behind a b rest ts us (r.is (b ++ rest) (cuts rest)) (l.is rest); plain = append_plain a b r.plain l.plain }

-- two texts, and between them a third that cuts the first and has its tokens whatever follows
pub reads_between : {a middle b : List ℕ} {ts ms us : List Token} → Reads a ts → Leads middle ms → Cuts middle → Reads b us → Reads (a ++ middle ++ b) (ts ++ (ms ++ us))
reads_between {a} {middle} {b} {ts} {ms} {us} r m cuts s = subst (Reads (a ++ middle ++ b)) (append_assoc ts ms us) (leads_then (cut_leads a middle ts ms r cuts m) s)

-- a mark that no byte makes longer, and that begins no remark
pub mark_leads : (b : ℕ) (t : Token) → ((rest : List ℕ) → tokens (b ∷ rest) ≡ tokens_from (whole t) rest) → ((n : ℕ) → longer_token t n ≡ None) → list_all is_plain (b ∷ []) ≡ true → Leads (b ∷ []) (t ∷ [])
mark_leads b t begins still = literal (λ rest. begins rest ∙ whole_run t rest still)

-- the tokens of a whole text
pub reads_all : (text : List ℕ) (ts : List Token) → Reads text ts → tokens text ≡ ts
reads_all text ts r = ap tokens (sym (append-nil text)) ∙ r.is [] refl ∙ append-nil ts
