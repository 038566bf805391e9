-- Printed predicates have their tokens.
use Rattle.lab_statement.proofs.Common.{ℕ, Bool, true, false, List, [], ◌∷◌, ◌++◌, refl, arith, ◌||◌, codes, Predicate, Col, Cmp, Token, col_token, cmp_token, printed_col, printed_cmp, parenthesized, is_or, is_and, printed_pred, PredInRange}
use Rattle.lab_table.specs.Predicate as predicate
use Rattle.lab_table.specs.declared.predicate.Col.TheVariants as col
use Rattle.lab_table.specs.declared.predicate.Cmp.TheVariants as cmp
use Rattle.lab_table.specs.declared.word.Word.TheVariants as word
use Rattle.lab_statement.specs.declared.token.Token.TheVariants as token
use Rattle.lab_statement.proofs.PrintedTokens.{wrapped, pred_tokens}
use Rattle.lab_statement.proofs.PrintedText.{all_plain, Leads, Reads, Cuts, literal, word_ends, leads_reads, leads_leads, leads_then, cut_leads, reads_between, mark_leads}
use Rattle.lab_statement.proofs.PrintedNumbers.{number_reads, decimal_reads, list_reads}

-- a printed column has its token
col_reads : (c : Col) → Reads (printed_col c) (col_token c ∷ [])
col_reads col.Id = record { is = λ rest h. word_ends (codes "id") rest h; plain = all_plain (codes "id") refl }
col_reads col.Value = record { is = λ rest h. word_ends (codes "value") rest h; plain = all_plain (codes "value") refl }

-- a printed comparison breaks the column before it
cmp_cuts : (m : Cmp) → Cuts (printed_cmp m)
cmp_cuts cmp.Eq rest = refl
cmp_cuts m rest = refl

-- a printed comparison has its token
cmp_leads : (m : Cmp) → Leads (printed_cmp m) (cmp_token m ∷ [])
cmp_leads cmp.Eq = literal (λ rest. refl) refl
cmp_leads m = literal (λ rest. refl) refl

-- the marks and words of a predicate have their tokens
pub open_leads : Leads (codes "(") (token.Open ∷ [])
open_leads = mark_leads 40 token.Open (λ rest. refl) (λ b. refl) refl

pub close_leads : Leads (codes ")") (token.Close ∷ [])
close_leads = mark_leads 41 token.Close (λ rest. refl) (λ b. refl) refl

-- what a closing parenthesis stands behind
pub closed_leads : {text : List ℕ} {ts : List Token} → Reads text ts → Leads (text ++ codes ")") (ts ++ token.Close ∷ [])
closed_leads {text} {ts} r = cut_leads text (codes ")") ts (token.Close ∷ []) r (λ rest. refl) close_leads

in_leads : Leads (codes " in (") (token.Word word.In ∷ token.Open ∷ [])
in_leads = leads_leads (codes " in ") (codes "(") (token.Word word.In ∷ []) (token.Open ∷ []) (literal (λ rest. refl) refl) open_leads

-- a text in parentheses, where the test is true, has its tokens
wrapped_reads : (b : Bool) {text : List ℕ} {ts : List Token} → Reads text ts → Reads (parenthesized b text) (wrapped b ts)
wrapped_reads true r = leads_reads _ _ (closed_leads (leads_then open_leads r))
wrapped_reads false r = r

-- a printed predicate has its tokens
pub pred_reads : (p : Predicate) → PredInRange p → Reads (printed_pred p) (pred_tokens p)
pred_reads (predicate.Compare c m z) h = reads_between (col_reads c) (cmp_leads m) (cmp_cuts m) (number_reads z h)
pred_reads (predicate.Remainder c m r) h =
    reads_between (reads_between (col_reads c) (literal {text = codes " % "} {ts = token.Percent ∷ []} (λ rest. refl) refl) (λ rest. refl) (decimal_reads m (omega arith)))
    (literal {text = codes " = "} {ts = token.Equal ∷ []} (λ rest. refl) refl) (λ rest. refl) (number_reads r h.1)
pred_reads (predicate.OneOf c zs) h = leads_reads _ _ (closed_leads (reads_between (col_reads c) in_leads (λ rest. refl) (list_reads zs h)))
pred_reads (predicate.Not p) h =
    leads_then (literal {text = codes "not "} {ts = token.Word word.Not ∷ []} (λ rest. refl) refl) (wrapped_reads (is_and p || is_or p) (pred_reads p h))
pred_reads (predicate.And p q) h =
    reads_between (wrapped_reads (is_or p) (pred_reads p h.0)) (literal {text = codes " and "} {ts = token.Word word.And ∷ []} (λ rest. refl) refl) (λ rest. refl)
    (wrapped_reads (is_and q || is_or q) (pred_reads q h.1))
pred_reads (predicate.Or p q) h =
    reads_between (pred_reads p h.0) (literal {text = codes " or "} {ts = token.Word word.Or ∷ []} (λ rest. refl) refl) (λ rest. refl) (wrapped_reads (is_or q) (pred_reads q h.1))
