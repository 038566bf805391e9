-- No token of a statement is unknown, so its tokens are those that its text has.
use Rattle.lab_statement.proofs.Common.{◌≡◌, ℕ, true, false, List, [], ◌∷◌, ◌++◌, refl, sym, ap, subst, ◌∙◌, list_all, list_all-append, and_from, and_parts, ℤ, Option, false≢true, Predicate, Statement, Expr, Col, Cmp, Token, Kind, is_known, col_token, cmp_token, tokens, IsNumber, IsNumberList, IsAtom, IsPred, IsWhere, IsExpr, IsId, IsRow, IsStatement, IsEnd, IsWholeStatement, HasWhere, BeginsLongStatement, SpellsStatement}
use Rattle.lab_table.specs.declared.word.Word.TheVariants as word
use Rattle.lab_statement.specs.declared.token.Token.TheVariants as token
use Rattle.lab_table.specs.declared.predicate.Col.TheVariants as col
use Rattle.lab_table.specs.declared.predicate.Cmp.TheVariants as cmp
use Rattle.lab_statement.specs.Grammar as grammar
use Rattle.lab_statement.specs.TokensOf.{AreTokens}
use Rattle.lab_statement.proofs.LongestTokens.{are_read}
use Rattle.lab_statement.proofs.FirstTokens.{known_are}

-- all tokens are of the grammar
abbrev AreKnown : List Token → Type 0
AreKnown ts = list_all is_known ts ≡ true

both : (ts us : List Token) → AreKnown ts → AreKnown us → AreKnown (ts ++ us)
both ts us known others = list_all-append is_known ts us ∙ and_from (list_all is_known ts) (list_all is_known us) known others

number_known : {ts : List Token} {z : ℤ} → IsNumber ts z → AreKnown ts
number_known (grammar.positive n le) = refl
number_known (grammar.negative n le) = refl

numbers_known : {ts : List Token} {zs : List ℤ} → IsNumberList ts zs → AreKnown ts
numbers_known grammar.none = refl
numbers_known (grammar.last is) = number_known is
numbers_known (grammar.more {ts} {rest} is others) = both ts (token.Comma ∷ rest) (number_known is) (numbers_known others)

col_known : (c : Col) → is_known (col_token c) ≡ true
col_known col.Id = refl
col_known col.Value = refl

cmp_known : (m : Cmp) → is_known (cmp_token m) ≡ true
cmp_known cmp.Eq = refl
cmp_known cmp.Ne = refl
cmp_known cmp.Lt = refl
cmp_known cmp.Le = refl
cmp_known cmp.Gt = refl
cmp_known cmp.Ge = refl

atom_known : {ts : List Token} {p : Predicate} → IsAtom ts p → AreKnown ts
atom_known (grammar.compare {ts} c m is) = and_from (is_known (col_token c)) _ (col_known c) (and_from (is_known (cmp_token m)) (list_all is_known ts) (cmp_known m) (number_known is))
atom_known (grammar.one_of {ts} c is) = and_from (is_known (col_token c)) _ (col_known c) (both ts (token.Close ∷ []) (numbers_known is) refl)
atom_known (grammar.remainder {ms} {rs} c is low high rest) = and_from (is_known (col_token c)) _ (col_known c) (both ms (token.Equal ∷ rs) (number_known is) (number_known rest))

pred_known : {d : ℕ} {kind : Kind} {ts : List Token} {p : Predicate} → IsPred d kind ts p → AreKnown ts
pred_known (grammar.atom is) = atom_known is
pred_known (grammar.negation is) = pred_known is
pred_known (grammar.parenthesized {ts} is) = both ts (token.Close ∷ []) (pred_known is) refl
pred_known (grammar.one_factor is) = pred_known is
pred_known (grammar.conjunction {ts} {rest} is others) = both ts (token.Word word.And ∷ rest) (pred_known is) (pred_known others)
pred_known (grammar.one_member is) = pred_known is
pred_known (grammar.disjunction {ts} {rest} is others) = both ts (token.Word word.Or ∷ rest) (pred_known is) (pred_known others)

where_known : {ts : List Token} {p : Option Predicate} → IsWhere ts p → AreKnown ts
where_known grammar.without = refl
where_known (grammar.where_pred is) = pred_known is

expr_known : {ts : List Token} {e : Expr} → IsExpr ts e → AreKnown ts
expr_known (IsExpr.set is) = number_known is
expr_known (IsExpr.plus is) = number_known is
expr_known (IsExpr.minus is) = number_known is

id_known : {ts : List Token} {id : ℕ} → IsId ts id → AreKnown ts
id_known (grammar.named id is low high) = number_known is

row_known : {ts : List Token} {id : ℕ} {value : ℤ} → IsRow ts id value → AreKnown ts
row_known (grammar.row {is} {vs} id value) = both (token.Open ∷ is ++ token.Comma ∷ vs) (token.Close ∷ []) (both is (token.Comma ∷ vs) (id_known id) (number_known value)) refl

statement_known : {ts : List Token} {s : Statement} → IsStatement ts s → AreKnown ts
statement_known (IsStatement.select table is) = where_known is
statement_known (IsStatement.update {es} {ts} table value is) = both es ts (expr_known value) (where_known is)
statement_known (IsStatement.insert table is) = row_known is
statement_known (IsStatement.delete table is) = where_known is

end_known : {ts : List Token} → IsEnd ts → AreKnown ts
end_known grammar.open_end = refl
end_known grammar.semicolon = refl

closed : {ts end : List Token} {s : Statement} → IsStatement ts s → IsEnd end → AreKnown (ts ++ end)
closed {ts} {end} is at = both ts end (statement_known is) (end_known at)

-- what a text spells are the tokens that are read from it
pub as_whole : (text : List ℕ) (s : Statement) → SpellsStatement text s → IsWholeStatement (tokens text) s
as_whole text s spells = let parts = spells.parts in record { parts = (parts.0, parts.1, are_read parts.2, parts.3, parts.4); printed = spells.printed }

pub as_spelled : (text : List ℕ) (s : Statement) → IsWholeStatement (tokens text) s → (ts end : List Token) × AreTokens text (ts ++ end) × IsStatement ts s × IsEnd end
as_spelled text s whole =
    let parts = whole.parts in
    (parts.0, parts.1, known_are text (parts.0 ++ parts.1) parts.2 (closed parts.3 parts.4), parts.3, parts.4)

-- tokens at the front that are of the grammar stand before a last token that is none
known_before_last : (us front rest : List Token) → us ++ token.Unknown ∷ [] ≡ front ++ rest → AreKnown front → (behind : List Token) × (us ≡ front ++ behind)
known_before_last us [] rest e known = (us, refl)
known_before_last [] (v ∷ vs) rest e known = let first : token.Unknown ≡ v = cc in absurd (false≢true (ap is_known first ∙ (and_parts (is_known v) (list_all is_known vs) known).0))
known_before_last (u ∷ us) (v ∷ vs) rest e known =
    let next : us ++ token.Unknown ∷ [] ≡ vs ++ rest = cc in
    let first : u ≡ v = cc in
    let others = known_before_last us vs rest next (and_parts (is_known v) (list_all is_known vs) known).1 in
    (others.0, ap (λ (w : Token). w ∷ us) first ∙ ap (λ (ws : List Token). v ∷ ws) others.1)

-- no statement ends in a byte that begins no token
pub closed_known : (ts : List Token) (s : Statement) → IsWholeStatement (ts ++ token.Unknown ∷ []) s → ⊥
closed_known ts s whole =
    let parts = whole.parts in
    let all : AreKnown (ts ++ token.Unknown ∷ []) = subst AreKnown (sym parts.2) (closed parts.3 parts.4) in
    false≢true ((and_parts (list_all is_known ts) false (sym (list_all-append is_known ts (token.Unknown ∷ [])) ∙ all)).1)

pub long_before_last : (us : List Token) → BeginsLongStatement (us ++ token.Unknown ∷ []) → BeginsLongStatement us
long_before_last us long =
    let kept = known_before_last us long.front long.behind long.whole (statement_known long.spelled) in
    record { statement = long.statement; front = long.front; behind = kept.0; whole = kept.1; spelled = long.spelled; long = long.long }

-- behind a where nothing but the last token may be unknown
pub where_before_last : (us front rest : List Token) → us ++ token.Unknown ∷ [] ≡ front ++ token.Word word.Where ∷ rest → HasWhere us
where_before_last [] [] rest e = absurd cc
where_before_last [] (v ∷ []) rest e = absurd cc
where_before_last [] (v ∷ w ∷ ws) rest e = absurd cc
where_before_last (u ∷ us) [] rest e = let first : u ≡ token.Word word.Where = cc in ([], us, ap (λ (t : Token). t ∷ us) first)
where_before_last (u ∷ us) (v ∷ vs) rest e =
    let next : us ++ token.Unknown ∷ [] ≡ vs ++ token.Word word.Where ∷ rest = cc in
    let found = where_before_last us vs rest next in
    (u ∷ found.0, found.1, ap (λ (ts : List Token). u ∷ ts) found.2)
