-- The statements of the grammar are no deeper than they may be.
use Rattle.lab_statement.proofs.Common.{◌≡◌, ℕ, suc, ◌≤◌, Bool, true, false, List, Option, refl, arith, ◌||◌, Predicate, Statement, Token, Kind, P, A, N, IsAtom, IsPred, IsWhere, IsStatement, is_and, is_or, deeper, depth_of, where_depth, statement_depth}
use Rattle.lab_statement.specs.Grammar as grammar

-- how deep a predicate of a kind is where it stands as such
abbrev depth_as : Kind → Predicate → ℕ
depth_as N p = deeper (is_and p || is_or p) (depth_of p)
depth_as A p = deeper (is_or p) (depth_of p)
depth_as P p = depth_of p

less_deep : (b c : Bool) (d e : ℕ) → deeper (b || c) d ≤ e → deeper c d ≤ e
less_deep true true d e le = le
less_deep true false d e le = omega (arith, le)
less_deep false c d e le = le

not_deep : (b : Bool) (d e : ℕ) → deeper b d ≤ e → d ≤ e
not_deep true d e le = omega (arith, le)
not_deep false d e le = le

-- a pair of parentheses is one more
one_deeper : (b : Bool) (d e : ℕ) → d ≤ e → deeper b d ≤ suc e
one_deeper true d e le = omega (arith, le)
one_deeper false d e le = omega (arith, le)

atom_shallow : {ts : List Token} {p : Predicate} → IsAtom ts p → depth_as N p ≡ 0
atom_shallow (grammar.compare c m h) = refl
atom_shallow (grammar.one_of c h) = refl
atom_shallow (grammar.remainder c h low high i) = refl

-- a predicate under which this many parentheses and nots may be open has no more in its printed form
pub shallow : {d : ℕ} {kind : Kind} {ts : List Token} {p : Predicate} → IsPred d kind ts p → depth_as kind p ≤ d
shallow (grammar.atom h) = omega (arith, atom_shallow h)
shallow (grammar.negation h) = let inner = shallow h in omega (arith, inner)
shallow (grammar.parenthesized {d} {p} h) = one_deeper (is_and p || is_or p) (depth_of p) d (shallow h)
shallow (grammar.one_factor {d} {p} h) = less_deep (is_and p) (is_or p) (depth_of p) d (shallow h)
shallow (grammar.conjunction h i) = let left = shallow h in let right = shallow i in omega (arith, left, right)
shallow (grammar.one_member {d} {p} h) = not_deep (is_or p) (depth_of p) d (shallow h)
shallow (grammar.disjunction h i) = let left = shallow h in let right = shallow i in omega (arith, left, right)

where_shallow : {ts : List Token} {p : Option Predicate} → IsWhere ts p → where_depth p ≤ 16
where_shallow grammar.without = omega arith
where_shallow (grammar.where_pred h) = shallow h

-- a statement of the grammar is no deeper than it may be
pub statement_shallow : {ts : List Token} {s : Statement} → IsStatement ts s → statement_depth s ≤ 16
statement_shallow (grammar.select table h) = where_shallow h
statement_shallow (grammar.update table g h) = where_shallow h
statement_shallow (grammar.insert table h) = omega arith
statement_shallow (grammar.delete table h) = where_shallow h
