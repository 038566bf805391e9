-- The scripts of the ten cases, line by line.
--
-- Origin: after the cases of Martin Kleppmann, "Hermitage: Testing transaction isolation levels" (2014); the listings
-- are this project's own.
use Rattle.std.specs.Prelude.{ℕ, pos, List, [], ◌∷◌, Some, None}
use Rattle.std.specs.FinMap as map
use Rattle.lab_table.specs.Row.{in_test}
use Rattle.lab_table.specs.TableName.{test_name}
use Rattle.lab_table.specs.Table.{Table}
use Rattle.lab_table.specs.Predicate.{Predicate, Compare, Remainder, OneOf}
use Rattle.lab_table.specs.declared.predicate.Col.TheVariants.{Id, Value as Column}
use Rattle.lab_table.specs.declared.predicate.Cmp.TheVariants.{Eq}
use Rattle.lab_table.specs.declared.statement.Expr.TheVariants.{Set}
use Rattle.lab_table.specs.declared.statement.StatementKind.{StatementKind}
use Rattle.lab_table.specs.declared.statement.StatementKind.TheVariants.{Select, Update, Insert}
use Rattle.lab_table.specs.declared.statement.Command.{Command}
use Rattle.lab_table.specs.declared.statement.Command.TheVariants.{Begin, Commit, Abort, Run}
use Rattle.lab_script.specs.declared.script.Line.{Line}
use Rattle.lab_script.specs.declared.script.Script.{Script}
use Rattle.lab_matrix.specs.declared.name.CaseName.{CaseName}
use Rattle.lab_matrix.specs.declared.name.CaseName.TheVariants as name

-- the table that each case begins with: (1, 10), (2, 20)
abbrev pub usual_setup : Table
usual_setup = map.insert (map.insert map.empty (in_test 1) (pos 10)) (in_test 2) (pos 20)

-- a line of the text, with a command of a session
abbrev pub line : ℕ → ℕ → Command → Line
line place session command = record { session = session; command = command; text_line = place }

-- a statement on the rows of the table test
abbrev pub on_test : StatementKind → Command
on_test kind = Run (record { table = test_name; kind = kind })

-- select * from test
abbrev pub select_all : Command
select_all = on_test (Select None)

-- select * from test where ..
abbrev pub select_where : Predicate → Command
select_where predicate = on_test (Select (Some predicate))

-- update test set value = .. where id = ..
abbrev pub update : ℕ → ℕ → Command
update id new = on_test (Update (Set (pos new)) (Some (Compare Id Eq (pos id))))

-- insert into test (id, value) values (.., ..)
abbrev pub insert : ℕ → ℕ → Command
insert id new = on_test (Insert id (pos new))

-- the listing of G0
abbrev pub g0_lines : List Line
g0_lines =
    line 2 1 Begin
    ∷ line 3 2 Begin
    ∷ line 4 1 (update 1 11)
    ∷ line 5 2 (update 1 12)
    ∷ line 6 1 (update 2 21)
    ∷ line 7 1 Commit
    ∷ line 8 2 (update 2 22)
    ∷ line 9 2 Commit
    ∷ []

-- the listing of G1a
abbrev pub g1a_lines : List Line
g1a_lines =
    line 2 1 Begin
    ∷ line 3 2 Begin
    ∷ line 4 1 (update 1 101)
    ∷ line 5 2 select_all
    ∷ line 6 1 Abort
    ∷ line 7 2 select_all
    ∷ line 8 2 Commit
    ∷ []

-- the listing of G1b
abbrev pub g1b_lines : List Line
g1b_lines =
    line 2 1 Begin
    ∷ line 3 2 Begin
    ∷ line 4 1 (update 1 101)
    ∷ line 5 2 select_all
    ∷ line 6 1 (update 1 11)
    ∷ line 7 1 Commit
    ∷ line 8 2 select_all
    ∷ line 9 2 Commit
    ∷ []

-- the listing of G1c
abbrev pub g1c_lines : List Line
g1c_lines =
    line 2 1 Begin
    ∷ line 3 2 Begin
    ∷ line 4 1 (update 1 11)
    ∷ line 5 2 (update 2 22)
    ∷ line 6 1 (select_where (Compare Id Eq (pos 2)))
    ∷ line 7 2 (select_where (Compare Id Eq (pos 1)))
    ∷ line 8 1 Commit
    ∷ line 9 2 Commit
    ∷ []

-- the listing of OTV
abbrev pub otv_lines : List Line
otv_lines =
    line 2 1 Begin
    ∷ line 3 2 Begin
    ∷ line 4 3 Begin
    ∷ line 5 1 (update 1 11)
    ∷ line 6 1 (update 2 19)
    ∷ line 7 2 (update 1 12)
    ∷ line 8 1 Commit
    ∷ line 9 3 (select_where (Compare Id Eq (pos 1)))
    ∷ line 10 2 (update 2 18)
    ∷ line 11 3 (select_where (Compare Id Eq (pos 2)))
    ∷ line 12 2 Commit
    ∷ line 13 3 (select_where (Compare Id Eq (pos 2)))
    ∷ line 14 3 (select_where (Compare Id Eq (pos 1)))
    ∷ line 15 3 Commit
    ∷ []

-- the listing of PMP
abbrev pub pmp_lines : List Line
pmp_lines =
    line 2 1 Begin
    ∷ line 3 2 Begin
    ∷ line 4 1 (select_where (Compare Column Eq (pos 30)))
    ∷ line 5 2 (insert 3 30)
    ∷ line 6 2 Commit
    ∷ line 7 1 (select_where (Remainder Column 3 (pos 0)))
    ∷ line 8 1 Commit
    ∷ []

-- the listing of P4
abbrev pub p4_lines : List Line
p4_lines =
    line 2 1 Begin
    ∷ line 3 2 Begin
    ∷ line 4 1 (select_where (Compare Id Eq (pos 1)))
    ∷ line 5 2 (select_where (Compare Id Eq (pos 1)))
    ∷ line 6 1 (update 1 11)
    ∷ line 7 2 (update 1 11)
    ∷ line 8 1 Commit
    ∷ line 9 2 Commit
    ∷ []

-- the listing of GSingle
abbrev pub g_single_lines : List Line
g_single_lines =
    line 2 1 Begin
    ∷ line 3 2 Begin
    ∷ line 4 1 (select_where (Compare Id Eq (pos 1)))
    ∷ line 5 2 (select_where (Compare Id Eq (pos 1)))
    ∷ line 6 2 (select_where (Compare Id Eq (pos 2)))
    ∷ line 7 2 (update 1 12)
    ∷ line 8 2 (update 2 18)
    ∷ line 9 2 Commit
    ∷ line 10 1 (select_where (Compare Id Eq (pos 2)))
    ∷ line 11 1 Commit
    ∷ []

-- the listing of G2Item
abbrev pub g2_item_lines : List Line
g2_item_lines =
    line 2 1 Begin
    ∷ line 3 2 Begin
    ∷ line 4 1 (select_where (OneOf Id (pos 1 ∷ pos 2 ∷ [])))
    ∷ line 5 2 (select_where (OneOf Id (pos 1 ∷ pos 2 ∷ [])))
    ∷ line 6 1 (update 1 11)
    ∷ line 7 2 (update 2 21)
    ∷ line 8 1 Commit
    ∷ line 9 2 Commit
    ∷ []

-- the listing of G2
abbrev pub g2_lines : List Line
g2_lines =
    line 2 1 Begin
    ∷ line 3 2 Begin
    ∷ line 4 1 (select_where (Remainder Column 3 (pos 0)))
    ∷ line 5 2 (select_where (Remainder Column 3 (pos 0)))
    ∷ line 6 1 (insert 3 30)
    ∷ line 7 2 (insert 4 42)
    ∷ line 8 1 Commit
    ∷ line 9 2 Commit
    ∷ []

-- the lines of a case
abbrev pub listing : CaseName → List Line
listing name.G0 = g0_lines
listing name.G1a = g1a_lines
listing name.G1b = g1b_lines
listing name.G1c = g1c_lines
listing name.Otv = otv_lines
listing name.Pmp = pmp_lines
listing name.P4 = p4_lines
listing name.GSingle = g_single_lines
listing name.G2Item = g2_item_lines
listing name.G2 = g2_lines

-- the script of a case
abbrev pub case_script : CaseName → Script
case_script case = record { setup = usual_setup; lines = listing case }
