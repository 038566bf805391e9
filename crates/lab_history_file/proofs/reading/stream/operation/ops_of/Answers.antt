use Rattle.std.proofs.Common.{◌≡◌, ◌∷◌, sym, subst, arith}
use Rattle.json.specs.Token.{Token}
use Rattle.lab_history_file.{specs.{FileOf.{IsListOf, IsOperation}, Spelled.{PassesEach, Spelled}}, proofs.TokensSpell.{each_none, each_more, each_listed, each_smaller}}
use Rattle.lab_history_file.proofs.reading.stream.operation.ops_of.Goals as goal

pub ops-init : goal.ops-init
ops-init c =
    let inside = c.open_list.new.self in
    let Is = IsOperation c.args.version in
    (inside, c.in_ok-open_list.ensures, subst (PassesEach 4 Is inside inside) (sym c.new-ops.ensures.items) (each_none 4 Is inside))

pub ops-preserved : goal.ops-preserved
ops-preserved c =
    let l = c.ops in
    let new = c.op_of.new.cursor in
    let op = c.in_ok-op.op in
    let Is = IsOperation c.args.version in
    let same : c.list_ends.new.self ≡ l.cursor = grind arith in
    let read = subst (λ ts. Spelled 4 Is ts new op) same c.in_ok-op.ensures in (
      l.invariant.0,
      l.invariant.1,
      subst (PassesEach 4 Is l.invariant.0 new) (sym c.in_ok-push.ensures.items) (each_more 4 Is l.invariant.0 l.cursor new l.ops.items op l.invariant.2 read),
    )

pub ops-smaller : goal.ops-smaller
ops-smaller c =
    let l = c.ops in
    let new = c.op_of.new.cursor in
    let Is = IsOperation c.args.version in
    let same : c.list_ends.new.self ≡ l.cursor = grind arith in
    each_smaller 4 Is l.cursor new c.in_ok-op.op (subst (λ ts. Spelled 4 Is ts new c.in_ok-op.op) same c.in_ok-op.ensures)

pub returns : goal.returns
returns c =
    let l = c.ops in
    let ends : l.cursor ≡ Token.end_array ∷ c.list_ends.new.self = grind arith in
    subst (Spelled 5 (IsListOf (IsOperation c.args.version)) c.args.cursor.now c.list_ends.new.self) (sym c.new.ensures)
    (each_listed 4 (IsOperation c.args.version) c.args.cursor.now l.invariant.0 l.cursor c.list_ends.new.self l.ops.items l.invariant.1 l.invariant.2 ends)
