use Rattle.std.{proofs.{Common.{◌≡◌, ℕ, ℤ, Bool, ◌||◌, w64, of_z, to_z, ap, ◌∙◌}, Math.Facts.{to_z-of_z}}, specs.List.{list_any}}
use Rattle.lab_conditions.specs.Column.{leaves, lacks_a_modulus}
use Rattle.lab_conditions.proofs.Pairs.{none_lacks, more_moduli}
use Rattle.lab_conditions.proofs.remainders.Remainders.add.Goals.{In_ok-put}
use Rattle.lab_conditions.proofs.remainders.Remainders.add.Goals as goal

-- what the pairs pass once the pair is put in
put : (c : In_ok-put) (test : ℕ × ℤ → Bool) → list_any test c.put.new.pairs.keys ≡ (list_any test c.self.inside.pairs.keys || test (c.args.modulus, c.args.rest))
put c test =
    let rest : to_z w64 (of_z w64 c.number-2.result) ≡ c.args.rest = to_z-of_z {w = w64} {z = c.number-2.result} (record { sfits = c.number-2.type_inv }) ∙ c.number-2.ensures.value in
    c.in_ok-put.ensures.ok test ∙ ap (λ m. list_any test c.self.inside.pairs.keys || test (m, to_z w64 (of_z w64 c.number-2.result))) c.number.ensures.value
    ∙ ap (λ r. list_any test c.self.inside.pairs.keys || test (c.args.modulus, r)) rest

pub invariant_of-self-in_err-put : goal.invariant_of-self-in_err-put
invariant_of-self-in_err-put c =
    ap (λ ks. lacks_a_modulus ks c.put.new.pairs.keys) c.in_ok-insert.ensures.keys
    ∙ ap (lacks_a_modulus _) c.in_err-put.ensures.err
    ∙ more_moduli c.args.modulus c.self.inside.moduli.keys c.self.inside.pairs.keys c.self.invariant

pub invariant_of-self-2 : goal.invariant_of-self-2
invariant_of-self-2 c =
    ap (λ ks. lacks_a_modulus ks c.put.new.pairs.keys) c.in_ok-insert.ensures.keys
    ∙ none_lacks c.args.modulus c.args.rest c.self.inside.moduli.keys c.self.inside.pairs.keys c.put.new.pairs.keys (put c) c.self.invariant

pub returns : goal.returns
returns c = λ n. put c (leaves n) ∙ ap (λ ps. list_any (leaves n) ps || leaves n (c.args.modulus, c.args.rest)) c.self.view_is
