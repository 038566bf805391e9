use Rattle.std.proofs.Common.{inl, inr, refl, rules}
use Rattle.lab_compare.proofs.comparing.TellsComparisonSubcommand.answer.Goals as goal

pub returns-in-Ok-compared : goal.returns-in-Ok-compared
returns-in-Ok-compared c =
    let found = c.in-Ok-compared.ensures.text in
    inl (record { script = c.in-Ok.script; spelled = c.in-Ok.ensures.found; sides = found.0; are_sides = found.1; text_is = found.2; done = refl })

pub returns : goal.returns
returns c =
    inr (inr (record {
      script = c.in-Ok.script;
      spelled = c.in-Ok.ensures.found;
      fault = c.in-Err-compared.fault;
      told_why = search rules;
      first = c.in-Err-compared.ensures.fault (search rules);
      text_is = c.in_ok-print_play_refusal-in-Err-compared.ensures;
      refused = refl;
    }))
