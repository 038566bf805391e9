use Rattle.std.proofs.Common.{inl, inr, refl, rules}
use Rattle.lab_commands.proofs.running.TellsPlaySubcommand.answer.Goals as goal

pub returns-in-Ok-played : goal.returns-in-Ok-played
returns-in-Ok-played g c =
    let play = c.in-Ok-played.ensures.tells in
    inl (record { script = c.in-Ok.script; spelled = c.in-Ok.ensures.found; recording = play.0; played = play.1; tells = play.2 })

pub returns : goal.returns
returns g c =
    inr (inr (record {
      script = c.in-Ok.script;
      spelled = c.in-Ok.ensures.found;
      fault = c.in-Err-played.fault;
      told_why = search rules;
      faulty = c.in-Err-played.ensures.fault;
      text_is = c.in_ok-print_play_refusal-in-Err-played.ensures;
      refused = refl;
    }))
