-- A lemma: a fact about the part of a script that was read holds for the whole script.
use Rattle.std.proofs.Common.{inl, inr, ℕ, List}
use Rattle.lab_engine.specs.declared.event.Level.{Level}
use Rattle.lab_streams.specs.Input.{read_of}
use Rattle.lab_streams.specs.declared.ending.Ending.{Ending}
use Rattle.lab_streams.specs.declared.reporting.Format.TheVariants.{Lines}
use Rattle.lab_commands.specs.ReadScripts.{refused_whole, spelled_whole}
use Rattle.lab_compare.specs.Answer.{IsCompareAnswer}

pub compare_whole : (levels : List Level) (input text : List ℕ) (ending : Ending) → IsCompareAnswer levels (read_of input) text ending → IsCompareAnswer levels input text ending
compare_whole levels input text ending (inl c) =
    inl (record { script = c.script; spelled = spelled_whole input c.script c.spelled; sides = c.sides; are_sides = c.are_sides; text_is = c.text_is; done = c.done })
compare_whole levels input text ending (inr (inl r)) = inr (inl (refused_whole Lines input text ending r))
compare_whole levels input text ending (inr (inr u)) = inr (inr (record {
  script = u.script;
  spelled = spelled_whole input u.script u.spelled;
  fault = u.fault;
  told_why = u.told_why;
  first = u.first;
  text_is = u.text_is;
  refused = u.refused;
}))
