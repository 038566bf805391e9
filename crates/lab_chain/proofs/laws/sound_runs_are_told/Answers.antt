use Rattle.std.{proofs.Common.{◌≡◌, ◌≤◌, refl}, specs.Prelude.{not}}
use Rattle.lab_deps.specs.KindSets.{is_anti}
use Rattle.lab_judge.specs.Findings as found
use Rattle.lab_judge.specs.Phenomena.{is_write, is_item_anti}
use Rattle.lab_chain.proofs.{ToldLevels.{run_level}, ToldLines.{run_tells}}
use Rattle.lab_chain.proofs.laws.sound_runs_are_told.Goals as goal

pub returns-clause-g0 : goal.returns-clause-g0
returns-clause-g0 c = λ ps first others sound.
    run_tells (λ l. l.g0) (λ a b. refl) refl (λ r. found.g0 r.phenomena) (λ name r. refl) (λ k. not (is_write k)) (λ n. n ≡ 0) (λ h r judges. judges.0) ps first others sound

pub returns-clause-g1c : goal.returns-clause-g1c
returns-clause-g1c c = λ ps first others sound.
    run_tells (λ l. l.g1c) (λ a b. refl) refl (λ r. found.g1c r.phenomena) (λ name r. refl) is_anti (λ n. n ≡ 0) (λ h r judges. judges.3) ps first others sound

pub returns-clause-g_single : goal.returns-clause-g_single
returns-clause-g_single c = λ ps first others sound.
    run_tells (λ l. l.g_single) (λ a b. refl) refl (λ r. found.g_single r.phenomena) (λ name r. refl) is_anti (λ n. n ≡ 1) (λ h r judges. judges.4) ps first others sound

pub returns-clause-g2_item : goal.returns-clause-g2_item
returns-clause-g2_item c = λ ps first others sound.
    run_tells (λ l. l.g2_item) (λ a b. refl) refl (λ r. found.g2_item r.phenomena) (λ name r. refl) is_item_anti (λ n. 1 ≤ n) (λ h r judges. judges.5) ps first others sound

pub returns-clause-g2 : goal.returns-clause-g2
returns-clause-g2 c = λ ps first others sound.
    run_tells (λ l. l.g2) (λ a b. refl) refl (λ r. found.g2 r.phenomena) (λ name r. refl) is_anti (λ n. 1 ≤ n) (λ h r judges. judges.6) ps first others sound

pub returns-clause-level : goal.returns-clause-level
returns-clause-level c = run_level
