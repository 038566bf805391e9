-- A run that is said to be serializable.
use Rattle.std.{proofs.{Common.{◌≡◌, ◌≢◌, ℕ, List, [], ◌∷◌, refl, sym, ap, ◌∙◌, subst}, lemmas.List.Elements.{All-nil, All-cons}}, specs.List.{All, AllZip}}
use Rattle.lab_judge.specs.{Judgement.{IsSerialVerdict}, Runs.{IsSerialRun}, declared.serial.Serial.{Serial}}
use Rattle.lab_judge.specs.declared.serial.Serial.TheVariants as serial
use Rattle.lab_parts.{specs.WholeRuns.{Ordered}, proofs.WholeOrders.{whole_serial}}
use Rattle.lab_chain.{specs.{Chain.{Part, IsPart, summary_of}, ChainLaws.{IsYesOf, IsSerialInParts}, Parts.{part_summary, serial_line}, declared.line.Line.TheVariants.{Clear}}, proofs.{FittingParts.{WasJudged, was_judged, AreFitting, fitting}, PartSummaries.{of_part}}}

-- a clear line is that of a yes
yes_is : (name : List ℕ) (s : Serial) → serial_line name s ≡ Clear → (order : List ℕ) × (s ≡ serial.Yes order)
yes_is name (serial.Yes order) clear = (order, refl)
yes_is name (serial.NoFault f) clear = absurd cc
yes_is name (serial.NoCycle walk) clear = absurd cc

part_of_yes : (p : Part) → IsPart p → (of_part p).lines.serial ≡ Clear → (o : Ordered) × IsYesOf p o
part_of_yes p is clear =
    let j : WasJudged p = was_judged (λ l. l.serial) (λ name c. absurd cc) p is clear in
    let said : (order : List ℕ) × (j.1.serial ≡ serial.Yes order) = yes_is p.name j.1.serial (sym (ap (λ o. (part_summary p.name o).lines.serial) j.2.judged) ∙ clear) in
    (record { part = j.0; order = said.0 }, (j.1, j.2, said.1))

fitting_yes : (p : Part) (ps : List Part) → All IsPart (p ∷ ps) → (summary_of (p ∷ ps)).lines.serial ≡ Clear → AreFitting (λ (o : Ordered). o.part) IsYesOf (p ∷ ps)
fitting_yes p ps all clear = fitting (λ (o : Ordered). o.part) IsYesOf (λ p o says. (says.0, says.1)) (λ l. l.serial) (λ a b. refl) (λ name row c. absurd cc) part_of_yes p ps all clear

-- the order of a yes is a serial run
yes_runs : (p : Part) (o : Ordered) → IsYesOf p o → IsSerialRun o.part o.order
yes_runs p o says = subst (IsSerialVerdict o.part) says.2 says.1.exact.judgement.serial

all_run : (ps : List Part) (os : List Ordered) → AllZip IsYesOf ps os → All (λ o. IsSerialRun o.part o.order) os
all_run [] [] each = All-nil (λ o. IsSerialRun o.part o.order)
all_run [] (o ∷ os) each = absurd each
all_run (p ∷ ps) [] each = absurd each
all_run (p ∷ ps) (o ∷ os) each = All-cons (λ o. IsSerialRun o.part o.order) o os (yes_runs p o each.0) (all_run ps os each.1)

pub serial_in_parts : (ps : List Part) → ps ≢ [] → All IsPart ps → (summary_of ps).lines.serial ≡ Clear → IsSerialInParts ps
serial_in_parts [] some all clear = absurd (some refl)
serial_in_parts (p ∷ ps) some all clear =
    let f : AreFitting (λ (o : Ordered). o.part) IsYesOf (p ∷ ps) = fitting_yes p ps all clear in
    record { first = f.first; others = f.others; yes = f.each; fit = f.fit; runs = whole_serial f.first f.others (yes_runs p f.first f.each.0) (all_run ps f.others f.each.1) f.fit }
