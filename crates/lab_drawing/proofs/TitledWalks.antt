-- The title of a walk names a phenomenon that it is one of.
use Rattle.std.proofs.{Common.{◌≡◌, ℕ, zero, suc, ◌==◌, ◌≤◌, true, false, not, cond, List, refl, sym, ap, subst, arith}, lemmas.Bool.{false≢true, eqb-true}}
use Rattle.lab_history.specs.History.{History}
use Rattle.lab_deps.specs.declared.edge.Edge.{Edge}
use Rattle.lab_judge.specs.{Judgement.{IsSerialVerdict, IsExactJudgement}, Phenomena.{IsClosedWalk, count_kind, is_write, is_item_anti}, Places.{is_anti}, declared.{report.Report.{Report}, serial.Serial.TheVariants.{NoCycle}}}
use Rattle.lab_drawing.specs.{TitleLaws.{HasPhenomenon, TellsWalk}, Cycles.{walk_phenomenon}, Titles.{serial_title}}
use Rattle.lab_reports.specs.declared.phenomenon.Phenomenon.TheVariants.{G0, G1c, GSingle, G2Item, G2}

some : (n : ℕ) → (n == 0) ≡ false → 1 ≤ n
some zero is = absurd (false≢true (sym is))
some (suc n) is = omega arith

module _ (h : History) (walk : List Edge) (closed : IsClosedWalk h walk) where
  abbrev antis : ℕ
  antis = count_kind is_anti walk

  abbrev items : ℕ
  items = count_kind is_item_anti walk

  abbrev others : ℕ
  others = count_kind (λ k. not (is_write k)) walk

  without : antis ≡ 0 → HasPhenomenon h walk (cond (others == 0) G0 G1c)
  without none =
      elim (others == 0) as (λ b. (others == 0) ≡ b → HasPhenomenon h walk (cond b G0 G1c)) [
        | true ↦ λ is. (closed, eqb-true others 0 is)
        | false ↦ λ _. (closed, none)
      ] refl

  with_some : 1 ≤ antis → HasPhenomenon h walk (cond (items == 0) G2 G2Item)
  with_some any =
      elim (items == 0) as (λ b. (items == 0) ≡ b → HasPhenomenon h walk (cond b G2 G2Item)) [
        | true ↦ λ _. (closed, any)
        | false ↦ λ is. (closed, some items is)
      ] refl

  with_one : 1 ≤ antis → HasPhenomenon h walk (cond (antis == 1) GSingle (cond (items == 0) G2 G2Item))
  with_one any =
      elim (antis == 1) as (λ b. (antis == 1) ≡ b → HasPhenomenon h walk (cond b GSingle (cond (items == 0) G2 G2Item))) [
        | true ↦ λ is. (closed, eqb-true antis 1 is)
        | false ↦ λ _. with_some any
      ] refl

  is_one : HasPhenomenon h walk (walk_phenomenon walk)
  is_one =
      elim (antis == 0) as (λ b. (antis == 0) ≡ b → HasPhenomenon h walk (cond b (cond (others == 0) G0 G1c) (cond (antis == 1) GSingle (cond (items == 0) G2 G2Item)))) [
        | true ↦ λ is. without (eqb-true antis 0 is)
        | false ↦ λ is. with_one (some antis is)
      ] refl

pub title_tells : (h : History) (report : Report) (walk : List Edge) → IsExactJudgement h report → report.serial ≡ NoCycle walk → TellsWalk h walk (serial_title h report.serial)
title_tells h report walk exact is =
    let verdict = subst (IsSerialVerdict h) is exact.judgement.serial in
    record { phenomenon = walk_phenomenon walk; there = is_one h walk verdict.1; title_is = ap (serial_title h) is }
