use Rattle.std.proofs.Common.{refl, sym, subst}
use Rattle.lab_deps.{specs.{KindSets.{among, is_write, is_flow, is_anti, is_item_anti, is_any}, declared.kinds.TheConstants.Kinds.{WRITES, FLOW, ANTI, ITEM_ANTI}}, proofs.NamedKinds.{all_named, writes_named, flow_named, antis_named, item_antis_named}}
use Rattle.lab_judge.specs.{Openings.{AllowsAllOrNone}, Phenomena.{NoG1a, NoG1b, IsG0, IsG1c, IsGSingle, IsG2Item, IsG2}}
use Rattle.lab_judge.proofs.{OpenedWalks.{any_beside, flow_beside}, Levels.{none_aborted, none_intermediate}, Nets.{net_for}, WalkKinds.{named_circle, named_opened, found_circle, found_opened, flow_is_g1c, one_is_single, any_is_opened}}
use Rattle.lab_judge.proofs.findings.find_walks.Goals as goal

-- which kinds are allowed beside those that open a walk
pub find_opened-requires-clause-allowed : goal.find_opened-requires-clause-allowed
find_opened-requires-clause-allowed c = subst (λ opening. AllowsAllOrNone opening (among FLOW)) (sym antis_named) (subst (AllowsAllOrNone is_anti) (sym flow_named) flow_beside)

pub find_opened-requires-2-clause-allowed : goal.find_opened-requires-2-clause-allowed
find_opened-requires-2-clause-allowed c = subst (AllowsAllOrNone (among ITEM_ANTI)) (sym all_named) (any_beside (among ITEM_ANTI))

pub find_opened-requires-3-clause-allowed : goal.find_opened-requires-3-clause-allowed
find_opened-requires-3-clause-allowed c = subst (AllowsAllOrNone (among ANTI)) (sym all_named) (any_beside (among ANTI))

pub returns : goal.returns
returns c = λ h sound of.
    let aborted : NoG1a h = none_aborted h sound in
    let intermediate : NoG1b h = none_intermediate h sound in
    let g0 = found_circle h is_write (IsG0 h) (λ es. (λ w. w, λ w. w)) _ (named_circle h writes_named _ (c.in_ok-g0.ensures h (net_for (among WRITES) of))) in
    let g1c = found_circle h is_flow (IsG1c h) (flow_is_g1c h) _ (named_circle h flow_named _ (c.in_ok-g1c.ensures h (net_for (among FLOW) of))) in
    let g_single = found_opened h is_anti is_flow (IsGSingle h) (one_is_single h) _ (named_opened h antis_named flow_named _ (c.in_ok-g_single.ensures h of)) in
    let g2_item = found_opened h is_item_anti is_any (IsG2Item h) (any_is_opened h is_item_anti) _ (named_opened h item_antis_named all_named _ (c.in_ok-g2_item.ensures h of)) in
    let g2 = found_opened h is_anti is_any (IsG2 h) (any_is_opened h is_anti) _ (named_opened h antis_named all_named _ (c.in_ok-g2.ensures h of)) in (
      (g0.0, aborted, intermediate, g1c.0, g_single.0, g2_item.0, g2.0, c.grade_of-level.ensures h aborted intermediate g0.0 g1c.0 g2_item.0 g2.0),
      record { seven = refl; g0 = g0.1; g1c = g1c.1; g_single = g_single.1; g2_item = g2_item.1; g2 = g2.1 },
    )
