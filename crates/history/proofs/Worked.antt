-- The worked histories, by computation.
use Rattle.std.proofs.Common.{◌≡◌, ◌<◌, false, List, [], ◌∷◌, drop, ℤ, pos, None, refl, arith}
use Rattle.std.specs.List.{AllByRecursion}
use Rattle.table.specs.Table.{Table}
use Rattle.table.specs.Walk.{fault_of}
use Rattle.table.proofs.WalkLaw.{walk_law}
use Rattle.horizon.specs.Means.{round_down, round_up}
use Rattle.components.specs.Below.{first, grid}
use Rattle.components.specs.Inside.{via, reach, pass, passes, inside}
use Rattle.components.specs.Nodes.{in_component, lowest, is_lowest, heads, nodes, node_of, components, component_of, lowest_of, component_at}
use Rattle.components.specs.Depth.{depth_below, depth}
use Rattle.components.specs.Law.{Lone}
use Rattle.components.proofs.Nodes.{lone_from}
use Rattle.rules.specs.Choosing.{largest, smallest}
use Rattle.rules.specs.Setting.{least_reward, largest_reward}
use Rattle.rules.specs.Book.{start}
use Rattle.rules.specs.Refine.{best, largest_up, least_down, attains, halfway, shifted, held, next_vector, next_hi, next_lo, next_recorded, step, refine}
use Rattle.rules.specs.Sweep.{staying, best_of, update, updates, sweep, still, sweeps}
use Rattle.rules.specs.Layers.{layer, level}
use Rattle.rules.specs.Play.{distance, toward, play}
use Rattle.history.specs.Calls.{opened, after_load, after_call, after_idle, next}
use Rattle.history.specs.Answers.{load_answer, refine_answer, quote_answer, plan_answer, answer_loaded, answer_idle, answer, answers}
use Rattle.history.specs.Models.{model_a, model_b, model_c, model_d, model_e, model_f, no_states, coarse, no_choices, dear, no_branches, astray, weightless, twice, light}
use Rattle.history.specs.Worked.{Works, worked_cases, Worked}

-- state 0 of a lawful table is lone, by the test
lone_0 : (T : Table) → fault_of T ≡ None → 0 < T.states → in_component T 0 ≡ false → AllByRecursion (Lone T) (0 ∷ [])
lone_0 T kept h f = (lone_from T ((walk_law T).lawful.0 kept) 0 h f, tt)

lone_c : AllByRecursion (Lone model_c) (0 ∷ [])
unfolding model_c grid via reach pass passes inside in_component
lone_c = lone_0 model_c refl (omega arith) refl

lone_d : AllByRecursion (Lone (model_d (pos 1))) (0 ∷ [])
unfolding model_d grid via reach pass passes inside in_component
lone_d = lone_0 (model_d (pos 1)) refl (omega arith) refl

lone_f : AllByRecursion (Lone model_f) (0 ∷ [])
unfolding model_f grid via reach pass passes inside in_component
lone_f = lone_0 model_f refl (omega arith) refl

pub worked : Worked
unfolding Worked model_a model_b model_c model_d model_e model_f no_states coarse no_choices dear no_branches astray weightless twice light opened after_load after_call after_idle next load_answer refine_answer quote_answer plan_answer answer_loaded answer_idle answer answers first grid via reach pass passes inside in_component lowest is_lowest heads nodes node_of components component_of lowest_of component_at depth_below depth largest smallest least_reward largest_reward start best largest_up least_down attains halfway shifted held next_vector next_hi next_lo next_recorded step refine staying best_of update updates sweep still sweeps round_down round_up layer level distance toward play
worked =
    let last : AllByRecursion Works (drop 17 worked_cases) =
    ((tt, tt, refl), ((tt, tt, refl), ((tt, tt, refl), ((tt, tt, refl), ((tt, tt, refl), tt))))) in
    let turned : AllByRecursion Works (drop 8 worked_cases) =
    ((tt, tt, refl), ((tt, tt, refl), ((tt, tt, refl), ((tt, tt, refl), ((tt, tt, refl), ((tt, tt, refl), ((tt, tt, refl), ((tt, tt, refl), ((tt, tt, refl), last))))))))) in
    ((refl, tt, refl), ((refl, tt, refl), ((tt, tt, refl), ((tt, lone_c, refl), ((tt, lone_d, refl), ((tt, tt, refl), ((refl, tt, refl), ((refl, lone_f, refl), turned))))))))
