-- What the definitions say: extremes, rewards, the start, steps, sweeps and plays, put together.
use Rattle.table.specs.Table.{Table}
use Rattle.table.specs.Limits.{Lawful}
use Rattle.rules.specs.Choosing.{largest, smallest}
use Rattle.rules.specs.Candidates.{CandidateOf}
use Rattle.rules.specs.Meaning.{Extremes, RewardLaw, EveryMeaning}
use Rattle.rules.proofs.Sides.{rewards_between, least_attained, largest_attained}
use Rattle.rules.proofs.Candidates.{best_first}
use Rattle.rules.proofs.Same.{largest_one, smallest_one, the_largest, the_smallest, best_one}
use Rattle.rules.proofs.Ends.{the_refine, the_sweeps}
use Rattle.rules.proofs.StartMeaning.{the_start}
use Rattle.rules.proofs.StepMeaning.{the_step}
use Rattle.rules.proofs.UpdateMeaning.{the_update, the_sweep}
use Rattle.rules.proofs.PlayMeaning.{the_distance, the_play}

extremes : Extremes
extremes = record {
  most = λ n p f i h e.
      let w = the_largest n p f i h e in
      record { has = w; only = λ m x. largest_one n p f m (largest n p f) x w };
  least = λ n p f i h e.
      let w = the_smallest n p f i h e in
      record { has = w; only = λ m x. smallest_one n p f m (smallest n p f) x w };
}

reward_law : (T : Table) → Lawful T → RewardLaw T
reward_law T L = record { between = rewards_between T; least = least_attained T L; largest = largest_attained T L }

pub every_meaning : EveryMeaning
every_meaning = record {
  extremes = extremes;
  rules = λ M L. record {
    rewards = reward_law M.table L;
    starts = the_start M L;
    steps = λ k B known S. the_step M L k known B S;
    refining = λ k n width B. the_refine M k width n B;
    candidates = λ rounds bounds values v l.
        let x = best_first M L rounds bounds values v l in
        (x.0, x.1, record { has = x.2; only = λ b w. best_one (CandidateOf M rounds bounds values v) b x.0 w x.2 });
    updates = λ v B l S. the_update M L B S v l;
    one_sweep = the_sweep M L;
    sweeping = the_sweeps M;
    distances = λ t s ht hs e. the_distance M.table L t ht s hs e;
    plays = λ B s h fits. the_play M L B s h fits;
  };
}
