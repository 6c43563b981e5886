-- Bodies that are handed in: the state of each is a number for each task
use Rattle.std.specs.Prelude.{ℕ, cond, nat_eq, List, [], ◌∷◌, map, filter, slice_index_or, slice_set, Option, ℤ, pos}
use Rattle.std.specs.List.{flat_map}
use Rattle.sched_model.specs.PlainMode.{task_at}
use Rattle.task_body.specs.Body.{BodySeen, body_at}
use Rattle.runtime_model.specs.Plans.{Plan}
use Rattle.runtime_model.specs.Outcomes.{Outcome, Step, started, restarted}
use Rattle.runtime_model.specs.System.{no_plan}

-- the bodies, and the place of the body of the task of each number
pub record Bodies : Type 0 where
  pub each : List BodySeen
  pub place : ℕ → ℕ

-- the numbers of all tasks on node v, in order
abbrev pub tasks_on : List Plan → ℕ → List ℕ
tasks_on plans v = flat_map (λ p. map (λ t. t.number) (filter (λ t. nat_eq t.node v) p.mode.tasks)) plans

-- the state of the body at place b after a reset of each of these tasks that has it: a reset makes the task's number 0
abbrev pub reset_all : Bodies → ℕ → List ℕ → List ℤ → List ℤ
reset_all bodies b [] s = s
reset_all bodies b (a ∷ rest) s = reset_all bodies b rest (cond (nat_eq (bodies.place a) b) (slice_set s a (pos 0)) s)

-- the state of the body at place b after one event of a mode with plan p: a start fires its task's body,
-- and a restart resets the bodies of the node's tasks, of all modes
abbrev pub state_after : List Plan → Bodies → ℕ → Plan → Outcome → List ℤ → List ℤ
state_after plans bodies b p (started v a k ins x) s =
    let number = (task_at p.mode a).number in
    cond (nat_eq (bodies.place number) b) ((body_at bodies.each b).after_fire s number ins) s
state_after plans bodies b p (restarted v) s = reset_all bodies b (tasks_on plans v) s
state_after plans bodies b p o s = s

-- the state of the body at place b after these steps
abbrev pub state : List Plan → Bodies → ℕ → List Step → List ℤ
state plans bodies b [] = (body_at bodies.each b).numbers
state plans bodies b (d ∷ ds) = state_after plans bodies b (slice_index_or plans d.spot.hyper.mode no_plan) d.out (state plans bodies b ds)

-- what these bodies answer after these steps, by their states
abbrev pub by_bodies : List Plan → Bodies → List Step → ℕ → List (Option ℤ) → ℤ
by_bodies plans bodies ds number ins = let b = bodies.place number in (body_at bodies.each b).answer (state plans bodies b ds) number ins
