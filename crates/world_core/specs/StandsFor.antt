-- When a world and the bodies that are handed in stand for a list of events, the latest first
use Rattle.std.specs.Prelude.{◌≡◌, ℕ, ◌<◌, List, [], length, map, slice_index_or, unwrap_or}
use Rattle.std.specs.List.{flat_map, position}
use Rattle.std.specs.Str.{bytes_eq}
use Rattle.app_graph.specs.declared.mode_set.ModeSet.{ModeSet}
use Rattle.sched_model.specs.declared.schedule.Schedule.{Schedule}
use Rattle.sched_model.specs.Numbers.{below}
use Rattle.task_body.specs.Body.{BodySeen, body_at}
use Rattle.runtime_model.specs.Bodies.{Bodies, by_bodies, state}
use Rattle.runtime_model.specs.Outcomes.{PlainEvent, Step, advance, request, restart}
use Rattle.runtime_model.specs.Plans.{Plan, plans_of}
use Rattle.runtime_model.specs.System.{System, system_of}
use Rattle.runtime_model.specs.History.{history}
use Rattle.world_core.specs.declared.happened.Event.{Event}
use Rattle.world_core.specs.declared.happened.Event.TheVariants.{Advance, Request, Restart}
use Rattle.world_core.specs.Standing.{Stands}
use Rattle.world_core.specs.Worlds.{WorldSeen}

-- an event of the code as one of the definitions
abbrev pub plain_event : Event → PlainEvent
plain_event (Advance lost) = advance lost
plain_event (Request mode) = request mode
plain_event (Restart node) = restart node

-- the names of the bodies of all tasks, in file order: a task's number is its place
abbrev pub body_names : ModeSet → List (List ℕ)
body_names set = flat_map (λ mode. flat_map (λ app. map (λ t. t.body) app.tasks) mode.apps) set.modes

-- the place of the first body with this name; the number of bodies where none has it
abbrev pub place_of_body : List BodySeen → List ℕ → ℕ
place_of_body bodies name = unwrap_or (position (λ b. bytes_eq name b.name) bodies) (length bodies)

-- every task has a body: some body has its body's name
abbrev pub HaveBodies : ModeSet → List BodySeen → Type 0
HaveBodies set bodies = (task : ℕ) → task < length (body_names set) → place_of_body bodies (slice_index_or (body_names set) task []) < length bodies

-- the bodies as they are at the world's making, and for each task the first with its body's name
abbrev pub bodies_of : ModeSet → List BodySeen → Bodies
bodies_of set made = record { each = made; place = λ task. place_of_body made (slice_index_or (body_names set) task []) }

-- what runs: the set with its schedules, and these bodies
abbrev pub system_with : ModeSet → List Schedule → List BodySeen → System
system_with set schedules made = system_of set schedules (by_bodies (plans_of set schedules) (bodies_of set made))

-- the bodies after these steps: each is as it was made, but for its numbers
abbrev pub bodies_after : List Plan → Bodies → List Step → List BodySeen
bodies_after plans bodies ds = map (λ b. record (body_at bodies.each b) { numbers = state plans bodies b ds }) (below (length bodies.each))

-- The world stands for the events, where the bodies were these when it was made, and are these now
pub record StandsFor (set : ModeSet) (schedules : List Schedule) (made : List BodySeen) (w : WorldSeen) (now : List BodySeen) (es : List PlainEvent) : Type 0 where
  pub world : Stands (system_with set schedules made) w (history (system_with set schedules made) es)
  pub places : w.places ≡ map (place_of_body made) (body_names set)
  pub bodies : now ≡ bodies_after (plans_of set schedules) (bodies_of set made) (history (system_with set schedules made) es)
