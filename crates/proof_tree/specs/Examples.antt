-- What the definitions say of small documents.
use Rattle.std.specs.Prelude.{◌≡◌, ℕ, codes, List, [], ◌∷◌, Some, None, Result, Ok, Err, pos, ◌++◌}
use Rattle.app_graph.specs.declared.mode_set.ModeSet.{ModeSet}
use Rattle.sched_model.specs.declared.trees.TreeNode.TheVariants as nodes
use Rattle.sched_model.specs.PlainMode.{PlainMode}
use Rattle.sched_model.specs.declared.schedule.Schedule.{Schedule}
use Rattle.proof_tree.specs.Items.{Head, ModeNamed, Refute, Branch, Full, Cycle, ScheduleOf, Start, TaskAt, MessageAt, TableOf, End}
use Rattle.proof_tree.specs.Grammar.{item_of}
use Rattle.proof_tree.specs.TreeLines.{Items}
use Rattle.proof_tree.specs.declared.tree.Tree.{Tree}
use Rattle.proof_tree.specs.declared.tree.ModePart.{ModePart}
use Rattle.proof_tree.specs.PlanText.{plan_text}
use Rattle.proof_tree.specs.Accepting.{DocMode, doc_modes, items_of}
use Rattle.proof_tree.specs.Reading.{Place, Refusal, Grammar, Names, BadLeaf, Extra, MissingCount, Unfinished, read_document}

-- the plan of a loop of three tasks
abbrev pub loop_plan : List ℕ
loop_plan = codes "ttw 1\nmode run\nrefute 1\nbranch\ncycle 17 2 6\nbranch\ncycle 19 4 11\ncycle 19 18 9 11\ncycle 20 14 16 3\ncycle 18 7 3\nschedule 2\nstart 0 23\ntask sense 21\ntask ctrl 43\ntask act 120\nmessage m1 23 43\nmessage m2 48 120\ntable 1 m2\ntable 2 m1\nend\n"

-- what its lines say
abbrev pub loop_items : Items
loop_items =
    Some Head ∷
    Some (ModeNamed (codes "run")) ∷
    Some (Refute 1) ∷
    Some Branch ∷
    Some (Cycle (17 ∷ 2 ∷ 6 ∷ [])) ∷
    Some Branch ∷
    Some (Cycle (19 ∷ 4 ∷ 11 ∷ [])) ∷
    Some (Cycle (19 ∷ 18 ∷ 9 ∷ 11 ∷ [])) ∷
    Some (Cycle (20 ∷ 14 ∷ 16 ∷ 3 ∷ [])) ∷
    Some (Cycle (18 ∷ 7 ∷ 3 ∷ [])) ∷
    Some (ScheduleOf 2) ∷
    Some (Start (0 ∷ 23 ∷ [])) ∷
    Some (TaskAt (codes "sense") 21) ∷
    Some (TaskAt (codes "ctrl") 43) ∷
    Some (TaskAt (codes "act") 120) ∷
    Some (MessageAt (codes "m1") 23 43) ∷
    Some (MessageAt (codes "m2") 48 120) ∷
    Some (TableOf 1 (codes "m2" ∷ [])) ∷
    Some (TableOf 2 (codes "m1" ∷ [])) ∷
    Some End ∷ []

-- a mode `m` without tasks and messages
abbrev pub one : PlainMode → List DocMode
one m = record { name = codes "m"; tasks = []; messages = []; mode = m } ∷ []

-- where the reading of a document ends
abbrev pub ends : List DocMode → List ℕ → Result Place Refusal
ends modes bytes = (read_document modes (items_of bytes)).ended

-- lines that have a form, and lines that have none
pub record LineRows : Type 0 where
  pub whole : items_of loop_plan ≡ loop_items
  pub leading_zero : item_of (codes "refute 01") ≡ None
  pub greatest : item_of (codes "full 2000000000000") ≡ Some (Full 2000000000000)
  pub too_great : item_of (codes "full 2000000000001") ≡ None
  pub two_spaces : item_of (codes "task  a 1") ≡ None
  pub space_at_end : item_of (codes "short ") ≡ None
  pub empty : item_of [] ≡ None
  pub capital : item_of (codes "mode Run") ≡ None
  pub no_name : item_of (codes "mode ") ≡ None
  pub no_start : item_of (codes "start") ≡ None
  pub no_table_number : item_of (codes "table m1") ≡ None
  pub empty_table : item_of (codes "table 3") ≡ Some (TableOf 3 [])

-- documents of no mode and of one, and where they are refused
pub record PlaceRows (m : PlainMode) : Type 0 where
  pub whole : ends [] (codes "ttw 1\nend\n") ≡ Ok (record { line = 3; rest = [] })
  pub empty : ends [] [] ≡ Err (Grammar 1)
  pub past : ends [] (codes "ttw 1\nend\nend\n") ≡ Err (Grammar 3)
  pub unfed : ends [] (codes "ttw 1\nend") ≡ Err (Grammar 2)
  pub byte_past : ends [] (codes "ttw 1\nend\nx") ≡ Err (Grammar 3)
  pub other_name : ends (one m) (codes "ttw 1\nmode x\n") ≡ Err (Names 2)
  pub cut : ends (one m) (codes "ttw 1\nmode m\n") ≡ Err (Grammar 3)
  pub count : ends (one m) (codes "ttw 1\nmode m\nschedule 2\n") ≡ Err (MissingCount 0 1)
  pub early : ends (one m) (codes "ttw 1\nmode m\nshort\n") ≡ Err (Grammar 3)
  pub starts : ends (one m) (codes "ttw 1\nmode m\nschedule 1\nstart 0 5\n") ≡ Err (Grammar 4)
  pub zeros : ends (one m) (codes "ttw 1\nmode m\nschedule 01\n") ≡ Err (Grammar 3)
  pub other_table : ends (one m) (codes "ttw 1\nmode m\nschedule 1\nstart 0\ntable 2\n") ≡ Err (Grammar 5)
  pub unknown_message : ends (one m) (codes "ttw 1\nmode m\nschedule 1\nstart 0\ntable 1 x\n") ≡ Err (Names 5)

-- ---- a control loop over three nodes: sensing, control, acting

-- the set
abbrev pub loop_set : ModeSet
loop_set = record {
  slots = 2;
  round = pos 20;
  gap = pos 100;
  host = 0;
  nodes = codes "n0" ∷ codes "n1" ∷ codes "n2" ∷ [];
  modes = record {
    name = codes "run";
    apps = record {
      name = codes "loop";
      period = pos 100;
      deadline = pos 100;
      tasks = record { name = codes "sense"; node = 1; wcet = pos 2; body = codes "tally"; number = 0 }
          ∷ record { name = codes "ctrl"; node = 0; wcet = pos 5; body = codes "tally"; number = 1 }
          ∷ record { name = codes "act"; node = 2; wcet = pos 1; body = codes "tally"; number = 2 } ∷ [];
      messages = record { name = codes "m1"; from = 0 ∷ []; to = 1 ∷ []; number = 0; copies = 1 } ∷ record { name = codes "m2"; from = 1 ∷ []; to = 2 ∷ []; number = 1; copies = 1 } ∷ [];
    } ∷ [];
  } ∷ [];
}

-- its schedule of two rounds
abbrev pub loop_schedule : Schedule
loop_schedule = record {
  starts = pos 0 ∷ pos 23 ∷ [];
  tasks = pos 21 ∷ pos 43 ∷ pos 120 ∷ [];
  messages = (pos 23, pos 43) ∷ (pos 48, pos 120) ∷ [];
  tables = (1 ∷ []) ∷ (0 ∷ []) ∷ [];
}

-- the tree for one round
abbrev pub loop_tree : Tree
loop_tree = record {
  nodes = nodes.Branch ∷ nodes.Cycle 0 3 ∷ nodes.Branch ∷ nodes.Cycle 3 3 ∷ nodes.Cycle 6 4 ∷ nodes.Cycle 10 4 ∷ nodes.Cycle 14 3 ∷ [];
  refs = 17 ∷ 2 ∷ 6 ∷ 19 ∷ 4 ∷ 11 ∷ 19 ∷ 18 ∷ 9 ∷ 11 ∷ 20 ∷ 14 ∷ 16 ∷ 3 ∷ 18 ∷ 7 ∷ 3 ∷ [];
}

-- its plan
abbrev pub loop_parts : List ModePart
loop_parts = record { refuted = loop_tree ∷ []; schedule = Some loop_schedule } ∷ []

-- the document's first nine lines, up to the last leaf of its tree
abbrev pub loop_front : List ℕ
loop_front = codes "ttw 1\nmode run\nrefute 1\nbranch\ncycle 17 2 6\nbranch\ncycle 19 4 11\ncycle 19 18 9 11\ncycle 20 14 16 3\n"

-- its document, what reading it gives, and where changed documents are refused
pub record LoopRows : Type 0 where
  pub text : plan_text loop_set loop_parts ≡ loop_plan
  pub plans : (read_document (doc_modes loop_set) loop_items).plans ≡ Some loop_schedule ∷ []
  pub ended : (read_document (doc_modes loop_set) loop_items).ended ≡ Ok (record { line = 21; rest = [] })
  pub bad_leaf : ends (doc_modes loop_set) (codes "ttw 1\nmode run\nrefute 1\nbranch\ncycle 17 2 7\n") ≡ Err (BadLeaf 5)
  pub out_of_force : ends (doc_modes loop_set) (codes "ttw 1\nmode run\nrefute 1\nbranch\ncycle 19\n") ≡ Err (BadLeaf 5)
  pub cut : ends (doc_modes loop_set) loop_front ≡ Err (Grammar 10)
  pub unfinished : ends (doc_modes loop_set) (loop_front ++ codes "schedule 2\n") ≡ Err (Unfinished 0)
  pub extra : ends (doc_modes loop_set) (loop_front ++ codes "cycle 18 7 3\nshort\n") ≡ Err (Extra 11)
  pub missing : ends (doc_modes loop_set) (loop_front ++ codes "cycle 18 7 3\nrefute 3\n") ≡ Err (MissingCount 0 2)
  pub other_task : ends (doc_modes loop_set) (loop_front ++ codes "cycle 18 7 3\nschedule 2\nstart 0 23\ntask ctrl 21\n") ≡ Err (Names 13)
