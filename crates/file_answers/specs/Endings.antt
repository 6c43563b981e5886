-- How a run ends: its status, what was added to the sink, and the counts of faults and of flushes before it and after
use Rattle.std.specs.Prelude.{◌≡◌, ℕ, ◌⊎◌, Bool, false, List, Option}
use Rattle.std.specs.Io.KnownBytes.{append_known}
use Rattle.ttw_io.specs.Outside.{Rose, AddsFront, one_more}
use Rattle.file_answers.specs.declared.status.Status.{Status}
use Rattle.file_answers.specs.declared.status.Status.TheVariants.{ReadFault, WriteFault, Memory}
use Rattle.file_answers.specs.FaultLines.{read_fault_line}

-- of a sink the counts of faults and of flushes, before the run and after it, and whether it was written to after the last
-- flush
pub record SinkCounts : Type 0 where
  pub faults_before : ℕ
  pub faults_now : ℕ
  pub flushes_before : ℕ
  pub flushes_now : ℕ
  pub unflushed : Bool

-- the counts of faults of the files, before the run and after it, and those of the sink
pub record Counts : Type 0 where
  pub reads_before : ℕ
  pub reads_now : ℕ
  pub sink : SinkCounts

-- the sink was flushed once, and not written to after that
pub record FlushedOnce (sink : SinkCounts) : Type 0 where
  pub once : sink.flushes_now ≡ one_more sink.flushes_before
  pub last : sink.unflushed ≡ false

-- the sink was not flushed
abbrev pub NotFlushed : SinkCounts → Type 0
NotFlushed sink = sink.flushes_now ≡ sink.flushes_before

-- the whole text that is due with this status was added
abbrev pub AddsDue : (Status → List ℕ → Type 0) → Status → Option (List ℕ) → Option (List ℕ) → Type 0
AddsDue Due status old new = (text : List ℕ) × Due status text × (new ≡ append_known old text)

-- nothing was added, or a prefix of a text that is due
abbrev pub AddsFrontOf : (Status → List ℕ → Type 0) → Option (List ℕ) → Option (List ℕ) → Type 0
AddsFrontOf Due old new = (new ≡ old) ⊎ ((status : Status) × (text : List ℕ) × Due status text × AddsFront old new text)

-- where the count of the files rose, the line of a read fault is due
abbrev pub ReadFaultDue : Counts → Status → List ℕ → Type 0
ReadFaultDue counts status text = Rose counts.reads_before counts.reads_now × (status ≡ ReadFault) × (text ≡ read_fault_line)

-- the sink failed: at a write, after which no flush came, or at the flush after the whole text
abbrev pub FailsWriting : (Status → List ℕ → Type 0) → SinkCounts → Option (List ℕ) → Option (List ℕ) → Type 0
FailsWriting Due sink old new =
    (NotFlushed sink × AddsFrontOf Due old new) ⊎ (FlushedOnce sink × ((status : Status) × AddsDue Due status old new))

-- a run ends with a status and text that are due; or the count of the files rose, and it ends with the line of a read fault;
-- or the count of the sink rose, or memory ran out, and a prefix of such a text was added. The flush comes once, after the
-- last write of the whole text, and not after less of it
abbrev pub Ends : (Status → List ℕ → Type 0) → Counts → Option (List ℕ) → Option (List ℕ) → Status → Type 0
Ends Due counts old new Memory = NotFlushed counts.sink × AddsFrontOf Due old new
Ends Due counts old new WriteFault = Rose counts.sink.faults_before counts.sink.faults_now × FailsWriting (λ status text. Due status text ⊎ ReadFaultDue counts status text) counts.sink old new
Ends Due counts old new ReadFault = FlushedOnce counts.sink × AddsDue (ReadFaultDue counts) ReadFault old new
Ends Due counts old new status = FlushedOnce counts.sink × AddsDue Due status old new

-- a flush ends with the status that is due, or failed
abbrev pub IsFlushed : Status → ℕ → ℕ → Status → Type 0
IsFlushed due before now status = (status ≡ due) ⊎ ((status ≡ WriteFault) × Rose before now)

-- what writing a text ends with: the status that goes with it after the flush, or a write fault of a write or of the flush
abbrev pub Finishes : Status → List ℕ → SinkCounts → Option (List ℕ) → Option (List ℕ) → Status → Type 0
Finishes due text sink old new status =
    ((status ≡ due) × FlushedOnce sink × (new ≡ append_known old text))
    ⊎ ((status ≡ WriteFault) × Rose sink.faults_before sink.faults_now
    × ((NotFlushed sink × AddsFront old new text) ⊎ (FlushedOnce sink × (new ≡ append_known old text))))

-- what writing a trace ends with: the same, or it never began, since memory ran out
abbrev pub FinishesOrNot : Status → List ℕ → SinkCounts → Option (List ℕ) → Option (List ℕ) → Status → Type 0
FinishesOrNot due text sink old new status =
    Finishes due text sink old new status ⊎ ((status ≡ Memory) × NotFlushed sink × (new ≡ old))
