use Rattle.sched_model.proofs.OneTurn.{classes_apart, windows, entries}
use Rattle.sched_model.proofs.laws.one_hyperperiod_decides.Goals as goal

pub returns : goal.returns
returns c = λ m r s ok shape rounds offsets messages.
    (classes_apart m r s ok shape rounds offsets messages, windows m r s ok shape rounds offsets messages, entries m r s ok shape rounds offsets messages)
