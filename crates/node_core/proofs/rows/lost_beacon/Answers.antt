use Rattle.node_core.proofs.RowsComputed.{sense_runs, control_sends, act_runs}
use Rattle.node_core.proofs.rows.lost_beacon.Goals as goal

pub returns-clause-sense : goal.returns-clause-sense
returns-clause-sense c = sense_runs

pub returns-clause-control : goal.returns-clause-control
returns-clause-control c = control_sends

pub returns-clause-act : goal.returns-clause-act
returns-clause-act c = act_runs
