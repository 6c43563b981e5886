-- The faults of a mode file
use Rattle.app_graph.specs.declared.faults.GraphFault.{GraphFault}
use Rattle.app_graph.specs.declared.faults.GraphFault.TheVariants as graph
use Rattle.mode_file.specs.declared.faults.FileFault.{FileFault}
use Rattle.mode_file.specs.declared.faults.FileFault.TheVariants as file

-- the fault of a mode file whose values or graphs have this fault
abbrev pub of_graph : GraphFault → FileFault
of_graph (graph.OutOfRange key) = file.OutOfRange key
of_graph (graph.Repeated name) = file.Repeated name
of_graph (graph.Unknown name) = file.Unknown name
of_graph (graph.TwoSenders name) = file.TwoSenders name
of_graph (graph.Cycle name) = file.Cycle name
of_graph (graph.DeadlineLong name) = file.DeadlineLong name
of_graph (graph.TooMany key) = file.TooMany key
of_graph graph.Memory = file.Memory
